-- Records by index into the words.
use Prim.Native.Nat.{ℕ, ◌+◌, ◌*◌, ◌≤◌, ◌<◌}
use native.Mathlib.Omega.{arith}
use mathlib.Core.Path.{◌≡◌, refl, ap}
use mathlib.Core.Bool.{Bool, true, false, cond, ◌&&◌}
use mathlib.Core.Logic.{inl, inr}
use mathlib.Core.List.{List, [], ◌∷◌}
use lib.ListN.{length, get_or, get_or-eq_default}
use lib.Dec.{T, leb, eqb, leb→le}
use borrow.Author.Tests.{lt-ltb}
use Rattle.layout.specs.Problems.Cones.{Cone, records, whole_records, reads, row_count}
use Rattle.layout.specs.General.Lists.{all}
use Rattle.layout.specs.Checks.{no_cone, sizes_bounded, cones_bounded, cones_read}
use Rattle.layout.proofs.Lists.Tests.{and_iff, lt_or_le, passed, passes, differ}
use Rattle.layout.proofs.Lists.Members.{all-at}
use Rattle.layout.proofs.Patterns.Records.{record_count_lem, record_at_lem}
use Rattle.supportedcone.specs.Cases.{cone_record, record_at}
use Rattle.supportedcone.specs.Ranges.{row_total, is_psd_of}

pub inside : (ws : List ℕ) (i : ℕ) → i < length (records ws) → i * 3 + 3 ≤ length ws
inside ws i h = omega (arith, record_count_lem ws)

-- record i is made of words 3i, 3i + 1 and 3i + 2
pub record_in : (ws : List ℕ) (i : ℕ) → i < length (records ws)
    → record_at ws i ≡ cone_record (get_or ws (i * 3) 0) (get_or ws (i * 3 + 1) 0) (get_or ws (i * 3 + 2) 0)
record_in ws i h = record_at_lem ws i no_cone (inside ws i h)

pub record_out : (ws : List ℕ) (i : ℕ) → length (records ws) ≤ i → record_at ws i ≡ no_cone
record_out ws i h = get_or-eq_default (records ws) no_cone h

-- there is no partial record if the words are three for each record
pub whole : (ws : List ℕ) → length (records ws) * 3 ≡ length ws → whole_records ws ≡ true
whole [] e = refl
whole (k ∷ []) e = absurd (omega arith)
whole (k ∷ a ∷ []) e = absurd (omega arith)
whole (k ∷ a ∷ c ∷ ws) e = whole ws (omega arith)

pub part_record : (ws : List ℕ) → (length (records ws) * 3 ≡ length ws → ⊥) → whole_records ws ≡ false
part_record [] n = absurd (n refl)
part_record (k ∷ []) n = refl
part_record (k ∷ a ∷ []) n = refl
part_record (k ∷ a ∷ c ∷ ws) n = part_record ws (λ e. n (omega arith))

-- if all records pass a test, record i passes it
pub every_record : (p : Cone → Bool) (ws : List ℕ) (i : ℕ) → all p (records ws) ≡ true → i < length (records ws) → p (record_at ws i) ≡ true
every_record p ws i h l = passed (p (record_at ws i)) ((all-at no_cone p (records ws)).0 (passes (all p (records ws)) h) i l)

-- check 1 of all records, and of one
both : (ws : List ℕ) → cones_bounded ws ≡ true → T (leb (length (records ws)) 1024) × T (all sizes_bounded (records ws))
both ws h = (and_iff (leb (length (records ws)) 1024) (all sizes_bounded (records ws))).0 (passes (cones_bounded ws) h)

pub few-records : (ws : List ℕ) → cones_bounded ws ≡ true → length (records ws) ≤ 1024
few-records ws h = leb→le (length (records ws)) 1024 (both ws h).0

pub bounded_at : (ws : List ℕ) (i : ℕ) → cones_bounded ws ≡ true → sizes_bounded (record_at ws i) ≡ true
bounded_at ws i h = elim (lt_or_le i (length (records ws))) [
  | inl l ↦ every_record sizes_bounded ws i (passed (all sizes_bounded (records ws)) (both ws h).1) l
  | inr l ↦ ap sizes_bounded (record_out ws i l)
]

-- where every record reads as a kind, an index whose record reads as none has no rows
pub unread_rows : (ws : List ℕ) (i : ℕ) → all reads (records ws) ≡ true → reads (record_at ws i) ≡ false → row_count (record_at ws i) ≡ 0
unread_rows ws i h e = elim (lt_or_le i (length (records ws))) [
  | inl l ↦ absurd (differ (reads (record_at ws i)) (every_record reads ws i h l) e)
  | inr l ↦ ap row_count (record_out ws i l)
]

pub psd_in : (ws : List ℕ) (i v : ℕ) → i < length (records ws) → is_psd_of ws i v ≡ (eqb (get_or ws (i * 3) 0) 6 && eqb (get_or ws (i * 3 + 1) 0) v)
psd_in ws i v h =
    rw (lt-ltb i (length (records ws)) h) (ap (λ (c : Cone). eqb c.kind 6 && eqb c.first v) (record_in ws i h))

-- ---- facts for callers once checks 1 and 4 have passed

pub cones-read : (m : ℕ) (ws : List ℕ) → ◌≡◌ {A = ℕ} (cond (cones_read m ws) 0 4) 0 → cones_read m ws ≡ true
cones-read m ws e = go (cones_read m ws) e
  where
    go : (b : Bool) → ◌≡◌ {A = ℕ} (cond b 0 4) 0 → b ≡ true
    go true h = refl
    go false h = absurd (omega arith)

pub all_read : (m : ℕ) (ws : List ℕ) → cones_read m ws ≡ true → all reads (records ws) ≡ true
all_read m ws h =
    let (both, rows) = (and_iff (whole_records ws && all reads (records ws)) (eqb (row_total (records ws)) m)).0 (passes (cones_read m ws) h) in
    passed (all reads (records ws)) ((and_iff (whole_records ws) (all reads (records ws))).0 both).1
