-- Records that read as no kind, and what the result of a reading says about its record.
use Prim.Native.Nat.{ℕ, zero, suc, ◌≤◌, ◌<◌}
use mathlib.Core.Path.{◌≡◌, refl, sym, ap, subst, ◌∙◌}
use mathlib.Core.Bool.{Bool, true, false, cond}
use mathlib.Core.Logic.{◌⊎◌, inl, inr}
use mathlib.Core.List.{List, [], ◌∷◌}
use lib.ListN.{length, get_or}
use lib.Dec.{T, leb, eqb}
use lib.Ieee.{Float}
use borrow.Author.Tests.{ne_eqb, le-leb, lt-leb}
use Rattle.layout.specs.General.Floats.{zero64}
use Rattle.layout.specs.Problems.Cones.{Cone, Kind, zero_cone, nonnegative, second_order, exponential, power, gen_power, psd_triangle, no_kind, kind_of, reads, alpha_count}
use Rattle.layout.proofs.Lists.Tests.{lt_or_le, and_right}
use Rattle.supportedcone.specs.declared.SupportedCone.{SupportedCone}
use Rattle.supportedcone.specs.declared.SupportedCone.TheVariants.{ZeroConeT, NonnegativeConeT, SecondOrderConeT, ExponentialConeT, PowerConeT, GenPowerConeT, PSDTriangleConeT}
use Rattle.std.proofs.Common.{Option, Some, None}
use Rattle.supportedcone.specs.Cases.{cone_record, record_of, exponent_of, Answer, cone, refused, told, reads_as, reads_with}

-- ---- records that read as no kind

second_unused : (k a c : ℕ) → (k ≡ 5 → ⊥) → (c ≡ 0 → ⊥) → reads (cone_record k a c) ≡ false
second_unused zero a c n h = ne_eqb c 0 h
second_unused (suc zero) a c n h = ne_eqb c 0 h
second_unused (suc (suc zero)) a c n h = ne_eqb c 0 h
second_unused (suc (suc (suc zero))) a c n h = and_right (eqb a 0) (eqb c 0) (ne_eqb c 0 h)
second_unused (suc (suc (suc (suc zero)))) a c n h = and_right (eqb a 0) (eqb c 0) (ne_eqb c 0 h)
second_unused (suc (suc (suc (suc (suc zero))))) a c n h = absurd (n refl)
second_unused (suc (suc (suc (suc (suc (suc zero)))))) a c n h = ne_eqb c 0 h
second_unused (suc (suc (suc (suc (suc (suc (suc k))))))) a c n h = refl

-- a kind without a first size
abbrev Unsized : ℕ → Type 0
Unsized k = (k ≡ 0 → ⊥) × (k ≡ 1 → ⊥) × (k ≡ 2 → ⊥) × (k ≡ 5 → ⊥) × (k ≡ 6 → ⊥)

first_unused : (k a c : ℕ) → Unsized k → (a ≡ 0 → ⊥) → reads (cone_record k a c) ≡ false
first_unused zero a c n h = absurd (n.0 refl)
first_unused (suc zero) a c n h = absurd (n.1 refl)
first_unused (suc (suc zero)) a c n h = absurd (n.2 refl)
first_unused (suc (suc (suc zero))) a c n h = rw (ne_eqb a 0 h)
first_unused (suc (suc (suc (suc zero)))) a c n h = rw (ne_eqb a 0 h)
first_unused (suc (suc (suc (suc (suc zero))))) a c n h = absurd (n.3 refl)
first_unused (suc (suc (suc (suc (suc (suc zero)))))) a c n h = absurd (n.4 refl)
first_unused (suc (suc (suc (suc (suc (suc (suc k))))))) a c n h = refl

no_kind_lem : (k a c : ℕ) → Unsized k → (k ≡ 3 → ⊥) → (k ≡ 4 → ⊥) → reads (cone_record k a c) ≡ false
no_kind_lem zero a c n h l = absurd (n.0 refl)
no_kind_lem (suc zero) a c n h l = absurd (n.1 refl)
no_kind_lem (suc (suc zero)) a c n h l = absurd (n.2 refl)
no_kind_lem (suc (suc (suc zero))) a c n h l = absurd (h refl)
no_kind_lem (suc (suc (suc (suc zero)))) a c n h l = absurd (l refl)
no_kind_lem (suc (suc (suc (suc (suc zero))))) a c n h l = absurd (n.3 refl)
no_kind_lem (suc (suc (suc (suc (suc (suc zero)))))) a c n h l = absurd (n.4 refl)
no_kind_lem (suc (suc (suc (suc (suc (suc (suc k))))))) a c n h l = refl

unread : (c : Cone) (α : Float) → reads c ≡ false → reads_as c α ≡ refused 4
unread c α e = ap (λ b. cond b (cone c (cond (eqb c.kind 4) (α ∷ []) [])) (refused 4)) e

pub unread_second : (k a c : ℕ) (α : Float) → (k ≡ 5 → ⊥) → (c ≡ 0 → ⊥) → reads_as (cone_record k a c) α ≡ refused 4
unread_second k a c α n h = unread (cone_record k a c) α (second_unused k a c n h)

pub unread_first : (k a c : ℕ) (α : Float) → Unsized k → (a ≡ 0 → ⊥) → reads_as (cone_record k a c) α ≡ refused 4
unread_first k a c α n h = unread (cone_record k a c) α (first_unused k a c n h)

pub unread_kind : (k a c : ℕ) (α : Float) → Unsized k → (k ≡ 3 → ⊥) → (k ≡ 4 → ⊥) → reads_as (cone_record k a c) α ≡ refused 4
unread_kind k a c α n h l = unread (cone_record k a c) α (no_kind_lem k a c n h l)

-- ---- with the α values not yet used

pub unread_with : (c : Cone) (αs : List Float) → reads c ≡ false → reads_with c αs ≡ refused 4
unread_with c αs e = go (leb (alpha_count c) (length αs)) (unread c (get_or αs 0 zero64) e)
  where
    go : (b : Bool) → reads_as c (get_or αs 0 zero64) ≡ refused 4 → cond b (reads_as c (get_or αs 0 zero64)) (refused 4) ≡ refused 4
    go true h = h
    go false h = refl

pub too_few : (c : Cone) (αs : List Float) → length αs < alpha_count c → reads_with c αs ≡ refused 4
too_few c αs h = ap (λ (b : Bool). cond b (reads_as c (get_or αs 0 zero64)) (refused 4)) (lt-leb (alpha_count c) (length αs) h)

pub enough : (c : Cone) (αs : List Float) → alpha_count c ≤ length αs → reads_with c αs ≡ reads_as c (get_or αs 0 zero64)
enough c αs h = ap (λ (b : Bool). cond b (reads_as c (get_or αs 0 zero64)) (refused 4)) (le-leb (alpha_count c) (length αs) h)

-- ---- what a result says about the record

abbrev is_refused : Answer → Bool
is_refused (cone c αs) = false
is_refused (refused n) = true

abbrev record_in : Cone → Answer → Cone
record_in d (cone c αs) = c
record_in d (refused n) = d

pub told_bad : (c : Cone) (α : Float) → told None ≡ reads_as c α → reads c ≡ false
told_bad c α e = go (reads c) (ap is_refused e)
  where
    go : (b : Bool) → true ≡ is_refused (cond b (cone c (cond (eqb c.kind 4) (α ∷ []) [])) (refused 4)) → b ≡ false
    go true h = h
    go false h = refl

pub told_is : (s : SupportedCone) (c : Cone) (α : Float) → told (Some s) ≡ reads_as c α → (reads c ≡ true) × (record_of s ≡ c)
told_is s c α e = go (reads c) e
  where
    go : (b : Bool) → cone (record_of s) (exponent_of s) ≡ cond b (cone c (cond (eqb c.kind 4) (α ∷ []) [])) (refused 4) → (b ≡ true) × (record_of s ≡ c)
    go true h = (refl, ap (record_in c) h)
    go false h = (ap is_refused h, absurd (subst T (sym (ap is_refused h)) tt))

-- and about the α values not yet used
pub bad_with : (c : Cone) (αs : List Float) → reads c ≡ true → told None ≡ reads_with c αs → length αs < alpha_count c
bad_with c αs r e = go (lt_or_le (length αs) (alpha_count c))
  where
    go : (length αs < alpha_count c) ⊎ (alpha_count c ≤ length αs) → length αs < alpha_count c
    go (inl l) = l
    go (inr l) = absurd (subst T (sym r ∙ told_bad c (get_or αs 0 zero64) (e ∙ enough c αs l)) tt)

pub is_with : (s : SupportedCone) (c : Cone) (αs : List Float) → told (Some s) ≡ reads_with c αs → (record_of s ≡ c) × (alpha_count c ≤ length αs)
is_with s c αs e = go (lt_or_le (length αs) (alpha_count c))
  where
    go : (length αs < alpha_count c) ⊎ (alpha_count c ≤ length αs) → (record_of s ≡ c) × (alpha_count c ≤ length αs)
    go (inl l) = absurd (subst T (sym (ap is_refused (e ∙ too_few c αs l))) tt)
    go (inr l) = ((told_is s c (get_or αs 0 zero64) (e ∙ enough c αs l)).1, l)

-- ---- the record and exponent determine the result

case_of : Kind → ℕ → ℕ → List Float → Option SupportedCone
case_of zero_cone a c αs = Some (ZeroConeT a)
case_of nonnegative a c αs = Some (NonnegativeConeT a)
case_of second_order a c αs = Some (SecondOrderConeT a)
case_of exponential a c αs = Some ExponentialConeT
case_of power a c αs = Some (PowerConeT (get_or αs 0 zero64))
case_of gen_power a c αs = Some (GenPowerConeT a c)
case_of psd_triangle a c αs = Some (PSDTriangleConeT a)
case_of no_kind a c αs = None

answer_of : Answer → Option SupportedCone
answer_of (cone c αs) = case_of (kind_of c.kind) c.first c.second αs
answer_of (refused n) = None

answer-told : (r : Option SupportedCone) → answer_of (told r) ≡ r
unfolding answer_of case_of
answer-told (Some (ZeroConeT a)) = refl
answer-told (Some (NonnegativeConeT a)) = refl
answer-told (Some (SecondOrderConeT a)) = refl
answer-told (Some ExponentialConeT) = refl
answer-told (Some (PowerConeT α)) = refl
answer-told (Some (GenPowerConeT a c)) = refl
answer-told (Some (PSDTriangleConeT a)) = refl
answer-told None = refl
