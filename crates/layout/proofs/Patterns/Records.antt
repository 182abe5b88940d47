-- Cone records by index, and the records of appended words.
use Prim.Native.Nat.{ℕ, zero, suc, ◌+◌, ◌*◌, ◌≤◌, ◌<◌}
use native.Mathlib.Omega.{arith}
use mathlib.Core.Path.{◌≡◌, refl, ap}
use mathlib.Core.List.{List, [], ◌∷◌, ◌++◌}
use lib.ListN.{length, get_or}
use lib.Dec.{T}
use Rattle.layout.specs.Problems.Cones.{Cone, records, whole_records}
use Rattle.layout.specs.General.Lists.{join}
use Rattle.layout.specs.Cuts.Compact.{cone_words}

-- the number of complete records is a third of the number of words, rounded down
pub record_count_lem : (ws : List ℕ) → (length ws < length (records ws) * 3 + 3) × (length (records ws) * 3 ≤ length ws)
record_count_lem [] = omega arith
record_count_lem (k ∷ []) = omega arith
record_count_lem (k ∷ a ∷ []) = omega arith
record_count_lem (k ∷ a ∷ c ∷ ws) = let h = record_count_lem ws in omega arith

shift : (k a c : ℕ) (ws : List ℕ) (m n : ℕ) → m ≡ suc (suc (suc n)) → get_or (k ∷ a ∷ c ∷ ws) m 0 ≡ get_or ws n 0
shift k a c ws m n e = rw e

pub record_at_lem : (ws : List ℕ) (i : ℕ) (d : Cone) → i * 3 + 3 ≤ length ws
    → get_or (records ws) i d ≡ record { kind = get_or ws (i * 3) 0; first = get_or ws (i * 3 + 1) 0; second = get_or ws (i * 3 + 2) 0 }
record_at_lem [] i d h = absurd (omega arith)
record_at_lem (k ∷ []) i d h = absurd (omega arith)
record_at_lem (k ∷ a ∷ []) i d h = absurd (omega arith)
record_at_lem (k ∷ a ∷ c ∷ ws) zero d h = refl
record_at_lem (k ∷ a ∷ c ∷ ws) (suc i) d h =
    rw (shift k a c ws (suc i * 3) (i * 3) (omega arith), shift k a c ws (suc i * 3 + 1) (i * 3 + 1) (omega arith), shift k a c ws (suc i * 3 + 2) (i * 3 + 2) (omega arith))
    (record_at_lem ws i d (omega arith))

-- the records of appended words are the records of the first words, if these are complete records, then those of the second
pub records-append : (ws vs : List ℕ) → T (whole_records ws) → records (ws ++ vs) ≡ records ws ++ records vs
records-append [] vs h = refl
records-append (k ∷ []) vs h = absurd h
records-append (k ∷ a ∷ []) vs h = absurd h
records-append (k ∷ a ∷ c ∷ ws) vs h =
    ap (λ (r : List Cone). record { kind = k; first = a; second = c } ∷ r) (records-append ws vs h)

pub whole_append : (ws vs : List ℕ) → T (whole_records ws) → whole_records (ws ++ vs) ≡ whole_records vs
whole_append [] vs h = refl
whole_append (k ∷ []) vs h = absurd h
whole_append (k ∷ a ∷ []) vs h = absurd h
whole_append (k ∷ a ∷ c ∷ ws) vs h = whole_append ws vs h

-- complete records have three words each
pub whole_thirds : (ws : List ℕ) → T (whole_records ws) → length ws ≡ 3 * length (records ws)
whole_thirds [] h = refl
whole_thirds (k ∷ []) h = absurd h
whole_thirds (k ∷ a ∷ []) h = absurd h
whole_thirds (k ∷ a ∷ c ∷ ws) h = omega (arith, whole_thirds ws h)

-- the words of records read back as these records
pub words-records : (cs : List Cone) → (records (join cone_words cs) ≡ cs) × T (whole_records (join cone_words cs))
words-records [] = (refl, tt)
words-records (c ∷ cs) = let (same, thirds) = words-records cs in (ap (λ (l : List Cone). c ∷ l) same, thirds)
