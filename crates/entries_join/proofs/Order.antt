-- Joining with the words of a map of entries refuses exactly what joining with the entries refuses.
use Prim.Native.Nat.{ℕ, zero, suc, ◌*◌, ◌≤◌}
use native.Mathlib.Omega.{arith}
use mathlib.Core.Path.{◌≡◌, refl, sym, ap, subst, ◌∙◌}
use mathlib.Core.Logic.{inl, inr}
use mathlib.Core.Bool.{cond, ◌&&◌}
use mathlib.Core.List.{List, [], ◌∷◌, map}
use lib.ListN.{length, take, length-map, length-take}
use lib.Seq.{take_all, take_at, length-take-le}
use lib.Dec.{T, eqb, ltb}
use Rattle.layout.specs.General.Lists.{same_numbers, written}
use Rattle.layout.specs.Problems.Problem.{Solution, compact}
use Rattle.layout.specs.Checks.{Sound}
use Rattle.layout.specs.Cuts.Compact.{MapEntry, cone_map, map_words}
use Rattle.layout.specs.Calls.Answers.{or_else, roomy}
use Rattle.layout.specs.Calls.Join.{joined_parts, solution_fits, join_checks, join_refusal}
use Rattle.layout.proofs.Lists.Tests.{ltb_iff, lt_or_le, tested, cond_passed, cond_failed}
use Rattle.layout.proofs.Columns.Sizes.{entries-length}
use Rattle.entries_map.specs.declared.ConeMapEntry.{ConeMapEntry}
use Rattle.layout.specs.Calls.JoinEntries.{same_entry, same_map, entries_refusal}
use Rattle.entries_map.specs.Entries.{meant, all_words}
use Rattle.entries_map.proofs.Entries.{words_same, all-words-length}
use Rattle.layout.proofs.Rows.ConeMap.{map-told}
use Rattle.entries_map.proofs.Few.{map-few}
use Rattle.join_on_route.proofs.Order.{checks_passed}
use Rattle.entries_join.specs.Refusals.{given_words}
use Rattle.layout.proofs.Lists.Walks.{same_lengths}

-- comparing the words decides whether the map is the problem's
told : {m : ℕ} {cones : List ℕ} {count : ℕ} {words : List ℕ} → Sound m cones count words → (ys : List ConeMapEntry)
    → let es = cone_map (joined_parts cones count words) in
    same_numbers (take (given_words (length ys)) (all_words ys)) (map_words es) ≡ same_map (map meant ys) es
told {m} {cones} {count} {words} h ys =
    let es = cone_map (joined_parts cones count words) in
    elim (tested (ltb 16384 (length ys))) [
      | inl t ↦
          let many = (ltb_iff 16384 (length ys)).0 t in
          ap (λ (k : ℕ). same_numbers (take k (all_words ys)) (map_words es)) (cond_passed (ltb 16384 (length ys)) 1 (length ys * 5) t)
          ∙ same_lengths eqb (take 1 (all_words ys)) (map_words es) (λ e. omega (arith, e, entries-length es, length-take 1 (all_words ys), all-words-length ys))
          ∙ sym (same_lengths same_entry (map meant ys) es (λ e. omega (arith, e, length-map ys meant, map-few h)))
      | inr t ↦
          ap (λ (k : ℕ). same_numbers (take k (all_words ys)) (map_words es)) (cond_failed (ltb 16384 (length ys)) 1 (length ys * 5) t)
          ∙ ap (λ (ws : List ℕ). same_numbers ws (map_words es)) (take_all (length ys * 5) (all_words ys) (omega (arith, all-words-length ys)))
          ∙ words_same ys es (map-told h)
    ]

taken_few : (entries : ℕ) → (given_words entries ≤ 81920) × (given_words entries ≤ entries * 5)
taken_few entries = elim (tested (ltb 16384 entries)) [
  | inl t ↦ subst (λ (k : ℕ). (k ≤ 81920) × (k ≤ entries * 5)) (sym (cond_passed (ltb 16384 entries) 1 (entries * 5) t)) (omega arith, omega (arith, (ltb_iff 16384 entries).0 t))
  | inr t ↦ subst (λ (k : ℕ). (k ≤ 81920) × (k ≤ entries * 5)) (sym (cond_failed (ltb 16384 entries) 1 (entries * 5) t)) (few t, omega arith)
]
  where
    few : (T (ltb 16384 entries) → ⊥) → entries * 5 ≤ 81920
    few t = elim (lt_or_le 16384 entries) [ inl l ↦ absurd (t ((ltb_iff 16384 entries).1 l)) | inr l ↦ omega arith ]

pub few_taken : (entries k : ℕ) → k ≡ given_words entries → (k ≤ 81920) × (k ≤ entries * 5)
few_taken entries k e = subst (λ (j : ℕ). (j ≤ 81920) × (j ≤ entries * 5)) (sym e) (taken_few entries)

-- whether the map is the problem's matters only where checks 1 to 10 pass
pub as_entries : (n m : ℕ) (cones : List ℕ) (count : ℕ) (words : List ℕ) (sol : Solution) (ys : List ConeMapEntry) (rooms : List ℕ)
    → join_refusal compact n m cones count words sol (take (given_words (length ys)) (all_words ys)) rooms ≡ entries_refusal n m cones count words sol (map meant ys) rooms
as_entries n m cones count words sol ys rooms = go (join_checks compact n m cones count words) (λ e. told (checks_passed compact n m cones count words e).0 ys)
  where
    es : List MapEntry
    es = cone_map (joined_parts cones count words)

    go : (a : ℕ) → (a ≡ 0 → same_numbers (take (given_words (length ys)) (all_words ys)) (map_words es) ≡ same_map (map meant ys) es)
        → or_else a (or_else (cond (roomy (n ∷ m ∷ m ∷ 2 ∷ []) rooms) 0 11) (cond (solution_fits compact n m (joined_parts cones count words) sol && same_numbers (take (given_words (length ys)) (all_words ys)) (map_words es)) 0 12))
        ≡ or_else a (or_else (cond (roomy (n ∷ m ∷ m ∷ 2 ∷ []) rooms) 0 11) (cond (solution_fits compact n m (joined_parts cones count words) sol && same_map (map meant ys) es) 0 12))
    go zero f = rw (f refl)
    go (suc a) f = refl

-- the written words are a prefix of the table
pub front_taken : (ys : List ConeMapEntry) (taken : ℕ) (old out : List ℕ) → taken ≡ given_words (length ys) → out ≡ written (take taken (all_words ys)) old
    → take taken out ≡ take (given_words (length ys)) (all_words ys)
front_taken ys taken old out e w =
    let few : taken ≤ length ys * 5 = (few_taken (length ys) taken e).1 in
    ap (take taken) w
    ∙ take_at (take taken (all_words ys)) _ taken (length-take-le taken (all_words ys) (omega (arith, all-words-length ys)))
    ∙ ap (λ (k : ℕ). take k (all_words ys)) e
