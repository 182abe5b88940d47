-- Limits of a right side carried to the compact rows: every b between them has an augmentation between the results, and every vector
-- between the results is, as numbers, the augmentation of exactly one such b.
use Prim.Native.Nat.{ℕ, zero, suc, ◌<◌, zero-le, suc-le-suc}
use native.Mathlib.Nat.{le_of_suc-le-suc, not-suc-le-zero}
use native.Mathlib.Omega.{arith}
use mathlib.Core.Path.{◌≡◌, refl, sym, ap, ap₂, subst, ◌∙◌}
use mathlib.Core.Logic.{◌↔◌, ◌⊎◌, inl, inr}
use mathlib.Core.Bool.{Bool, true, false, not, cond, ◌&&◌, ◌||◌}
use mathlib.Core.List.{List, [], ◌∷◌, ◌++◌, map}
use lib.ListN.{length, get_or, take, drop, length-map}
use lib.Dec.{T, leb, eqb, eqb→eq}
use lib.Ieee.{Float, nan, eq, lt, le, is_nan, fits, binary64}
use Rattle.layout.specs.General.Lists.{all, below, has}
use Rattle.layout.specs.General.Floats.{zero64, Doubles}
use Rattle.layout.specs.Problems.Problem.{Problem, with_b, compact}
use Rattle.layout.specs.Problems.Patterns.{Pattern, patterns}
use Rattle.layout.specs.Rows.Blocks.{Row, kept, owned, overlap, original_row, compact_rows}
use Rattle.layout.specs.Checks.{Check, check, layout, cones_read, alphas_as_many, covered_rows, entries_on, check1, check2, check3, check4, table_checks, pattern_checks, patterns_read, tree_right, cliques_right, check9, check10, checks, refusal, first_failing}
use Rattle.layout.specs.Cuts.Compact.{compact_b, row_value}
use Rattle.layout.specs.Calls.Answers.{or_else, problem_refusal}
use Rattle.layout.specs.Calls.Cut.{sizes}
use Rattle.layout.specs.Calls.CutBetween.{at_most, between, as_numbers, limits_checks, limits_failing, limits_sizes, CarriesLimits}
use Rattle.layout.proofs.Lists.Tests.{and_iff, or_iff, eqb_iff, tested, cond_passed, cond_failed}
use Rattle.layout.proofs.Lists.Members.{get_or_map, has-below, has-map, length-below, get_or-below, all-has, all-at}
use Rattle.layout.proofs.Lists.Walks.{same_at}
use Rattle.layout.proofs.Checks.Order.{passing, passed as check-passed, none_fails}
use Rattle.layout.proofs.Floats.FloatOrder.{is_zero, plus_zero, eq-zero, eq_self, le_self, le_is, le_numbers, le_plus_zero_left, le_plus_zero_right, eq_plus_zero, between_zeros, zeros_le, zeros_eq}
use Rattle.layout.proofs.Checks.Accepted.{accepted_checked}
use Rattle.layout.proofs.Columns.OtherSide.{covers, other_results, other_refusal}
use Rattle.layout.proofs.Columns.Cut.{covered_values}
use Rattle.layout.proofs.Rows.Moves.{row_at, is_moved, RightRows}
use Rattle.layout.proofs.Rows.Laid.{accepted-rows}

-- ---- a row's value

-- an augmented row that is not an overlap has b's value, a zero as +0.0; an overlap has +0.0
moved_value : (b : List Float) (x : Row) → T (is_moved x) → row_value b x ≡ plus_zero (get_or b (original_row x) nan)
moved_value b (kept o) h = refl
moved_value b (owned o) h = refl
moved_value b (overlap o q) h = absurd h

overlap-value : (b : List Float) (x : Row) → (T (is_moved x) → ⊥) → row_value b x ≡ zero64
overlap-value b (kept o) h = absurd (h tt)
overlap-value b (owned o) h = absurd (h tt)
overlap-value b (overlap o q) h = refl

zero-fits : T (fits binary64 zero64)
unfolding fits
zero-fits = tt

-- ---- the value at the row that an original row is moved to

-- the value in vs at the row that original row o is moved to, or +0.0 where it is moved to none
abbrev own_value : List Row → List Float → ℕ → Float
own_value [] vs o = zero64
own_value (x ∷ xs) [] o = zero64
own_value (x ∷ xs) (v ∷ vs) o = let r = own_value xs vs o in cond (is_moved x && eqb (original_row x) o) v r

abbrev Moved : List Row → ℕ → ℕ → Type 0
Moved R o s = (s < length R) × T (is_moved (row_at R s)) × (original_row (row_at R s) ≡ o)

abbrev Found : List Row → List Float → ℕ → Type 0
Found R vs o = (s : ℕ) × Moved R o s × (own_value R vs o ≡ get_or vs s nan)

abbrev Missing : List Row → List Float → ℕ → Type 0
Missing R vs o = ((s : ℕ) → Moved R o s → ⊥) × (own_value R vs o ≡ zero64)

find : (R : List Row) (vs : List Float) (o : ℕ) → length vs ≡ length R → Found R vs o ⊎ Missing R vs o
find [] vs o e = inr (λ s h. not-suc-le-zero h.0, refl)
find (x ∷ R) [] o e = absurd (omega arith)
find (x ∷ R) (v ∷ vs) o e = elim (tested (is_moved x && eqb (original_row x) o)) [
  | inl t ↦
      let h = (and_iff (is_moved x) (eqb (original_row x) o)).0 t in
      inl (0, (suc-le-suc zero-le, h.0, eqb→eq (original_row x) o h.1), cond_passed (is_moved x && eqb (original_row x) o) v (own_value R vs o) t)
  | inr n ↦
      let here : own_value (x ∷ R) (v ∷ vs) o ≡ own_value R vs o = cond_failed (is_moved x && eqb (original_row x) o) v (own_value R vs o) n in
      elim (find R vs o (omega arith)) [
        | inl (s, h, g) ↦ inl (suc s, (suc-le-suc h.0, h.1, h.2), here ∙ g)
        | inr (h, g) ↦ inr (none n h, here ∙ g)
      ]
]
  where
    none : (T (is_moved x && eqb (original_row x) o) → ⊥) → ((s : ℕ) → Moved R o s → ⊥) → (s : ℕ) → Moved (x ∷ R) o s → ⊥
    none n h zero m = n ((and_iff (is_moved x) (eqb (original_row x) o)).1 (m.1, (eqb_iff (original_row x) o).1 m.2))
    none n h (suc s) m = h s (le_of_suc-le-suc m.0, m.1, m.2)

-- ---- the refusal number, in the order in which a program makes the checks

-- check 16 passes exactly where the lists have equal length, neither has a NaN, and no low is above its high
pub at_most_iff : (low high : List Float) → T (at_most low high) ↔ ((length low ≡ length high) × ((r : ℕ) → r < length low
    → T (not (is_nan (get_or low r nan)) && not (is_nan (get_or high r nan)) && not (lt (get_or high r nan) (get_or low r nan)))))
at_most_iff low high = (
  λ h. let (e, at) = (same_at le nan low high).0 h in (e, λ r l. subst T (le_is (get_or low r nan) (get_or high r nan)) (at r l)),
  λ h. (same_at le nan low high).1 (h.0, λ r l. subst T (sym (le_is (get_or low r nan) (get_or high r nan))) (h.1 r l)),
)

-- a test that occurs in two conjunctions is needed once
shared : (a b c : Bool) → ((a && b) && (a && c)) ≡ ((a && b) && c)
shared true b c = refl
shared false b c = refl

-- Let r be the number that checks 1 to 7 give. With a further test in check 4, and check 16 after it: r if it is at most 4, then 4, 16, and r.
in_order : (one two three four high within five six seven : Bool) (cs : List Check)
    → let r = first_failing (check 1 one ∷ check 2 two ∷ check 3 three ∷ check 4 four ∷ check 5 five ∷ check 6 six ∷ check 7 seven ∷ []) in
    first_failing (check 1 one ∷ check 2 two ∷ check 3 three ∷ check 4 (four && high) ∷ check 16 within ∷ check 5 five ∷ check 6 six ∷ check 7 seven ∷ cs)
    ≡ or_else (cond (leb r 4) r 0) (or_else (cond high 0 4) (or_else (cond within 0 16) (or_else r (first_failing cs))))
in_order false two three four high within five six seven cs = refl
in_order true false three four high within five six seven cs = refl
in_order true true false four high within five six seven cs = refl
in_order true true true false high within five six seven cs = refl
in_order true true true true true true true true true cs = refl
in_order true true true true true true true true false cs = refl
in_order true true true true true true true false seven cs = refl
in_order true true true true true true false six seven cs = refl
in_order true true true true true false true true true cs = refl
in_order true true true true true false true true false cs = refl
in_order true true true true true false true false seven cs = refl
in_order true true true true true false false six seven cs = refl
in_order true true true true false within true true true cs = refl
in_order true true true true false within true true false cs = refl
in_order true true true true false within true false seven cs = refl
in_order true true true true false within false six seven cs = refl

module _ (p : Problem) (low high : List Float) where
  abbrev ps : List Pattern
  ps = patterns p.pattern_count p.pattern_words

  abbrev named : Bool
  named = patterns_read p.cones p.pattern_count p.pattern_words

  -- Apart from check 16, only the length of high is read, in check 4, and its values, in check 9.
  limits-checks : limits_checks p low high
      ≡ table_checks p
      ++ (check 4 (check4 (with_b p low) && eqb (length high) p.m) ∷ check 16 (at_most low high)
      ∷ (pattern_checks p
      ++ (check 9 (check9 compact (with_b p low) && covers p high) ∷ check 10 (check10 compact p.m (layout p)) ∷ [])))
  limits-checks =
      let others : Bool = cones_read p.m p.cones && alphas_as_many p.cones p.alphas && eqb (length p.q) p.n in
      let entries : Bool = entries_on (covered_rows (layout p)) p.A in
      ap₂ (λ (four nine : Bool). table_checks p ++ (check 4 four ∷ check 16 (at_most low high)
      ∷ (pattern_checks p ++ (check 9 nine ∷ check 10 (check10 compact p.m (layout p)) ∷ []))))
      (shared others (eqb (length low) p.m) (eqb (length high) p.m))
      (shared entries (covers p low) (covers p high))

  -- Let r be the number that checks 1 to 7 give with low. The call gives r if it is at most 4, then 4 for high's length, 16, r, and then 9 and 10.
  pub limits_in_order : let r = problem_refusal (with_b p low) in
      limits_failing p low high ≡
      or_else (cond (leb r 4) r 0)
      (or_else (cond (eqb (length high) p.m) 0 4)
      (or_else (cond (at_most low high) 0 16)
      (or_else r
      (first_failing (check 9 (check9 compact (with_b p low) && covers p high) ∷ check 10 (check10 compact p.m (layout p)) ∷ [])))))
  limits_in_order =
      ap first_failing limits-checks
      ∙ in_order (check1 p) (check2 p) (check3 p) (check4 (with_b p low)) (eqb (length high) p.m) (at_most low high)
      named (all tree_right ps) (all cliques_right ps)
      (check 9 (check9 compact (with_b p low) && covers p high) ∷ check 10 (check10 compact p.m (layout p)) ∷ [])

  -- No check fails exactly where low and high are both accepted and check 16 passes.
  pub limits_iff : (limits_failing p low high ≡ 0)
      ↔ ((refusal compact (with_b p low) ≡ 0) × (refusal compact (with_b p high) ≡ 0) × T (at_most low high))
  limits_iff = (
    λ e.
        let test : (k : ℕ) → T (passing k (limits_checks p low high)) = λ k. check-passed k (limits_checks p low high) tt e in
        let (four, four') = (and_iff (check4 (with_b p low)) (check4 (with_b p high))).0 (test 4) in
        let (nine, nine') = (and_iff (check9 compact (with_b p low)) (check9 compact (with_b p high))).0 (test 9) in (
          none_fails (checks compact (with_b p low))
              (test 1, (test 2, (test 3, (four, (test 5, (test 6, (test 7, (nine, (test 10, tt))))))))),
          none_fails (checks compact (with_b p high))
              (test 1, (test 2, (test 3, (four', (test 5, (test 6, (test 7, (nine', (test 10, tt))))))))),
          test 16,
        ),
    λ (e, f, h).
        let test : (k : ℕ) → T (passing k (checks compact (with_b p low))) = λ k. check-passed k (checks compact (with_b p low)) tt e in
        let other : (k : ℕ) → T (passing k (checks compact (with_b p high))) = λ k. check-passed k (checks compact (with_b p high)) tt f in
        let four = (and_iff (check4 (with_b p low)) (check4 (with_b p high))).1 (test 4, other 4) in
        let nine = (and_iff (check9 compact (with_b p low)) (check9 compact (with_b p high))).1 (test 9, other 9) in
        none_fails (limits_checks p low high)
        (test 1, (test 2, (test 3, (four, (h, (test 5, (test 6, (test 7, (nine, (test 10, tt)))))))))),
  )

  -- the lengths of the outputs: those of the cut with low, with that of its b twice
  pub limits-sizes : let ks = sizes compact (with_b p low) in limits_sizes p low high ≡ take 8 ks ++ (get_or ks 7 0 ∷ drop 8 ks)
  limits-sizes =
      let ks = sizes compact (with_b p low) in
      ap (λ (k : ℕ). take 8 ks ++ (k ∷ drop 8 ks))
      (length-map (compact_rows (layout p)) (row_value high) ∙ sym (length-map (compact_rows (layout p)) (row_value low)))

module _ (p : Problem) (low high : List Float) (ok : limits_failing p low high ≡ 0) where
  -- ---- what the checks ensure

  abbrev R : List Row
  R = compact_rows (layout p)

  both_ok : (refusal compact (with_b p low) ≡ 0) × (refusal compact (with_b p high) ≡ 0)
  both_ok = let h = (limits_iff p low high).0 ok in (h.0, h.1)

  limits-ordered : T (at_most low high)
  limits-ordered = ((limits_iff p low high).0 ok).2

  -- the lengths of low and high, and their order at each row
  low-length : length low ≡ p.m
  low-length = (accepted_checked compact (with_b p low) both_ok.0).length_b

  high-length : length high ≡ p.m
  high-length = (accepted_checked compact (with_b p high) both_ok.1).length_b

  limit_at : (r : ℕ) → r < p.m → T (le (get_or low r nan) (get_or high r nan))
  limit_at r l = ((same_at le nan low high).0 limits-ordered).1 r (rw low-length l)

  rows : RightRows 0 0 p.m R
  rows = accepted-rows compact (with_b p low) both_ok.0

  -- low and high are zero at a row that no clique covers
  uncovered : (r : ℕ) → r < p.m → (T (has r (covered_rows (layout p))) → ⊥) → T (is_zero (get_or low r nan)) × T (is_zero (get_or high r nan))
  uncovered r l n = (zero_there low (covered_values (with_b p low) both_ok.0), zero_there high (covered_values (with_b p high) both_ok.1))
    where
      zero_there : (b : List Float) → T (covers p b) → T (is_zero (get_or b r nan))
      zero_there b h =
          elim ((or_iff (eq (get_or b r nan) zero64) (has r (covered_rows (layout p)))).0
          ((all-has (λ r. eq (get_or b r nan) zero64 || has r (covered_rows (layout p))) (below p.m)).0 h r ((has-below r p.m).1 l))) [
            | inl t ↦ subst T (eq-zero (get_or b r nan)) t
            | inr k ↦ absurd (n k)
          ]

  -- b has m values, each between low and high
  abbrev Inside : List Float → Type 0
  Inside b = (length b ≡ p.m) × ((r : ℕ) → r < p.m → T (le (get_or low r nan) (get_or b r nan)) × T (le (get_or b r nan) (get_or high r nan)))

  inside : (b : List Float) → T (between low b high) → Inside b
  inside b h =
      let (under, over) = (and_iff (at_most low b) (at_most b high)).0 h in
      let below-b = (same_at le nan low b).0 under in
      let above-b = (same_at le nan b high).0 over in
      (sym below-b.0 ∙ low-length, λ r l. (below-b.1 r (rw low-length l), above-b.1 r (omega (arith, above-b.0, high-length))))

  outside : (b : List Float) → Inside b → T (between low b high)
  outside b h =
      (and_iff (at_most low b) (at_most b high)).1 (
        (same_at le nan low b).1 (low-length ∙ sym h.0, λ r l. (h.1 r (omega (arith, low-length))).0),
        (same_at le nan b high).1 (h.0 ∙ sym high-length, λ r l. (h.1 r (omega (arith, h.0))).1),
      )

  -- ---- every b between the limits

  abbrev result : List Float → List Float
  result b = compact_b (with_b p b)

  result_length : (b : List Float) → length (result b) ≡ length R
  result_length b = length-map R (row_value b)

  result_at : (b : List Float) (s : ℕ) → s < length R → get_or (result b) s nan ≡ row_value b (row_at R s)
  result_at b s l = get_or_map (row_value b) R s (kept 0) nan l

  -- where b is at most c at each original row, the same holds for their augmentations at each augmented row
  results_ordered : (b c : List Float) → ((r : ℕ) → r < p.m → T (le (get_or b r nan) (get_or c r nan))) → T (at_most (result b) (result c))
  results_ordered b c h =
      (same_at le nan (result b) (result c)).1 (result_length b ∙ sym (result_length c), λ s l. at s (omega (arith, result_length b)))
    where
      at : (s : ℕ) → s < length R → T (le (get_or (result b) s nan) (get_or (result c) s nan))
      at s l =
          let x = row_at R s in
          let o = original_row x in
          rw (result_at b s l, result_at c s l) (elim (tested (is_moved x)) [
            | inl t ↦
                rw (moved_value b x t, moved_value c x t)
                (subst T (sym (le_plus_zero_left (get_or b o nan) (plus_zero (get_or c o nan)) ∙ le_plus_zero_right (get_or c o nan) (get_or b o nan)))
                (h o (rows.inside s l).1))
            | inr n ↦ rw (overlap-value b x n, overlap-value c x n) (zeros_le zero64 zero64 tt tt)
          ])

  accepted-between : (b : List Float) → T (between low b high) → refusal compact (with_b p b) ≡ 0
  accepted-between b h =
      let i = inside b h in
      other_refusal (with_b p low) both_ok.0 b i.0
      ∙ cond_passed (covers p b) 0 9 ((all-has (λ r. eq (get_or b r nan) zero64 || has r (covered_rows (layout p))) (below p.m)).1 (λ r k. stands i r ((has-below r p.m).0 k)))
    where
      stands : Inside b → (r : ℕ) → r < p.m → T (eq (get_or b r nan) zero64 || has r (covered_rows (layout p)))
      stands i r l = (or_iff (eq (get_or b r nan) zero64) (has r (covered_rows (layout p)))).1 (elim (tested (has r (covered_rows (layout p)))) [
        | inl t ↦ inr t
        | inr n ↦
            let z = uncovered r l n in
            let o = i.1 r l in
            inl (subst T (sym (eq-zero (get_or b r nan))) (between_zeros (get_or low r nan) (get_or b r nan) (get_or high r nan) z.0 z.1 o.0 o.1))
      ])

  carried-between : (b : List Float) → T (between low b high) → T (between (result low) (result b) (result high))
  carried-between b h =
      let i = inside b h in
      (and_iff (at_most (result low) (result b)) (at_most (result b) (result high))).1
      (results_ordered low b (λ r l. (i.1 r l).0), results_ordered b high (λ r l. (i.1 r l).1))

  -- ---- every vector between the results

  moved_here : (b : List Float) (r s : ℕ) → Moved R r s → row_value b (row_at R s) ≡ plus_zero (get_or b r nan)
  moved_here b r s m = moved_value b (row_at R s) m.1 ∙ ap (λ (o : ℕ). plus_zero (get_or b o nan)) m.2

  module _ (v : List Float) (h : T (between (result low) v (result high))) where
    v_under : (length (result low) ≡ length v) × ((s : ℕ) → s < length (result low) → T (le (get_or (result low) s nan) (get_or v s nan)))
    v_under = (same_at le nan (result low) v).0 ((and_iff (at_most (result low) v) (at_most v (result high))).0 h).0

    v_over : (length v ≡ length (result high)) × ((s : ℕ) → s < length v → T (le (get_or v s nan) (get_or (result high) s nan)))
    v_over = (same_at le nan v (result high)).0 ((and_iff (at_most (result low) v) (at_most v (result high))).0 h).1

    v_length : length v ≡ length R
    v_length = v_over.0 ∙ result_length high

    -- the value of v at row s is between the results there
    v_rows : (s : ℕ) → s < length R
        → T (le (row_value low (row_at R s)) (get_or v s nan)) × T (le (get_or v s nan) (row_value high (row_at R s)))
    v_rows s l = (
      rw (← result_at low s l) (v_under.1 s (omega (arith, result_length low))),
      rw (← result_at high s l) (v_over.1 s (omega (arith, v_length))),
    )

    -- the right side whose augmentation is v
    abbrev source : List Float
    source = map (own_value R v) (below p.m)

    source_length : length source ≡ p.m
    source_length = length-map (below p.m) (own_value R v) ∙ length-below p.m

    source_at : (r : ℕ) → r < p.m → get_or source r nan ≡ own_value R v r
    source_at r l =
        get_or_map (own_value R v) (below p.m) r 0 nan (omega (arith, length-below p.m)) ∙ ap (own_value R v) (get_or-below p.m r 0 l)

    -- an original row that is moved to no augmented row is covered by no clique
    not-moved : (r : ℕ) → ((s : ℕ) → Moved R r s → ⊥) → T (has r (covered_rows (layout p))) → ⊥
    not-moved r n k =
        let (t, l, e) = (has-map (kept 0) original_row r R).0 k in
        let (s, le, m, g) = rows.before t l in
        n s (omega arith, m, g ∙ sym e)

    -- `source` at an original row: v's value at the row it is moved to; or, where it is moved to none, +0.0, with low and high zero there
    abbrev AtRow : ℕ → Type 0
    AtRow r = (s : ℕ) × Moved R r s × (get_or source r nan ≡ get_or v s nan)

    abbrev Bare : ℕ → Type 0
    Bare r = (get_or source r nan ≡ zero64) × T (is_zero (get_or low r nan)) × T (is_zero (get_or high r nan))

    at_row : (r : ℕ) → r < p.m → AtRow r ⊎ Bare r
    at_row r l = elim (find R v r v_length) [
      | inl (s, m, e) ↦ inl (s, m, source_at r l ∙ e)
      | inr (n, e) ↦ let z = uncovered r l (not-moved r n) in inr (source_at r l ∙ e, z.0, z.1)
    ]

    -- v's value at the row that an original row is moved to is between low and high at that original row
    v_limits : (r s : ℕ) → Moved R r s → T (le (get_or low r nan) (get_or v s nan)) × T (le (get_or v s nan) (get_or high r nan))
    v_limits r s m =
        let x = get_or v s nan in (
          subst T (ap (λ (z : Float). le z x) (moved_here low r s m) ∙ le_plus_zero_left (get_or low r nan) x) (v_rows s m.0).0,
          subst T (ap (le x) (moved_here high r s m) ∙ le_plus_zero_right (get_or high r nan) x) (v_rows s m.0).1,
        )

    source_inside : Inside source
    source_inside = (
      source_length,
      λ r l. elim (at_row r l) [
        | inl (s, m, e) ↦ rw e (v_limits r s m)
        | inr (e, zl, zh) ↦ rw e (zeros_le (get_or low r nan) zero64 zl tt, zeros_le zero64 (get_or high r nan) tt zh)
      ],
    )

    -- the augmentation of `source` is v
    source_carried : T (as_numbers (result source) v)
    source_carried =
        (same_at eq nan (result source) v).1 (result_length source ∙ sym v_length, λ s l. at s (omega (arith, result_length source)))
      where
        -- at row s, by the two cases for `source` at its original row
        taken : (s : ℕ) → s < length R → T (is_moved (row_at R s)) → AtRow (original_row (row_at R s)) ⊎ Bare (original_row (row_at R s))
            → T (eq (row_value source (row_at R s)) (get_or v s nan))
        taken s l t (inl (u, m, e)) =
            let w = get_or v s nan in
            let same : u ≡ s = rows.once u s m.0 l m.1 t m.2 in
            rw (moved_value source (row_at R s) t ∙ ap plus_zero (e ∙ ap (λ (k : ℕ). get_or v k nan) same))
            (subst T (sym (eq_plus_zero w w)) (eq_self w (le_numbers (row_value low (row_at R s)) w (v_rows s l).0).1))
        taken s l t (inr (e, zl, zh)) =
            let o = original_row (row_at R s) in
            let w = get_or v s nan in
            let k = v_limits o s (l, t, refl) in
            rw (moved_value source (row_at R s) t ∙ ap plus_zero e)
            (subst T (sym (eq_plus_zero zero64 w)) (zeros_eq zero64 w tt (between_zeros (get_or low o nan) w (get_or high o nan) zl zh k.0 k.1)))

        at : (s : ℕ) → s < length R → T (eq (get_or (result source) s nan) (get_or v s nan))
        at s l = rw (result_at source s l) (elim (tested (is_moved (row_at R s))) [
          | inl t ↦ taken s l t (at_row (original_row (row_at R s)) (rows.inside s l).1)
          | inr n ↦
              let x = row_at R s in
              let w = get_or v s nan in
              let under : T (le zero64 w) = rw (overlap-value low x n) at (v_rows s l).0 in
              let over : T (le w zero64) = rw (overlap-value high x n) at (v_rows s l).1 in
              rw (overlap-value source x n) (zeros_eq zero64 w tt (between_zeros zero64 w zero64 tt tt under over))
        ])

    -- no other right side between the limits has this augmentation
    source_only : (c : List Float) → T (between low c high) → T (as_numbers (result c) v) → T (as_numbers c source)
    source_only c k g =
        let i = inside c k in
        (same_at eq nan c source).1 (i.0 ∙ sym source_length, λ r l. at i r (omega (arith, i.0)))
      where
        at : Inside c → (r : ℕ) → r < p.m → T (eq (get_or c r nan) (get_or source r nan))
        at i r l = elim (at_row r l) [
          | inl (s, m, e) ↦
              let w = get_or v s nan in
              rw e (subst T (ap (λ (z : Float). eq z w) (result_at c s m.0 ∙ moved_here c r s m) ∙ eq_plus_zero (get_or c r nan) w)
              (((same_at eq nan (result c) v).0 g).1 s (omega (arith, m.0, result_length c))))
          | inr (e, zl, zh) ↦
              let x = get_or c r nan in
              let k = i.1 r l in
              rw e (zeros_eq x zero64 (between_zeros (get_or low r nan) x (get_or high r nan) zl zh k.0 k.1) tt)
        ]

    -- `source` consists of doubles if v does
    source_doubles : Doubles v → Doubles source
    source_doubles d = (all-at nan (fits binary64) source).1 (λ r l. elim (at_row r (omega (arith, source_length))) [
      | inl (s, m, e) ↦ rw e ((all-at nan (fits binary64) v).0 d s (omega (arith, v_length, m.0)))
      | inr (e, zl, zh) ↦ rw e zero-fits
    ])

  -- ---- together

  pub carries : CarriesLimits p low high
  carries = record {
    ends = (
      outside low (low-length, λ r l. (le_self (get_or low r nan) (le_numbers (get_or low r nan) (get_or high r nan) (limit_at r l)).0, limit_at r l)),
      outside high (high-length, λ r l. (limit_at r l, le_self (get_or high r nan) (le_numbers (get_or low r nan) (get_or high r nan) (limit_at r l)).1)),
    );
    accepted = accepted-between;
    carried = carried-between;
    others = λ b h. other_results (with_b p low) b;
    reached = λ v h. (
      source v h,
      (outside (source v h) (source_inside v h), source_carried v h),
      λ c k. source_only v h c k.0 k.1,
      source_doubles v h,
    );
  }
