-- The refusal number of the cut with limits: checks 1 to 7 with low, the length of high, 16, then 9, 10 and 11.
use Prim.Native.Nat.{ℕ, zero, suc, ◌+◌, ◌-◌, ◌*◌}
use mathlib.Core.Path.{◌≡◌, refl, sym, ap, ◌∙◌}
use mathlib.Core.Bool.{Bool, true, false, cond, ◌&&◌, and-true}
use mathlib.Core.List.{List, [], ◌∷◌}
use lib.ListN.{length, get_or}
use lib.Dec.{leb, eqb}
use lib.Ieee.{Float}
use Rattle.layout.specs.General.Lists.{part}
use Rattle.layout.specs.Problems.Problem.{Problem, with_b, compact}
use Rattle.layout.specs.Checks.{layout, covered_rows, values_on, check9, check10, check, first_failing}
use Rattle.layout.specs.Calls.Answers.{or_else, roomy, problem_refusal}
use Rattle.layout.specs.Calls.Cut.{sizes}
use Rattle.layout.specs.Calls.CutBetween.{at_most, limits_failing, limits_sizes, limits_refusal}
use Rattle.layout.proofs.Columns.OtherSide.{covers}
use Rattle.layout.proofs.Theorems.Between.{limits_in_order, limits-sizes}
use Rattle.check_covered.specs.Covered.{sides_on}
use Rattle.side_numbers.specs.Order.{with_another, limits_order}
use Rattle.side_numbers.proofs.Laws.{only-side}

-- ---- refusal numbers in order

regroup : (a b c d e : ℕ) → or_else a (or_else b (or_else c (or_else d e))) ≡ or_else (or_else a (or_else b (or_else c d))) e
regroup zero zero zero d e = refl
regroup zero zero (suc c) d e = refl
regroup zero (suc b) c d e = refl
regroup (suc a) b c d e = refl

-- the first of three numbers, where it is not 0
pub given-first : (a b c x : ℕ) → x ≡ a → (x ≡ 0 → ⊥) → x ≡ or_else (or_else a b) c
given-first zero b c x e n = absurd (n e)
given-first (suc a) b c x e n = e

-- check 9 on two right sides, then check 10
pub nines : (a b c : Bool) → or_else (cond a 0 9) (or_else (cond b 0 9) (cond c 0 10)) ≡ first_failing (check 9 (a && b) ∷ check 10 c ∷ [])
nines true true c = refl
nines true false c = refl
nines false b c = refl

-- ---- a single right side as a list of sides

pub only_covers : (p : Problem) (b : List Float) → length b ≡ p.m → sides_on (covered_rows (layout p)) p.m 0 1 b ≡ covers p b
only_covers p b e =
    let test : List Float → Bool = values_on (covered_rows (layout p)) p.m in
    and-true (test (part (0 * p.m) (0 * p.m + p.m) b)) ∙ ap test (only-side p.m b e)

-- ---- the whole call

module _ (p : Problem) (low high : List Float) where
  abbrev early : ℕ
  early = limits_order (problem_refusal (with_b p low)) p.m low high

  abbrev later : ℕ
  later = first_failing (check 9 (check9 compact (with_b p low) && covers p high) ∷ check 10 (check10 compact p.m (layout p)) ∷ [])

  in_order : limits_failing p low high ≡ or_else early later
  in_order = limits_in_order p low high ∙ regroup (cond (leb (problem_refusal (with_b p low)) 4) (problem_refusal (with_b p low)) 0) (cond (eqb (length high) p.m) 0 4) (cond (at_most low high) 0 16) (problem_refusal (with_b p low)) later

  abbrev room : List ℕ → ℕ
  room rooms = cond (roomy (limits_sizes p low high) rooms) 0 11

  -- refused by one of checks 1 to 7, or by 16
  pub stopped_early : (rooms : List ℕ) (t : ℕ) → t ≡ limits_order (problem_refusal (with_b p low)) p.m low high → (t ≡ 0 → ⊥) → t ≡ limits_refusal p low high rooms
  stopped_early rooms t e n = given-first early later (room rooms) t e n ∙ ap (λ (k : ℕ). or_else k (room rooms)) (sym in_order)

  -- refused by check 9 or 10, once these have passed
  module _ (passed : limits_order (problem_refusal (with_b p low)) p.m low high ≡ 0) where
    then_later : limits_failing p low high ≡ later
    then_later = in_order ∙ ap (λ (k : ℕ). or_else k later) passed

    pub stopped_late : (rooms : List ℕ) (t : ℕ)
        → t ≡ first_failing (check 9 (check9 compact (with_b p low) && covers p high) ∷ check 10 (check10 compact p.m (layout p)) ∷ [])
        → (t ≡ 0 → ⊥) → t ≡ limits_refusal p low high rooms
    stopped_late rooms t e n = given-first later 0 (room rooms) t e n ∙ ap (λ (k : ℕ). or_else k (room rooms)) (ends later ∙ sym then_later)
      where
        ends : (k : ℕ) → or_else k 0 ≡ k
        ends zero = refl
        ends (suc k) = refl

    pub accepted-limits : (t : ℕ)
        → t ≡ first_failing (check 9 (check9 compact (with_b p low) && covers p high) ∷ check 10 (check10 compact p.m (layout p)) ∷ [])
        → t ≡ 0 → limits_failing p low high ≡ 0
    accepted-limits t e z = then_later ∙ sym e ∙ z

  -- refused by check 11 or not at all, once 9 and 10 have passed
  pub by-rooms : limits_failing p low high ≡ 0 → (needs rooms : List ℕ) → needs ≡ sizes compact (with_b p low)
      → cond (roomy (with_another (get_or needs 7 0) needs) rooms) 0 11 ≡ limits_refusal p low high rooms
  by-rooms ok needs rooms e =
      let lengths : limits_sizes p low high ≡ with_another (get_or needs 7 0) needs =
      limits-sizes p low high ∙ ap (λ (ks : List ℕ). with_another (get_or ks 7 0) ks) (sym e) in
      sym (ap (λ (k : ℕ). or_else k (room rooms)) ok ∙ ap (λ (ks : List ℕ). cond (roomy ks rooms) 0 11) lengths)
