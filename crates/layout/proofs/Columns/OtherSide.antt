-- A problem with another right side b: of the compact route's checks only check 4 (b's length) and check 9 (b's values) depend on b.
use Prim.Native.Nat.{ℕ}
use mathlib.Core.Path.{◌≡◌, refl, ap, ◌∙◌}
use mathlib.Core.Bool.{Bool, cond, ◌&&◌}
use mathlib.Core.List.{List, [], ◌∷◌}
use lib.ListN.{length}
use lib.Dec.{T, eqb}
use lib.Ieee.{Float}
use Rattle.layout.specs.Problems.Problem.{Problem, with_b, compact}
use Rattle.layout.specs.Checks.{layout, check, check4, check9, check10, problem_checks, checks, covered_rows, entries_on, values_on, refusal, cones_read, alphas_as_many}
use Rattle.layout.specs.Cuts.Compact.{compact_b}
use Rattle.layout.specs.Calls.Cut.{augmented, augmented_with_b}
use Rattle.layout.proofs.Lists.Tests.{and_iff, and-true, eqb_iff, passed}
use Rattle.layout.proofs.Checks.Order.{passing, passed as check-passed, one_fails}
use Rattle.layout.proofs.Columns.Cut.{covered_entries}

-- whether every nonzero value of b is on a covered row
abbrev pub covers : Problem → List Float → Bool
covers p b = values_on (covered_rows (layout p)) p.m b

module _ (p : Problem) where
  -- the results of the cut differ only in b
  pub other_results : (b : List Float) → augmented compact (with_b p b) ≡ augmented_with_b (augmented compact p) (compact_b (with_b p b))
  other_results b = refl

  module _ (ok : refusal compact p ≡ 0) where
    test : (k : ℕ) → T (passing k (checks compact p))
    test k = check-passed k (checks compact p) tt ok

    -- a right side of length m passes check 4
    other_lengths : (b : List Float) → length b ≡ p.m → T (check4 (with_b p b))
    other_lengths b e =
        let others : Bool = cones_read p.m p.cones && alphas_as_many p.cones p.alphas && eqb (length p.q) p.n in
        (and_iff others (eqb (length b) p.m)).1
        (((and_iff others (eqb (length p.b) p.m)).0 (test 4)).0, (eqb_iff (length b) p.m).1 e)

    -- the refusal number of an accepted problem with another right side of length m
    pub other_refusal : (b : List Float) → length b ≡ p.m → refusal compact (with_b p b) ≡ cond (covers p b) 0 9
    other_refusal b e =
        let entries : Bool = entries_on (covered_rows (layout p)) p.A in
        one_fails (problem_checks (with_b p b)) 9 (check9 compact (with_b p b)) (check 10 (check10 compact p.m (layout p)) ∷ [])
        (test 1, (test 2, (test 3, (other_lengths b e, (test 5, (test 6, (test 7, tt))))))) (test 10, tt)
        ∙ ap (λ (t : Bool). cond t 0 9) (and-true entries (covers p b) (passed entries (covered_entries p ok)))
