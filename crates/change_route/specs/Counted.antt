-- The refusals from counts and lengths: n, m, the numbers of block rows and overlaps, the lengths of x, s and z, and the length of each output.
use Rattle.std.specs.Prelude.{ℕ, ◌+◌, List, [], ◌∷◌}
use Rattle.layout.specs.Problems.Problem.{standard, compact}
use Rattle.layout.specs.Checks.{check, first_failing}
use Rattle.layout.specs.Calls.Answers.{roomy}
use Rattle.chordal_info.specs.Sizes.{rows_fit}
use Rattle.join_on_route.specs.Fits.{lengths_fit}

-- the first failing one of check 10 of both routes, 11 and 12
unfoldable pub counted_refusal : ℕ → ℕ → ℕ → ℕ → ℕ → ℕ → ℕ → List ℕ → ℕ
counted_refusal n m rows overlaps x s z rooms =
    first_failing
    (check 10 (rows_fit standard m rows overlaps) ∷ check 10 (rows_fit compact m rows overlaps)
    ∷ check 11 (roomy ((n + overlaps) ∷ rows ∷ rows ∷ 2 ∷ []) rooms) ∷ check 12 (lengths_fit standard n m rows overlaps x s z) ∷ [])
