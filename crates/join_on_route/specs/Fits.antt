-- A joining's refusals from counts and lengths: n, m, the rows and overlaps of the blocks; the lengths of x, s and z; the room of each output.
use Rattle.std.specs.Prelude.{ℕ, ◌+◌, Bool, cond, ◌&&◌, List, [], ◌∷◌, eqb}
use Rattle.layout.specs.Problems.Problem.{Route, standard, compact}
use Rattle.layout.specs.Rows.Blocks.{Part}
use Rattle.layout.specs.Calls.Answers.{or_else, roomy}
use Rattle.layout.specs.Calls.Join.{added_count, slack_count, joined_parts, map_right, join_checks}
use Rattle.chordal_info.specs.Sizes.{rows_fit}

-- the part of check 12 about lengths
abbrev pub lengths_fit : Route → ℕ → ℕ → ℕ → ℕ → ℕ → ℕ → ℕ → Bool
lengths_fit standard n m rows overlaps x s z = eqb x (n + rows) && eqb s (m + rows) && eqb z (m + rows)
lengths_fit compact n m rows overlaps x s z = eqb x (n + overlaps) && eqb s rows && eqb z rows

-- checks 10 to 12, except for the cone map
unfoldable pub counted_refusal : Route → ℕ → ℕ → ℕ → ℕ → ℕ → ℕ → ℕ → List ℕ → ℕ
counted_refusal route n m rows overlaps x s z rooms =
    or_else (cond (rows_fit route m rows overlaps) 0 10)
    (or_else (cond (roomy (n ∷ m ∷ m ∷ 2 ∷ []) rooms) 0 11)
    (cond (lengths_fit route n m rows overlaps x s z) 0 12))

-- layout's `solutionFits` and `joinRefusal`, from the lengths of the solution
abbrev pub fits_by : Route → ℕ → ℕ → List Part → ℕ → ℕ → ℕ → Bool
fits_by route n m ps x s z = eqb x (n + added_count route ps) && eqb s (slack_count route m ps) && eqb z (slack_count route m ps)

unfoldable pub refusal_by : Route → ℕ → ℕ → List ℕ → ℕ → List ℕ → ℕ → ℕ → ℕ → List ℕ → List ℕ → ℕ
refusal_by route n m cones count words x s z entries rooms =
    let ps = joined_parts cones count words in
    or_else (join_checks route n m cones count words)
    (or_else (cond (roomy (n ∷ m ∷ m ∷ 2 ∷ []) rooms) 0 11)
    (cond (fits_by route n m ps x s z && map_right route ps entries) 0 12))
