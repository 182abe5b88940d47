-- What joining s and z requires, and its result; x, τ and κ play no part in it.
use Rattle.std.specs.Prelude.{ℕ, ◌≤◌, ◌≡◌, Bool, true, false, List, [], ◌∷◌, length, Float}
use Rattle.layout.specs.General.Floats.{one64}
use Rattle.layout.specs.Problems.Problem.{Route, standard, compact, Solution, solution}
use Rattle.layout.specs.General.Lists.{join}
use Rattle.layout.specs.Problems.Cones.{row_count}
use Rattle.layout.specs.Rows.Blocks.{Part, whole, cut, block_row_count}
use Rattle.layout.specs.Checks.{Sound}
use Rattle.layout.specs.Calls.Join.{joined, joined_parts, slack_count}
use Rattle.join_blocks.specs.Joins.{down_sizes}

-- what the checks establish of m, the cone records, the patterns, and s and z on a route
pub record Joinable (route : Route) (m : ℕ) (cones : List ℕ) (count : ℕ) (words : List ℕ) (s z : List Float) : Type 0 where
  pub sound : Sound m cones count words
  pub few : block_row_count (joined_parts cones count words) ≤ 262144
  pub slacks : length s ≡ slack_count route m (joined_parts cones count words)
  pub duals : length z ≡ slack_count route m (joined_parts cones count words)

abbrev pub joined_of : Route → ℕ → List ℕ → ℕ → List ℕ → List Float → List Float → Solution
joined_of route m cones count words s z = joined route 0 m (joined_parts cones count words) (solution [] s z one64 one64)

-- the route of a flag: standard for true, compact for false
abbrev pub route_if : Bool → Route
route_if true = standard
route_if false = compact

-- the index where the parts' values start in s and z: on the standard route m values come before them
abbrev pub first_of : Bool → ℕ → ℕ
first_of true m = m
first_of false m = 0

-- the number of rows of each new cone, in the compact route's order
abbrev pub part_sizes : Part → List ℕ
part_sizes (whole i c row) = row_count c ∷ []
part_sizes (cut i row k p) = down_sizes p

abbrev pub block_sizes : List Part → List ℕ
block_sizes ps = join part_sizes ps
