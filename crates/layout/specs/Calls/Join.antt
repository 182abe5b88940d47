-- The joining: its refusal number, its result and its contract. It takes n, m, cone records and patterns, the solution and, on the compact
-- route, the cone map.
use Rattle.std.specs.Prelude.{ℕ, ◌+◌, Bool, true, cond, ◌&&◌, List, [], ◌∷◌, ◌≡◌, length, leb, eqb, Float}
use Rattle.layout.specs.General.Lists.{all, same_numbers}
use Rattle.layout.specs.General.Floats.{Doubles}
use Rattle.layout.specs.Problems.Problem.{Route, standard, compact, Solution}
use Rattle.layout.specs.Problems.Cones.{records}
use Rattle.layout.specs.Problems.Patterns.{patterns}
use Rattle.layout.specs.Rows.Blocks.{Part, parts, block_row_count, overlap_count}
use Rattle.layout.specs.Checks.{cones_bounded, cones_read, patterns_read, tree_right, cliques_right, check10, check, first_failing}
use Rattle.layout.specs.Cuts.Compact.{cone_map, map_words}
use Rattle.layout.specs.Joinings.Reverse.{compact_reverse, standard_reverse}
use Rattle.layout.specs.Calls.Answers.{output, or_else, roomy, on_route, route_of}

abbrev pub joined_parts : List ℕ → ℕ → List ℕ → List Part
joined_parts cones count words = parts (records cones) (patterns count words)

abbrev pub added_count : Route → List Part → ℕ
added_count standard ps = block_row_count ps
added_count compact ps = overlap_count ps

abbrev pub slack_count : Route → ℕ → List Part → ℕ
slack_count standard m ps = m + block_row_count ps
slack_count compact m ps = block_row_count ps

abbrev pub map_right : Route → List Part → List ℕ → Bool
map_right standard ps ws = true
map_right compact ps ws = same_numbers ws (map_words (cone_map ps))

-- check 1 of a joining
abbrev pub join_bounded : ℕ → ℕ → List ℕ → Bool
join_bounded n m cones = leb n 65536 && leb m 65536 && cones_bounded cones

-- check 12 of a joining, apart from the cone map (`map_right`)
abbrev pub solution_fits : Route → ℕ → ℕ → List Part → Solution → Bool
solution_fits route n m ps sol =
    eqb (length sol.x) (n + added_count route ps) && eqb (length sol.s) (slack_count route m ps)
    && eqb (length sol.z) (slack_count route m ps)

-- checks 1 to 10 of a joining, which has no inputs for 2, 3 and 9
abbrev pub join_checks : Route → ℕ → ℕ → List ℕ → ℕ → List ℕ → ℕ
join_checks route n m cones count words =
    let pats = patterns count words in
    first_failing
    (check 1 (join_bounded n m cones) ∷ check 4 (cones_read m cones)
    ∷ check 5 (patterns_read cones count words) ∷ check 6 (all tree_right pats) ∷ check 7 (all cliques_right pats)
    ∷ check 10 (check10 route m (joined_parts cones count words)) ∷ [])

-- the refusal number of a joining; `entries` is the cone map's words, `rooms` the lengths of x, s, z and the two scalars
abbrev pub join_refusal : Route → ℕ → ℕ → List ℕ → ℕ → List ℕ → Solution → List ℕ → List ℕ → ℕ
join_refusal route n m cones count words sol entries rooms =
    let ps = joined_parts cones count words in
    or_else (join_checks route n m cones count words)
    (or_else (cond (roomy (n ∷ m ∷ m ∷ 2 ∷ []) rooms) 0 11)
    (cond (solution_fits route n m ps sol && map_right route ps entries) 0 12))

abbrev pub joined : Route → ℕ → ℕ → List Part → Solution → Solution
joined standard n m ps sol = standard_reverse n m ps sol
joined compact n m ps sol = compact_reverse n m ps sol

abbrev pub scalars : Solution → List Float
scalars sol = sol.tau ∷ sol.kappa ∷ []

-- the four outputs
pub record Rejoined : Type 0 where
  pub x : List Float
  pub s : List Float
  pub z : List Float
  pub scalars : List Float

abbrev pub rejoined : List Float → List Float → List Float → List Float → Rejoined
rejoined x s z scalars = record { x = x; s = s; z = z; scalars = scalars }

abbrev pub rejoined_of : Solution → Rejoined
rejoined_of sol = record { x = sol.x; s = sol.s; z = sol.z; scalars = scalars sol }

abbrev pub rejoined_rooms : Rejoined → List ℕ
rejoined_rooms a = length a.x ∷ length a.s ∷ length a.z ∷ length a.scalars ∷ []

pub record HoldsRejoined (r : ℕ) (new before after : Rejoined) : Type 0 where
  pub x : after.x ≡ output r new.x before.x
  pub s : after.s ≡ output r new.s before.s
  pub z : after.z ≡ output r new.z before.z
  pub scalars : after.scalars ≡ output r new.scalars before.scalars

pub record Join (route n m : ℕ) (cones : List ℕ) (count : ℕ) (words : List ℕ) (sol : Solution) (map : List ℕ) (before after : Rejoined) (r : ℕ) : Type 0 where
  pub number : r ≡ on_route route (λ rt. join_refusal rt n m cones count words sol map (rejoined_rooms before))
  pub tables : HoldsRejoined r (rejoined_of (joined (route_of route) n m (joined_parts cones count words) sol)) before after
  -- s is passed as a slice of f64, so its values are doubles: the statements on rounding need it
  pub doubles : Doubles sol.s
