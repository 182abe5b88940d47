-- Checks 9 and 10 in order.
use Rattle.std.specs.Prelude.{ℕ, ◌≡◌, Bool, true, List, [], ◌∷◌, Float}
use Rattle.layout.specs.Problems.Problem.{Route, standard, compact}
use Rattle.layout.specs.Rows.Blocks.{Part, block_row_count, overlap_count}
use Rattle.layout.specs.Checks.{check10, Check, check}
use Rattle.check_covered.specs.Covered.{entries_right}

abbrev pub entries_check : Route → ℕ → List ℕ → List Float → List Part → Bool
entries_check standard m rows b ps = true
entries_check compact m rows b ps = entries_right m rows b ps

-- the same checks as layout's `routeChecks`, in terms of what they read: m, the rows of A's entries, b and the parts
abbrev pub route_tests : Route → ℕ → List ℕ → List Float → List Part → List Check
route_tests route m rows b ps = check 9 (entries_check route m rows b ps) ∷ check 10 (check10 route m ps) ∷ []

-- rows and overlaps are the numbers of block rows and of overlaps among them
abbrev pub Counted : List Part → ℕ → ℕ → Type 0
Counted ps rows overlaps = (rows ≡ block_row_count ps) × (overlaps ≡ overlap_count ps)
