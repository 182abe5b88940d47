-- The columns of a block over sorted vertices.
use Rattle.std.specs.Prelude.{ℕ, suc, ◌+◌, ◌<◌, ◌≤◌, List, map, length, get_or}
use Rattle.layout.specs.General.Lists.{below}
use Rattle.layout.specs.General.Triangle.{triangle}
use Rattle.layout.specs.Rows.Blocks.{Pair, pair}

abbrev pub column_pairs : List ℕ → ℕ → List Pair
column_pairs vs j = map (λ i. pair (get_or vs i 0) (get_or vs j 0)) (below (suc j))

-- each column of the block ends at or before row n, where the cone starts at row base
abbrev pub ColumnsFit : ℕ → List ℕ → ℕ → Type 0
ColumnsFit base vs n = (k : ℕ) → k < length vs → base + triangle (suc (get_or vs k 0)) ≤ n
