-- The counts that a cut's writers need.
use Rattle.std.specs.Prelude.{ℕ, ◌≡◌, List}
use Rattle.layout.specs.Problems.Problem.{Route, standard, compact}
use Rattle.layout.specs.Rows.Blocks.{Part, block_row_count}
use Rattle.layout.specs.Calls.Join.{added_count}
use Rattle.decomp.specs.declared.Added.{Added}

-- the columns that a route adds, from the numbers of block rows and of overlaps
abbrev pub columns_added : Route → ℕ → ℕ → ℕ
columns_added standard rows overlaps = rows
columns_added compact rows overlaps = overlaps

-- r has the number of block rows of the parts, and of the columns that the route adds
abbrev pub Adds : Route → List Part → Added → Type 0
Adds route ps r = (r.rows ≡ block_row_count ps) × (r.columns ≡ added_count route ps)
