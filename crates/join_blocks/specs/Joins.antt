-- How each route joins block values over the rows of a cone: the standard route for true, the compact one for false.
-- s adds on both routes: that is layout's `addColumns`.
use Rattle.std.specs.Prelude.{ℕ, ◌+◌, ◌≤◌, ◌<◌, ◌≡◌, Bool, true, false, List, map, reverse, length, get_or, Float}
use Rattle.layout.specs.General.Lists.{walk, below, join}
use Rattle.layout.specs.General.Triangle.{triangle}
use Rattle.layout.specs.Problems.Patterns.{Pattern, Clique, no_clique, members, clique_at, clique_count, block_size}
use Rattle.layout.specs.Rows.Blocks.{pairs, pair_row, original_row, pattern_rows}
use Rattle.layout.specs.Joinings.Reverse.{add_at, put_at, column_count}
use Rattle.rows_blocks.specs.Vertices.{Sortable, sorted_of}
use Rattle.rows_blocks.specs.Columns.{column_pairs}
use Rattle.rows_blocks.specs.Codes.{standard_pattern_rows}

-- ---- z: the standard route adds too, the compact one keeps the last value

abbrev pub z_at : Bool → ℕ → Float → List Float → List Float
z_at true o v ws = add_at o v ws
z_at false o v ws = put_at o v ws

abbrev pub join_z : Bool → List ℕ → List Float → List Float → List Float
join_z standard os vs ws = walk (z_at standard) os vs ws

-- ---- counts: the standard route counts the columns of H on each row

-- the counts grew by the number of columns on each row
abbrev pub Counts : Bool → List ℕ → List ℕ → List ℕ → Type 0
Counts true os old new = (o : ℕ) → o < length new → get_or new o 0 ≡ get_or old o 0 + column_count os o
Counts false os old new = Unit {0}

-- each row below n has a count, to which k more can be added without overflow
abbrev pub Countable : Bool → ℕ → ℕ → List ℕ → Type 0
Countable true n k counts = (n ≤ length counts) × ((o : ℕ) → o < n → get_or counts o 0 + k < 4294967296)
Countable false n k counts = Unit {0}

-- ---- rows, counted from the cone's first row

abbrev pub block_column_rows : List ℕ → ℕ → List ℕ
block_column_rows vs j = map (pair_row 0) (column_pairs vs j)

abbrev pub block_rows_of : List ℕ → List ℕ
block_rows_of vs = map (pair_row 0) (pairs vs)

abbrev pub own_rows : Bool → Pattern → List ℕ
own_rows true p = standard_pattern_rows p 0
own_rows false p = map original_row (pattern_rows p 0 0)

-- the rows of the cliques' blocks, first to last, by the ordering and the cliques instead of the pattern
abbrev pub rows_up : List ℕ → List Clique → List ℕ
rows_up ordering cs = join (λ q. block_rows_of (sorted_of ordering (members q))) cs

-- the members of each clique can be sorted
abbrev pub AllSortable : List ℕ → List Clique → Type 0
AllSortable ordering cs = (c : ℕ) → c < length cs → Sortable ordering (members (get_or cs c no_clique))

-- the number of rows of each block, in the compact route's order
abbrev pub down_sizes : Pattern → List ℕ
down_sizes p = map (λ c. triangle (block_size (clique_at p c))) (reverse (below (clique_count p)))
