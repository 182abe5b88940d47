-- The joined values of the rows of each part, part by part. The flag is true for the standard route and false for the compact one.
-- A part's values are a prefix of the given list.
use Rattle.std.specs.Prelude.{ℕ, ◌≤◌, ◌≡◌, Bool, true, false, List, [], ◌∷◌, ◌++◌, map, length, get_or, replicate, take, drop, Float}
use Rattle.std.specs.Float.Ieee.{add}
use Rattle.std.specs.Float.{binary64}
use Rattle.layout.specs.General.Lists.{below, written}
use Rattle.layout.specs.General.Floats.{zero64}
use Rattle.layout.specs.General.Triangle.{triangle}
use Rattle.layout.specs.Problems.Cones.{row_count}
use Rattle.layout.specs.Problems.Patterns.{Pattern}
use Rattle.layout.specs.Rows.Blocks.{Part, whole, cut, part_rows}
use Rattle.layout.specs.Joinings.Reverse.{add_columns, averaged}
use Rattle.reverse_standard.specs.Averages.{averaged_by, Clears}
use Rattle.join_blocks.specs.Joins.{join_z, own_rows}

-- the joined values of an undecomposed cone: the standard route adds them to +0.0
abbrev pub whole_values : Bool → List Float → List Float
whole_values true vs = map (add binary64 zero64) vs
whole_values false vs = vs

-- z averaged on the standard route over the rows os of the blocks' columns; unchanged on the compact route
abbrev pub z_averaged : Bool → List ℕ → List Float → List Float
z_averaged true os ws = map (averaged os ws) (below (length ws))
z_averaged false os ws = ws

-- the same, with a table of counts
abbrev pub z_averaged_by : Bool → List ℕ → List Float → List Float
z_averaged_by true counts ws = map (averaged_by counts ws) (below (length ws))
z_averaged_by false counts ws = ws

-- s and z of a decomposed cone
abbrev pub s_cut : Bool → Pattern → List Float → List Float
s_cut standard p vs = add_columns (own_rows standard p) vs (replicate (triangle p.vertex_count) zero64)

abbrev pub z_cut : Bool → Pattern → List Float → List Float
z_cut standard p vs = z_averaged standard (own_rows standard p) (join_z standard (own_rows standard p) vs (replicate (triangle p.vertex_count) zero64))

abbrev pub s_part : Bool → Part → List Float → List Float
s_part standard (whole i c row) vs = whole_values standard (take (row_count c) vs)
s_part standard (cut i row k p) vs = s_cut standard p vs

abbrev pub z_part : Bool → Part → List Float → List Float
z_part standard (whole i c row) vs = whole_values standard (take (row_count c) vs)
z_part standard (cut i row k p) vs = z_cut standard p vs

-- the values of all parts in order
abbrev pub values_from : (Part → List Float → List Float) → List Part → List Float → List Float
values_from f [] vs = []
values_from f (x ∷ ps) vs = f x vs ++ values_from f ps (drop (part_rows x) vs)

-- the buffer `old` with xs written to it from index `at` on
abbrev pub written_at : ℕ → List Float → List Float → List Float
written_at at xs old = take at old ++ written xs (drop at old)

-- whether there is a count for each of a cone's n rows, which only the standard route needs
abbrev pub CountsRows : Bool → ℕ → List ℕ → Type 0
CountsRows true n counts = n ≤ length counts
CountsRows false n counts = Unit {0}

-- whether all counts are 0, as between cones on the standard route
abbrev pub Cleared : Bool → List ℕ → Type 0
Cleared true counts = (o : ℕ) → get_or counts o 0 ≡ 0
Cleared false counts = Unit {0}

-- the counts of the first n rows are reset to 0, on the standard route
abbrev pub ClearsRows : Bool → ℕ → List ℕ → List ℕ → Type 0
ClearsRows true n old new = Clears n old new
ClearsRows false n old new = Unit {0}
