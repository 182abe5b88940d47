-- The tables, and the part of each that a cone makes up.
use Rattle.std.specs.Prelude.{ℕ, suc, ◌+◌, ◌*◌, ◌≤◌, Bool, true, false, List, [], ◌∷◌, ◌++◌, map}
use Rattle.layout.specs.General.Lists.{join, sum, up_from}
use Rattle.layout.specs.Problems.Cones.{Cone, row_count}
use Rattle.layout.specs.Problems.Patterns.{Pattern, Clique}
use Rattle.layout.specs.Rows.Blocks.{Part, whole, cut, pattern_rows, compact_rows, standard_rows, part_rows, block_row_count, cone_count}
use Rattle.layout.specs.Cuts.Compact.{MapEntry, block_of, compact_part, cone_map, map_part, map_words}
use Rattle.layout.specs.Cuts.Standard.{standard_part}
use Rattle.rows_codes.specs.Codes.{cut_code}
use Rattle.supernode_tree.specs.Sizes.{dim_of}
use Rattle.rows_blocks.specs.Codes.{standard_pattern_rows}
use Rattle.rows_tables.specs.declared.Table.{Table}
use Rattle.rows_tables.specs.declared.Table.TheVariants.{HRows, CutRows, StandardCones, CompactCones, ConeMap}

-- a table of the parts
abbrev pub table_of : Table → List Part → List ℕ
table_of HRows ps = standard_rows ps
table_of CutRows ps = map cut_code (compact_rows ps)
table_of StandardCones ps = join standard_part ps
table_of CompactCones ps = join compact_part ps
table_of ConeMap ps = map_words (cone_map ps)

-- how many words a table has
abbrev pub table_length : Table → List Part → ℕ
table_length HRows ps = block_row_count ps
table_length CutRows ps = block_row_count ps
table_length StandardCones ps = cone_count ps * 3
table_length CompactCones ps = cone_count ps * 3
table_length ConeMap ps = cone_count ps * 5

-- n augmented rows are within the bound, for the tables that hold augmented row numbers
abbrev pub Few : Table → ℕ → Type 0
Few HRows n = Unit {0}
Few CutRows n = n ≤ 262144
Few StandardCones n = Unit {0}
Few CompactCones n = Unit {0}
Few ConeMap n = n ≤ 262144

-- ---- part by part

-- the cones of a part: on the standard route for true, on the compact one for false
abbrev pub route_part : Bool → Part → List ℕ
route_part true x = standard_part x
route_part false x = compact_part x

-- a table's words for an undecomposed cone, number i with record c and first row `row`, with `first` augmented rows before it
unfoldable pub whole_codes : Table → ℕ → ℕ → Cone → ℕ → List ℕ
whole_codes HRows first i c row = up_from row (row_count c)
whole_codes CutRows first i c row = up_from row (row_count c)
whole_codes StandardCones first i c row = standard_part (whole i c row)
whole_codes CompactCones first i c row = compact_part (whole i c row)
whole_codes ConeMap first i c row = map_words (map_part first (whole i c row))

-- a table's words for cone i, decomposed by pattern p, number k, with `first` augmented rows before it
unfoldable pub cut_codes : Table → ℕ → ℕ → ℕ → ℕ → Pattern → List ℕ
cut_codes HRows first i row k p = standard_pattern_rows p row
cut_codes CutRows first i row k p = map cut_code (pattern_rows p row first)
cut_codes StandardCones first i row k p = standard_part (cut i row k p)
cut_codes CompactCones first i row k p = compact_part (cut i row k p)
cut_codes ConeMap first i row k p = map_words (map_part first (cut i row k p))

abbrev pub part_codes : Table → ℕ → Part → List ℕ
part_codes table first (whole i c row) = whole_codes table first i c row
part_codes table first (cut i row k p) = cut_codes table first i row k p

-- a table's words for some parts, with `first` augmented rows before them
unfoldable pub codes_from : Table → ℕ → List Part → List ℕ
codes_from table first [] = []
codes_from table first (x ∷ ps) = part_codes table first x ++ codes_from table (first + part_rows x) ps

-- ---- the map entries of cliques

-- the entries of cliques numbered from c on, from last to first, with `first` augmented rows before them
abbrev pub entries_down : ℕ → ℕ → ℕ → ℕ → List Clique → List MapEntry
entries_down i k c first [] = []
entries_down i k c first (q ∷ qs) = entries_down i k (suc c) first qs ++ (block_of i k c (first + sum (map dim_of qs)) (dim_of q) ∷ [])
