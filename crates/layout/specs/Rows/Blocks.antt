-- Blocks and the rows of an augmented problem, defined from the cones and the patterns alone. Definitions only.
-- Document 01's block: a clique's original vertices, sorted, upper triangle column by column.
use Rattle.std.specs.Prelude.{ℕ, suc, ◌+◌, Bool, true, false, cond, ◌&&◌, List, [], ◌∷◌, ◌++◌, map, reverse, length, get_or, drop, eqb}
use Rattle.layout.specs.General.Lists.{has, keep, below, up_from, sum, join, place_in}
use Rattle.layout.specs.General.Triangle.{triangle, pair_index}
use Rattle.layout.specs.Problems.Cones.{Cone, row_count}
use Rattle.layout.specs.Problems.Patterns.{Pattern, clique_at, clique_count, members, block_size}

-- ---- a block

-- the original vertices of the vertex numbers us
abbrev pub originals : Pattern → List ℕ → List ℕ
originals p us = map (λ u. get_or p.ordering u 0) us

-- the same, sorted
abbrev pub sorted : Pattern → List ℕ → List ℕ
sorted p us = let os = originals p us in keep (λ w. has w os) (below p.vertex_count)

pub data Pair : Type 0 where
  pair : ℕ → ℕ → Pair

-- the pairs of the upper triangle over sorted vertices, column by column
abbrev pub pairs : List ℕ → List Pair
pairs vs = join (λ j. map (λ i. pair (get_or vs i 0) (get_or vs j 0)) (below (suc j))) (below (length vs))

abbrev pub block : Pattern → ℕ → List Pair
block p c = pairs (sorted p (members (clique_at p c)))

-- ---- the cones, each undecomposed (`whole`) or decomposed by a pattern (`cut`)

pub data Part : Type 0 where
  -- the cone's number, its record, its first row
  whole : ℕ → Cone → ℕ → Part
  -- the cone's number, its first row, the pattern's number and the pattern
  cut : ℕ → ℕ → ℕ → Pattern → Part

-- whether the first pattern is that of cone i
abbrev pub is_cut : ℕ → List Pattern → Bool
is_cut i [] = false
is_cut i (p ∷ ps) = eqb p.orig_index i

abbrev pub part_of : ℕ → Cone → ℕ → ℕ → List Pattern → Part
part_of i c row k [] = whole i c row
part_of i c row k (p ∷ ps) = cond (eqb p.orig_index i) (cut i row k p) (whole i c row)

-- the parts of the cones from number i and row `row` on, with the patterns from number k on
abbrev pub parts_from : ℕ → ℕ → ℕ → List Cone → List Pattern → List Part
parts_from i row k [] ps = []
parts_from i row k (c ∷ cs) ps =
    part_of i c row k ps
    ∷ parts_from (suc i) (row + row_count c) (cond (is_cut i ps) (suc k) k) cs (cond (is_cut i ps) (drop 1 ps) ps)

abbrev pub parts : List Cone → List Pattern → List Part
parts cs ps = parts_from 0 0 0 cs ps

-- ---- the compact route's rows

-- What an augmented row is: original row o of an undecomposed cone; original row o, owned by this block; or an overlap
-- at original row o, tied to augmented row r in the parent's block.
pub data Row : Type 0 where
  kept : ℕ → Row
  owned : ℕ → Row
  overlap : ℕ → ℕ → Row

abbrev pub original_row : Row → ℕ
original_row (kept o) = o
original_row (owned o) = o
original_row (overlap o r) = o

abbrev pub is_overlap : Row → Bool
is_overlap (kept o) = false
is_overlap (owned o) = false
is_overlap (overlap o r) = true

-- the total number of rows of a pattern's blocks
abbrev pub block_rows : Pattern → ℕ
block_rows p = sum (map (λ c. triangle (block_size c)) p.cliques)

-- the number of overlaps among them
abbrev pub overlap_rows : Pattern → ℕ
overlap_rows p = sum (map (λ c. triangle (length c.separator)) p.cliques)

-- the first row of clique c's block, where the pattern's rows start at `first`: cliques go from last to first
abbrev pub first_row : Pattern → ℕ → ℕ → ℕ
first_row p first c = first + sum (map (λ c. triangle (block_size c)) (drop (suc c) p.cliques))

-- the augmented row of the pair (i, j) in the parent's block
abbrev pub parent_row : Pattern → ℕ → ℕ → Pair → ℕ
parent_row p first parent (pair i j) =
    let vs = sorted p (members (clique_at p parent)) in
    first_row p first parent + pair_index (place_in vs i) (place_in vs j)

-- whether the pair lies wholly in clique c's separator
abbrev pub in_separator : Pattern → ℕ → Pair → Bool
in_separator p c (pair i j) = let os = originals p (clique_at p c).separator in has i os && has j os

abbrev pub row_of : Pattern → ℕ → ℕ → ℕ → Pair → Row
row_of p base first c (pair i j) =
    let o = base + pair_index i j in
    cond (in_separator p c (pair i j)) (overlap o (parent_row p first (clique_at p c).parent (pair i j))) (owned o)

-- a pattern's augmented rows, cliques from last to first
abbrev pub pattern_rows : Pattern → ℕ → ℕ → List Row
pattern_rows p base first = join (λ c. map (row_of p base first c) (block p c)) (reverse (below (clique_count p)))

abbrev pub rows_from : ℕ → List Part → List Row
rows_from first [] = []
rows_from first (whole i c row ∷ ps) = map kept (up_from row (row_count c)) ++ rows_from (first + row_count c) ps
rows_from first (cut i row k p ∷ ps) = pattern_rows p row first ++ rows_from (first + block_rows p) ps

abbrev pub compact_rows : List Part → List Row
compact_rows ps = rows_from 0 ps

-- ---- the standard route's columns of H: the original row of each, cliques from first to last

abbrev pub pair_row : ℕ → Pair → ℕ
pair_row base (pair i j) = base + pair_index i j

abbrev pub standard_rows : List Part → List ℕ
standard_rows [] = []
standard_rows (whole i c row ∷ ps) = up_from row (row_count c) ++ standard_rows ps
standard_rows (cut i row k p ∷ ps) = join (λ c. map (pair_row row) (block p c)) (below (clique_count p)) ++ standard_rows ps

-- ---- counts

-- the number of original rows of a part
abbrev pub cone_rows : Part → ℕ
cone_rows (whole i c row) = row_count c
cone_rows (cut i row k p) = triangle p.vertex_count

-- the number of new cones of a part: a decomposed cone becomes one cone for each clique
abbrev pub part_cones : Part → ℕ
part_cones (whole i c row) = 1
part_cones (cut i row k p) = clique_count p

abbrev pub part_rows : Part → ℕ
part_rows (whole i c row) = row_count c
part_rows (cut i row k p) = block_rows p

abbrev pub part_overlaps : Part → ℕ
part_overlaps (whole i c row) = 0
part_overlaps (cut i row k p) = overlap_rows p

abbrev pub cone_count : List Part → ℕ
cone_count ps = sum (map part_cones ps)

abbrev pub block_row_count : List Part → ℕ
block_row_count ps = sum (map part_rows ps)

abbrev pub overlap_count : List Part → ℕ
overlap_count ps = sum (map part_overlaps ps)
