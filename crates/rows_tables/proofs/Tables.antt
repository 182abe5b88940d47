-- The tables are those of the layout.
use Prim.Native.Nat.{ℕ, zero, suc, ◌+◌, ◌*◌, ◌≤◌}
use native.Mathlib.Omega.{arith}
use mathlib.Core.Path.{◌≡◌, refl, sym, ap, ap₂, ◌∙◌}
use mathlib.Core.List.{List, [], ◌∷◌, ◌++◌, map, map-append}
use lib.ListN.{length, length-append, length-map}
use Rattle.layout.specs.General.Lists.{up_from, below, join}
use Rattle.layout.specs.Problems.Cones.{row_count}
use Rattle.layout.specs.Problems.Patterns.{clique_count}
use Rattle.layout.specs.Rows.Blocks.{Part, whole, cut, kept, block, pair_row, pattern_rows, rows_from, standard_rows, block_rows, part_rows, part_cones, cone_count}
use Rattle.layout.specs.Checks.{Laid}
use Rattle.layout.specs.Cuts.Compact.{compact_part, map_part, map_from, cone_map, map_words}
use Rattle.layout.specs.Cuts.Standard.{standard_part}
use Rattle.layout.proofs.Rows.Laid.{length-rows}
use Rattle.layout.proofs.Rows.ConeMap.{words-part}
use Rattle.layout.proofs.Columns.Sizes.{standard_count, map-count, entries-length}
use Rattle.rows_codes.specs.Codes.{cut_code}
use Rattle.rows_tables.specs.Tables.{table_of, table_length, whole_codes, cut_codes, part_codes, codes_from, Few}
use Rattle.rows_tables.proofs.Cones.{standard_words, compact_words}
use Rattle.rows_tables.specs.declared.Table.{Table}
use Rattle.rows_tables.specs.declared.Table.TheVariants.{HRows, CutRows, StandardCones, CompactCones, ConeMap}

-- ---- tables that do not depend on the rows before

fold_by : (table : Table) (f : Part → List ℕ) → ((first : ℕ) (x : Part) → part_codes table first x ≡ f x)
    → (first : ℕ) (ps : List Part) → codes_from table first ps ≡ join f ps
unfolding codes_from
fold_by table f h first [] = refl
fold_by table f h first (x ∷ ps) = ap₂ ◌++◌ (h first x) (fold_by table f h (first + part_rows x) ps)

standard_cones_lem : (first : ℕ) (ps : List Part) → codes_from StandardCones first ps ≡ join standard_part ps
unfolding whole_codes cut_codes
standard_cones_lem first ps = fold_by StandardCones standard_part part first ps
  where
    part : (first : ℕ) (x : Part) → part_codes StandardCones first x ≡ standard_part x
    part first (whole i c row) = refl
    part first (cut i row k p) = refl

compact_cones : (first : ℕ) (ps : List Part) → codes_from CompactCones first ps ≡ join compact_part ps
unfolding whole_codes cut_codes
compact_cones first ps = fold_by CompactCones compact_part part first ps
  where
    part : (first : ℕ) (x : Part) → part_codes CompactCones first x ≡ compact_part x
    part first (whole i c row) = refl
    part first (cut i row k p) = refl

h_rows_lem : (first : ℕ) (ps : List Part) → codes_from HRows first ps ≡ standard_rows ps
unfolding codes_from whole_codes cut_codes
h_rows_lem first [] = refl
h_rows_lem first (whole i c row ∷ ps) = ap (λ (xs : List ℕ). up_from row (row_count c) ++ xs) (h_rows_lem (first + row_count c) ps)
h_rows_lem first (cut i row k p ∷ ps) =
    ap (λ (ys : List ℕ). join (λ c. map (pair_row row) (block p c)) (below (clique_count p)) ++ ys) (h_rows_lem (first + block_rows p) ps)

-- ---- the cone map

cone-map : (first : ℕ) (ps : List Part) → codes_from ConeMap first ps ≡ map_words (map_from first ps)
unfolding codes_from whole_codes cut_codes
cone-map first [] = refl
cone-map first (whole i c row ∷ ps) =
    ap (λ (ws : List ℕ). map_words (map_part first (whole i c row)) ++ ws) (cone-map (first + row_count c) ps) ∙ sym (words-part first (whole i c row) ps)
cone-map first (cut i row k p ∷ ps) =
    ap (λ (ws : List ℕ). map_words (map_part first (cut i row k p)) ++ ws) (cone-map (first + block_rows p) ps) ∙ sym (words-part first (cut i row k p) ps)

-- ---- the compact route's rows, coded

kept-up : (row n : ℕ) → map cut_code (map kept (up_from row n)) ≡ up_from row n
kept-up row zero = refl
kept-up row (suc n) = ap (λ (xs : List ℕ). row ∷ xs) (kept-up (suc row) n)

cut-rows : (first : ℕ) (ps : List Part) → codes_from CutRows first ps ≡ map cut_code (rows_from first ps)
unfolding codes_from whole_codes cut_codes
cut-rows first [] = refl
cut-rows first (whole i c r ∷ ps) =
    ap₂ ◌++◌ (sym (kept-up r (row_count c))) (cut-rows (first + row_count c) ps)
    ∙ sym (map-append cut_code (map kept (up_from r (row_count c))) (rows_from (first + row_count c) ps))
cut-rows first (cut i r k p ∷ ps) =
    ap (λ (xs : List ℕ). map cut_code (pattern_rows p r first) ++ xs) (cut-rows (first + block_rows p) ps)
    ∙ sym (map-append cut_code (pattern_rows p r first) (rows_from (first + block_rows p) ps))

-- ---- the table from the first part on is that of the layout

pub table_is : (table : Table) (ps : List Part) → codes_from table 0 ps ≡ table_of table ps
table_is HRows ps = h_rows_lem 0 ps
table_is CutRows ps = cut-rows 0 ps
table_is StandardCones ps = standard_cones_lem 0 ps
table_is CompactCones ps = compact_cones 0 ps
table_is ConeMap ps = cone-map 0 ps

-- ---- the number of words of a table

cones-length : (f : Part → List ℕ) → ((x : Part) → length (f x) ≡ part_cones x * 3) → (ps : List Part) → length (join f ps) ≡ cone_count ps * 3
cones-length f h [] = refl
cones-length f h (x ∷ ps) = omega (arith, length-append (f x) (join f ps), h x, cones-length f h ps)

pub table-length : (table : Table) (ps : List Part) → Laid 0 ps → length (table_of table ps) ≡ table_length table ps
table-length HRows ps h = standard_count 0 ps h
table-length CutRows ps h = length-map (rows_from 0 ps) cut_code ∙ length-rows 0 0 ps h
table-length StandardCones ps h = cones-length standard_part part ps
  where
    part : (x : Part) → length (standard_part x) ≡ part_cones x * 3
    part (whole i c row) = refl
    part (cut i row k p) = standard_words p i row k
table-length CompactCones ps h = cones-length compact_part part ps
  where
    part : (x : Part) → length (compact_part x) ≡ part_cones x * 3
    part (whole i c row) = refl
    part (cut i row k p) = compact_words p i row k
table-length ConeMap ps h = omega (arith, entries-length (cone_map ps), map-count 0 ps)

-- ---- the augmented rows of a table are within the bound

pub few-rows : (table : Table) (a b : ℕ) → Few table b → a ≤ b → Few table a
few-rows HRows a b few l = tt
few-rows CutRows a b few l = omega arith
few-rows StandardCones a b few l = tt
few-rows CompactCones a b few l = tt
few-rows ConeMap a b few l = omega arith
