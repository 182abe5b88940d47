-- The words of a part in each table.
use Prim.Native.Nat.{ℕ, ◌+◌, ◌-◌, ◌≤◌}
use native.Mathlib.Omega.{arith}
use mathlib.Core.Path.{◌≡◌, refl, ap, sym, ◌∙◌}
use mathlib.Core.Logic.{◌⊎◌, inl, inr}
use mathlib.Core.List.{List, [], ◌∷◌, ◌++◌, map}
use lib.ListN.{length, take, drop}
use lib.Seq.{length-take-le}
use Rattle.layout.specs.General.Lists.{up_from, written}
use Rattle.layout.specs.Problems.Cones.{Cone, row_count}
use Rattle.layout.specs.Problems.Patterns.{Pattern}
use Rattle.layout.specs.Rows.Blocks.{Part, cut, pattern_rows, part_rows}
use Rattle.layout.specs.Cuts.Compact.{cone_words, whole_cone, entry_words, compact_part, map_part, map_words}
use Rattle.layout.specs.Cuts.Standard.{standard_part}
use Rattle.rows_codes.specs.Codes.{cut_code}
use Rattle.rows_blocks.specs.Codes.{standard_pattern_rows}
use Rattle.layout.proofs.Lists.Starts.{length-written}
use Rattle.layout.proofs.Lists.Buffers.{written_next}
use Rattle.rows_tables.specs.Tables.{whole_codes, cut_codes, part_codes, codes_from}
use Rattle.rows_tables.proofs.Laws.{part-done}
use Rattle.rows_tables.specs.declared.Table.{Table}
use Rattle.rows_tables.specs.declared.Table.TheVariants.{HRows, CutRows, StandardCones, CompactCones, ConeMap}

-- what was written is equal to another list, and as long
pub renamed : (codes xs : List ℕ) → codes ≡ xs → (r : ℕ) (old new : List ℕ) → r ≡ length xs → new ≡ written xs old
    → (r ≡ length codes) × (new ≡ written codes old)
renamed codes xs e r old new n w = (n ∙ sym (ap length e), w ∙ ap (λ (ys : List ℕ). written ys old) (sym e))

module _ (first i : ℕ) (c : Cone) (row : ℕ) where
  pub whole-rows : (table : Table) → (table ≡ HRows) ⊎ (table ≡ CutRows) → whole_codes table first i c row ≡ up_from row (row_count c)
  unfolding whole_codes
  whole-rows table (inl e) = ap (λ (t : Table). whole_codes t first i c row) e
  whole-rows table (inr e) = ap (λ (t : Table). whole_codes t first i c row) e

  pub whole_words : (table : Table) → (table ≡ StandardCones) ⊎ (table ≡ CompactCones) → whole_codes table first i c row ≡ cone_words c
  unfolding whole_codes
  whole_words table (inl e) = ap (λ (t : Table). whole_codes t first i c row) e
  whole_words table (inr e) = ap (λ (t : Table). whole_codes t first i c row) e

  pub whole-map : (table : Table) → table ≡ ConeMap → whole_codes table first i c row ≡ entry_words (whole_cone i first (row_count c))
  unfolding whole_codes
  whole-map table e = ap (λ (t : Table). whole_codes t first i c row) e

module _ (table : Table) (first i row k : ℕ) (p : Pattern) where
  pub cut_h : table ≡ HRows → cut_codes table first i row k p ≡ standard_pattern_rows p row
  unfolding cut_codes
  cut_h e = ap (λ (x : Table). cut_codes x first i row k p) e

  pub cut-cut : table ≡ CutRows → cut_codes table first i row k p ≡ map cut_code (pattern_rows p row first)
  unfolding cut_codes
  cut-cut e = ap (λ (x : Table). cut_codes x first i row k p) e

  pub cut_standard : table ≡ StandardCones → cut_codes table first i row k p ≡ standard_part (cut i row k p)
  unfolding cut_codes
  cut_standard e = ap (λ (x : Table). cut_codes x first i row k p) e

  pub cut_compact : table ≡ CompactCones → cut_codes table first i row k p ≡ compact_part (cut i row k p)
  unfolding cut_codes
  cut_compact e = ap (λ (x : Table). cut_codes x first i row k p) e

  pub cut-map : table ≡ ConeMap → cut_codes table first i row k p ≡ map_words (map_part first (cut i row k p))
  unfolding cut_codes
  cut-map e = ap (λ (x : Table). cut_codes x first i row k p) e

-- ---- one more part of a table

codes_part : (table : Table) (first : ℕ) (x : Part) (ps : List Part)
    → codes_from table first (x ∷ ps) ≡ part_codes table first x ++ codes_from table (first + part_rows x) ps
unfolding codes_from
codes_part table first x ps = refl

pub codes_none : (table : Table) (first : ℕ) → codes_from table first [] ≡ []
unfolding codes_from
codes_none table first = refl

module _ (table : Table) (full : List ℕ) (t first : ℕ) (h : t ≤ length full) (x : Part) (before later : List Part)
    (left : drop t full ≡ codes_from table first before) (e : before ≡ x ∷ later) where
  -- the table up to the end of the part, the table after it, and that the part ends inside the table
  pub part-fits : (take (t + length (part_codes table first x)) full ≡ take t full ++ part_codes table first x)
      × (drop (t + length (part_codes table first x)) full ≡ codes_from table (first + part_rows x) later)
      × (t + length (part_codes table first x) ≤ length full)
  part-fits =
      part-done full (part_codes table first x) (codes_from table (first + part_rows x) later) t h
      (left ∙ ap (codes_from table first) e ∙ codes_part table first x later)

  -- a callee wrote the part to the buffer from index t on
  module _ (old out new : List ℕ) (room : length full ≤ length old) (same : length out ≡ length old) (done : out ≡ written (take t full) old)
      (r : ℕ) (n : r ≡ length (part_codes table first x)) (w : new ≡ written (part_codes table first x) (take (length out - t) (drop t out)))
      (rows : ℕ) (counted : rows ≡ part_rows x) where
    pub wrote-part : let next = take t out ++ (new ++ drop (length out - t) (drop t out)) in
        (t + r ≤ length full) × (length next ≡ length old) × (next ≡ written (take (t + r) full) old)
        × (drop (t + r) full ≡ codes_from table (first + rows) later)
    wrote-part =
        let k : ℕ = t + r in
        let q : t + length (part_codes table first x) ≡ k = omega arith in
        let put : take t out ++ (new ++ drop (length out - t) (drop t out)) ≡ written (take k full) old =
        written_next (take t full) (part_codes table first x) old out new t (length out - t) (sym (length-take-le t full h)) done
        (omega (arith, part-fits.2)) (omega (arith, part-fits.2)) w
        ∙ ap (λ (ys : List ℕ). written ys old) (sym part-fits.0 ∙ ap (λ (j : ℕ). take j full) q) in (
          omega (arith, part-fits.2),
          ap length put ∙ length-written (take k full) old (omega (arith, part-fits.2, length-take-le k full (omega (arith, part-fits.2)))),
          put,
          ap (λ (j : ℕ). drop j full) (sym q) ∙ part-fits.1 ∙ ap (λ (j : ℕ). codes_from table (first + j) later) (sym counted),
        )
