use Prim.Native.Nat.{ℕ, ◌≤◌, ◌+◌}
use mathlib.Core.Path.{◌≡◌, refl, ap, sym, ◌∙◌}
use mathlib.Core.List.{List, []}
use lib.ListN.{length, get_or, drop, length-drop, length-take}
use Rattle.layout.specs.General.Lists.{written}
use Rattle.layout.specs.Problems.Cones.{records}
use Rattle.layout.specs.Problems.Patterns.{patterns}
use Rattle.layout.specs.Rows.Blocks.{Part, whole, cut, parts, part_rows, block_rows, block_row_count}
use Rattle.layout.specs.Checks.{no_cone}
use Rattle.layout.proofs.Lists.Buffers.{copy_done}
use Rattle.layout.proofs.Patterns.WordCounts.{cliques-few}
use Rattle.supernode_tree.specs.Reads.{pattern_at}
use Rattle.walk_cones.specs.Ahead.{ahead}
use Rattle.walk_cones.proofs.Counts.{pattern_few, counted}
use Rattle.rows_tables.specs.Tables.{table_of, part_codes, codes_from}
use Rattle.rows_tables.specs.declared.Table.{Table}
use Rattle.rows_tables.proofs.Codes.{codes_none, part-fits, wrote-part}
use Rattle.rows_tables.proofs.Tables.{table_is, few-rows}
use native.Mathlib.Omega.{arith}
use Rattle.rows_tables.proofs.write_table.Goals as goal
use Rattle.rows_tables.proofs.write_table.Goals.{In-Some-Whole, In-Some-Cut}

-- there is room for the whole table
roomy : (table : Table) (ps : List Part) (out : List ℕ) → length (table_of table ps) ≤ length out → length (codes_from table 0 ps) ≤ length out
roomy table ps out h = omega (arith, ap length (table_is table ps), h)

-- the next cone is not decomposed
module _ (c : In-Some-Whole) where
  abbrev whole_parts : List Part
  whole_parts = parts (records c.args.cones.now) (patterns c.args.count c.args.words.now)

  abbrev whole_of : Part
  whole_of = let q = c.loop-rows.place in whole q.cone (get_or (records c.args.cones.now) q.cone no_cone) q.row

  whole_room : length (codes_from c.args.table 0 whole_parts) ≤ length c.args.out.now
  whole_room = roomy c.args.table whole_parts c.args.out.now c.requires.words_in_bounds

  rows_whole : c.loop-rows.first + c.in-Some-Whole.rows + block_row_count (ahead c.args.cones.now c.args.words.now c.in-Some-Whole.next) ≡ block_row_count whole_parts
  rows_whole =
      counted part_rows whole_of (ahead c.args.cones.now c.args.words.now c.loop-rows.place) _ c.loop-rows.first _ _ (rw c.in-Some-Whole.field-0-is at c.in-Some-Whole.ensures).self_value (rw c.in-Some-Whole.field-0-is at c.in-Some-Whole.ensures).knows.0 c.loop-rows.invariant.5

  fits_whole : c.loop-rows.t + length (part_codes c.args.table c.loop-rows.first whole_of) ≤ length (codes_from c.args.table 0 whole_parts)
  fits_whole =
      (part-fits c.args.table (codes_from c.args.table 0 whole_parts) c.loop-rows.t c.loop-rows.first c.loop-rows.invariant.0 whole_of
      (ahead c.args.cones.now c.args.words.now c.loop-rows.place) _ c.loop-rows.invariant.3 (rw c.in-Some-Whole.field-0-is at c.in-Some-Whole.ensures).self_value).2

-- the next cone is decomposed
module _ (c : In-Some-Cut) where
  abbrev cut_parts : List Part
  cut_parts = parts (records c.args.cones.now) (patterns c.args.count c.args.words.now)

  abbrev cut_of : Part
  cut_of = let q = c.loop-rows.place in cut q.cone q.row q.pattern (pattern_at c.args.words.now c.in-Some-Cut.at)

  cut_room : length (codes_from c.args.table 0 cut_parts) ≤ length c.args.out.now
  cut_room = roomy c.args.table cut_parts c.args.out.now c.requires.words_in_bounds

  rows_cut : (c.loop-rows.first + block_rows (pattern_at c.args.words.now c.in-Some-Cut.at) + block_row_count (ahead c.args.cones.now c.args.words.now c.in-Some-Cut.next) ≡ block_row_count cut_parts)
      × (block_rows (pattern_at c.args.words.now c.in-Some-Cut.at) ≤ 8421376)
  rows_cut =
      let p = pattern_at c.args.words.now c.in-Some-Cut.at in
      let h = (rw c.in-Some-Cut.field-0-is at c.in-Some-Cut.ensures).knows in (
        counted part_rows cut_of (ahead c.args.cones.now c.args.words.now c.loop-rows.place) _ c.loop-rows.first _ _ (rw c.in-Some-Cut.field-0-is at c.in-Some-Cut.ensures).self_value refl c.loop-rows.invariant.5,
        omega (arith, (pattern_few p h.1 h.2).0, cliques-few p h.1, h.2),
      )

  fits_cut : c.loop-rows.t + length (part_codes c.args.table c.loop-rows.first cut_of) ≤ length (codes_from c.args.table 0 cut_parts)
  fits_cut =
      (part-fits c.args.table (codes_from c.args.table 0 cut_parts) c.loop-rows.t c.loop-rows.first c.loop-rows.invariant.0 cut_of
      (ahead c.args.cones.now c.args.words.now c.loop-rows.place) _ c.loop-rows.invariant.3 (rw c.in-Some-Cut.field-0-is at c.in-Some-Cut.ensures).self_value).2

pub loop-rows-init : goal.loop-rows-init
loop-rows-init c =
    let e = c.start-place.ensures.result_value in
    (omega arith, refl, refl, ap (codes_from c.args.table 0) (sym e), c.start-place.ensures.reached, omega (arith, ap block_row_count e), omega arith)

pub next-requires : goal.next-requires
next-requires c = c.loop-rows.invariant.4

pub offset_bounds-out-t : goal.offset_bounds-out-t
offset_bounds-out-t c = omega (arith, whole_room (goal.at.offset_bounds-out-t c).In-Some-Whole, c.loop-rows.invariant.0, c.loop-rows.invariant.1)

pub slice_bounds-write_whole-count : goal.slice_bounds-write_whole-count
slice_bounds-write_whole-count c = omega (arith, whole_room (goal.at.slice_bounds-write_whole-count c).In-Some-Whole, c.loop-rows.invariant.0, c.loop-rows.invariant.1)

pub slice_bounds-write_whole-start : goal.slice_bounds-write_whole-start
slice_bounds-write_whole-start c = omega (arith, whole_room (goal.at.slice_bounds-write_whole-start c).In-Some-Whole, c.loop-rows.invariant.0, c.loop-rows.invariant.1)

pub slice_bounds-write_whole-end : goal.slice_bounds-write_whole-end
slice_bounds-write_whole-end c = omega (arith, whole_room (goal.at.slice_bounds-write_whole-end c).In-Some-Whole, c.loop-rows.invariant.0, c.loop-rows.invariant.1)

pub write_whole-t-requires : goal.write_whole-t-requires
write_whole-t-requires c =
    let k = (goal.at.write_whole-t-requires c).In-Some-Whole in
    let h = (rw c.in-Some-Whole.field-0-is at c.in-Some-Whole.ensures).knows in
    record {
      rows_value = (h.0, omega (arith, h.1, c.loop-rows.invariant.4.few), h.2, h.3);
      few = few-rows c.args.table _ _ c.requires.few (omega (arith, rows_whole k));
      row_in_bounds = simp (length-take, length-drop) (omega (arith, fits_whole k, whole_room k, c.loop-rows.invariant.1));
    }

pub overflow_add-t : goal.overflow_add-t
overflow_add-t c =
    let k = (goal.at.overflow_add-t c).In-Some-Whole in
    omega (arith, fits_whole k, c.write_whole-t.ensures.value, whole_room k)

pub overflow_add-first : goal.overflow_add-first
overflow_add-first c = omega (arith, c.loop-rows.invariant.6, (rw c.in-Some-Whole.field-0-is at c.in-Some-Whole.ensures).knows.2)

pub loop-rows-smaller-in-Some-Whole : goal.loop-rows-smaller-in-Some-Whole
loop-rows-smaller-in-Some-Whole c = omega (arith, ap length (rw c.in-Some-Whole.field-0-is at c.in-Some-Whole.ensures).self_value)

pub loop-rows-preserved-in-Some-Whole : goal.loop-rows-preserved-in-Some-Whole
loop-rows-preserved-in-Some-Whole c =
    let k = (goal.at.loop-rows-preserved-in-Some-Whole c).In-Some-Whole in
    let a = c.args in
    let w = c.write_whole-t in
    let h = (rw c.in-Some-Whole.field-0-is at c.in-Some-Whole.ensures).knows in
    let e = wrote-part a.table (codes_from a.table 0 (whole_parts k)) c.loop-rows.t c.loop-rows.first c.loop-rows.invariant.0 (whole_of k) (ahead a.cones.now a.words.now c.loop-rows.place) _
    c.loop-rows.invariant.3 (rw c.in-Some-Whole.field-0-is at c.in-Some-Whole.ensures).self_value
    a.out.now c.loop-rows.out w.new.out (whole_room k) c.loop-rows.invariant.1 c.loop-rows.invariant.2 w.result w.ensures.value w.ensures.out_after _ h.0 in
    (e.0, e.1, e.2, e.3, h.5, omega (arith, rows_whole k), omega (arith, c.loop-rows.invariant.6, h.1, h.4, c.loop-rows.invariant.4.few))

pub offset_bounds-out-t-in-Some-Cut : goal.offset_bounds-out-t-in-Some-Cut
offset_bounds-out-t-in-Some-Cut c = omega (arith, cut_room (goal.at.offset_bounds-out-t-in-Some-Cut c).In-Some-Cut, c.loop-rows.invariant.0, c.loop-rows.invariant.1)

pub slice_bounds-write_cut-count : goal.slice_bounds-write_cut-count
slice_bounds-write_cut-count c = omega (arith, cut_room (goal.at.slice_bounds-write_cut-count c).In-Some-Cut, c.loop-rows.invariant.0, c.loop-rows.invariant.1)

pub slice_bounds-write_cut-start : goal.slice_bounds-write_cut-start
slice_bounds-write_cut-start c = omega (arith, cut_room (goal.at.slice_bounds-write_cut-start c).In-Some-Cut, c.loop-rows.invariant.0, c.loop-rows.invariant.1)

pub slice_bounds-write_cut-end : goal.slice_bounds-write_cut-end
slice_bounds-write_cut-end c = omega (arith, cut_room (goal.at.slice_bounds-write_cut-end c).In-Some-Cut, c.loop-rows.invariant.0, c.loop-rows.invariant.1)

pub write_cut-t-requires : goal.write_cut-t-requires
write_cut-t-requires c =
    let k = (goal.at.write_cut-t-requires c).In-Some-Cut in
    let h = (rw c.in-Some-Cut.field-0-is at c.in-Some-Cut.ensures).knows in
    record {
      right_pattern = (h.1, h.2, omega (arith, h.3, c.loop-rows.invariant.4.few), h.4);
      few = few-rows c.args.table _ _ c.requires.few (omega (arith, (rows_cut k).0));
      at_in_bounds = simp (length-take, length-drop) (omega (arith, fits_cut k, cut_room k, c.loop-rows.invariant.1));
    }

pub overflow_add-t-in-Some-Cut : goal.overflow_add-t-in-Some-Cut
overflow_add-t-in-Some-Cut c =
    let k = (goal.at.overflow_add-t-in-Some-Cut c).In-Some-Cut in
    omega (arith, fits_cut k, c.write_cut-t.ensures.value, cut_room k)

pub get_decomposed_dim_and_overlaps-blocks-requires : goal.get_decomposed_dim_and_overlaps-blocks-requires
get_decomposed_dim_and_overlaps-blocks-requires c = let h = (rw c.in-Some-Cut.field-0-is at c.in-Some-Cut.ensures).knows in record { right_pattern = h.1; at_bound = h.2 }

pub overflow_add-first-in-Some-Cut : goal.overflow_add-first-in-Some-Cut
overflow_add-first-in-Some-Cut c =
    let k = (goal.at.overflow_add-first-in-Some-Cut c).In-Some-Cut in
    let d = c.get_decomposed_dim_and_overlaps-blocks.ensures.dim_value in
    omega (arith, c.loop-rows.invariant.6, (rw c.in-Some-Cut.field-0-is at c.in-Some-Cut.ensures).knows.4, (rows_cut k).1, d)

pub loop-rows-smaller : goal.loop-rows-smaller
loop-rows-smaller c = omega (arith, ap length (rw c.in-Some-Cut.field-0-is at c.in-Some-Cut.ensures).self_value)

pub loop-rows-preserved : goal.loop-rows-preserved
loop-rows-preserved c =
    let k = (goal.at.loop-rows-preserved c).In-Some-Cut in
    let d = c.get_decomposed_dim_and_overlaps-blocks.ensures.dim_value in
    let a = c.args in
    let w = c.write_cut-t in
    let h = (rw c.in-Some-Cut.field-0-is at c.in-Some-Cut.ensures).knows in
    let e = wrote-part a.table (codes_from a.table 0 (cut_parts k)) c.loop-rows.t c.loop-rows.first c.loop-rows.invariant.0 (cut_of k) (ahead a.cones.now a.words.now c.loop-rows.place) _
    c.loop-rows.invariant.3 (rw c.in-Some-Cut.field-0-is at c.in-Some-Cut.ensures).self_value
    a.out.now c.loop-rows.out w.new.out (cut_room k) c.loop-rows.invariant.1 c.loop-rows.invariant.2 w.result w.ensures.value w.ensures.out_after _ d in
    (e.0, e.1, e.2, e.3, h.6, omega (arith, (rows_cut k).0, d), omega (arith, c.loop-rows.invariant.6, (rows_cut k).1, d, h.5))

pub shape_of-out-in-None : goal.shape_of-out-in-None
shape_of-out-in-None c = c.loop-rows.invariant.1

pub returns-in-None : goal.returns-in-None
returns-in-None c =
    let a = c.args in
    let t = c.loop-rows.t in
    let ps : List Part = parts (records a.cones.now) (patterns a.count a.words.now) in
    let full : List ℕ = codes_from a.table 0 ps in
    let left : drop t full ≡ [] = c.loop-rows.invariant.3 ∙ ap (codes_from a.table c.loop-rows.first) c.in-None.ensures.self_value ∙ codes_none a.table c.loop-rows.first in
    let all : length full ≤ t = omega (arith, ap length left, length-drop t full) in
    let e : t ≡ length full = omega (arith, all, c.loop-rows.invariant.0) in
    record {
      value = e ∙ ap length (table_is a.table ps);
      out_after = c.loop-rows.invariant.2 ∙ copy_done full a.out.now t all ∙ ap (λ (xs : List ℕ). written xs a.out.now) (table_is a.table ps);
    }
