use Prim.Native.Nat.{ℕ, ◌+◌, ◌-◌}
use native.Mathlib.Omega.{arith}
use mathlib.Core.Path.{ap, ap₂, sym, ◌∙◌}
use lib.ListN.{length-replicate}
use lib.Seq.{length-take-le}
use Rattle.layout.specs.General.Lists.{written}
use Rattle.layout.specs.General.Floats.{zero64}
use Rattle.layout.specs.Files.File.{BitTables, file_of}
use Rattle.layout.specs.Files.FileWords.{word_tables}
use Rattle.file_shape.proofs.Parts.{stands_long}
use Rattle.compact_tables.proofs.Cut.{count-lengths, columns_is, rows_is, room_columns, room-entries, room-rows, room-cones, cut_fits, cut-tables, cut_extends}
use Rattle.compact_tables.proofs.write_cut.Goals as goal

pub count_at-n-requires : goal.count_at-n-requires
count_at-n-requires c =
    omega (arith, stands_long c.args.words.now c.requires.well_shaped.0)

pub count_at-columns-requires : goal.count_at-columns-requires
count_at-columns-requires c =
    omega (arith, count-lengths (word_tables c.args.words.now) c.args.lengths.now c.requires.writes.0)

pub count_at-entries-requires : goal.count_at-entries-requires
count_at-entries-requires c =
    omega (arith, count-lengths (word_tables c.args.words.now) c.args.lengths.now c.requires.writes.0)

pub count_at-rows-requires : goal.count_at-rows-requires
count_at-rows-requires c =
    omega (arith, count-lengths (word_tables c.args.words.now) c.args.lengths.now c.requires.writes.0)

pub count_at-records-requires : goal.count_at-records-requires
count_at-records-requires c =
    omega (arith, count-lengths (word_tables c.args.words.now) c.args.lengths.now c.requires.writes.0)

pub overflow_sub-columns : goal.overflow_sub-columns
overflow_sub-columns c =
    omega (arith, columns_is (word_tables c.args.words.now) c.args.lengths.now c.requires.writes.0, c.count_at-n.ensures.0, c.count_at-columns.ensures.0)

pub slice_bounds-cut_constraints-end : goal.slice_bounds-cut_constraints-end
slice_bounds-cut_constraints-end c = sym (length-replicate {A = ℕ} 16384 0)

pub slice_bounds-cut_constraints-end-2 : goal.slice_bounds-cut_constraints-end-2
slice_bounds-cut_constraints-end-2 c = sym (length-replicate {A = ℕ} 16384 0)

pub slice_bounds-cut_constraints-end-3 : goal.slice_bounds-cut_constraints-end-3
slice_bounds-cut_constraints-end-3 c = sym (length-replicate 8192 zero64)

pub slice_bounds-cut_constraints-end-4 : goal.slice_bounds-cut_constraints-end-4
slice_bounds-cut_constraints-end-4 c = sym (length-replicate 8192 zero64)

pub slice_bounds-cut_constraints-end-5 : goal.slice_bounds-cut_constraints-end-5
slice_bounds-cut_constraints-end-5 c = sym (length-replicate {A = ℕ} 16384 0)

pub cut_constraints-requires : goal.cut_constraints-requires
cut_constraints-requires c =
    let t = word_tables c.args.words.now in
    let l = c.args.lengths.now in
    let w = c.requires.writes.0 in record {
      well_shaped = (c.requires.well_shaped.0, c.requires.well_shaped.2);
      fact = (
        cut_fits t l w (c.count_at-columns.result - c.count_at-n.result) (ap₂ ◌-◌ c.count_at-columns.ensures.0 c.count_at-n.ensures.0)
            (length-replicate {A = ℕ} 16384 0) (length-replicate {A = ℕ} 16384 0) (length-replicate 8192 zero64) (length-replicate 8192 zero64) (length-replicate {A = ℕ} 16384 0),
        c.count_at-rows.ensures.0 ∙ rows_is t l w,
      );
    }

pub overflow_add-a_starts_out : goal.overflow_add-a_starts_out
overflow_add-a_starts_out c =
    omega (arith, room_columns (word_tables c.args.words.now) c.args.lengths.now c.requires.writes.0, c.count_at-columns.ensures.0)

pub slice_bounds-a_starts_out-end : goal.slice_bounds-a_starts_out-end
slice_bounds-a_starts_out-end c =
    omega (arith, room_columns (word_tables c.args.words.now) c.args.lengths.now c.requires.writes.0, c.count_at-columns.ensures.0, c.cut_constraints.auto.a_starts_out)

pub slice_bounds-write_compact-end : goal.slice_bounds-write_compact-end
slice_bounds-write_compact-end c =
    sym (length-take-le (c.count_at-columns.result + 1) c.cut_constraints.new.a_starts_out (omega (arith, room_columns (word_tables c.args.words.now) c.args.lengths.now c.requires.writes.0, c.count_at-columns.ensures.0, c.cut_constraints.auto.a_starts_out)))

pub slice_bounds-a_rows_out-end : goal.slice_bounds-a_rows_out-end
slice_bounds-a_rows_out-end c =
    omega (arith, room-entries (word_tables c.args.words.now) c.args.lengths.now c.requires.writes.0, c.count_at-entries.ensures.0, c.cut_constraints.auto.a_rows_out)

pub slice_bounds-write_compact-end-2 : goal.slice_bounds-write_compact-end-2
slice_bounds-write_compact-end-2 c =
    sym (length-take-le c.count_at-entries.result c.cut_constraints.new.a_rows_out (omega (arith, room-entries (word_tables c.args.words.now) c.args.lengths.now c.requires.writes.0, c.count_at-entries.ensures.0, c.cut_constraints.auto.a_rows_out)))

pub slice_bounds-a_values_out-end : goal.slice_bounds-a_values_out-end
slice_bounds-a_values_out-end c =
    omega (arith, room-entries (word_tables c.args.words.now) c.args.lengths.now c.requires.writes.0, c.count_at-entries.ensures.0, c.cut_constraints.auto.a_values_out)

pub slice_bounds-write_compact-end-3 : goal.slice_bounds-write_compact-end-3
slice_bounds-write_compact-end-3 c =
    sym (length-take-le c.count_at-entries.result c.cut_constraints.new.a_values_out (omega (arith, room-entries (word_tables c.args.words.now) c.args.lengths.now c.requires.writes.0, c.count_at-entries.ensures.0, c.cut_constraints.auto.a_values_out)))

pub slice_bounds-b_out-end : goal.slice_bounds-b_out-end
slice_bounds-b_out-end c =
    omega (arith, room-rows (word_tables c.args.words.now) c.args.lengths.now c.requires.writes.0, c.count_at-rows.ensures.0, c.cut_constraints.auto.b_out)

pub slice_bounds-write_compact-end-4 : goal.slice_bounds-write_compact-end-4
slice_bounds-write_compact-end-4 c =
    sym (length-take-le c.count_at-rows.result c.cut_constraints.new.b_out (omega (arith, room-rows (word_tables c.args.words.now) c.args.lengths.now c.requires.writes.0, c.count_at-rows.ensures.0, c.cut_constraints.auto.b_out)))

pub slice_bounds-cones_out-end : goal.slice_bounds-cones_out-end
slice_bounds-cones_out-end c =
    omega (arith, room-cones (word_tables c.args.words.now) c.args.lengths.now c.requires.writes.0, c.count_at-records.ensures.0, c.cut_constraints.auto.cones_out)

pub slice_bounds-write_compact-end-5 : goal.slice_bounds-write_compact-end-5
slice_bounds-write_compact-end-5 c =
    sym (length-take-le c.count_at-records.result c.cut_constraints.new.cones_out (omega (arith, room-cones (word_tables c.args.words.now) c.args.lengths.now c.requires.writes.0, c.count_at-records.ensures.0, c.cut_constraints.auto.cones_out)))

pub write_compact-requires : goal.write_compact-requires
write_compact-requires c =
    let t = word_tables c.args.words.now in
    let l = c.args.lengths.now in
    let w = c.requires.writes.0 in record { well_shaped = (c.requires.well_shaped.0, c.requires.well_shaped.1); extends = (cut_extends t l w c.cut_constraints.ensures c.count_at-columns.ensures.0 c.count_at-entries.ensures.0 c.count_at-rows.ensures.0 c.count_at-records.ensures.0, c.requires.writes.1) }

pub returns : goal.returns
returns c =
    let t = word_tables c.args.words.now in
    let l = c.args.lengths.now in
    let w = c.requires.writes.0 in
    c.write_compact.ensures
    ∙ ap (λ (u : BitTables). written (file_of u) c.args.out.now) (cut-tables t l w c.cut_constraints.ensures c.count_at-columns.ensures.0 c.count_at-entries.ensures.0 c.count_at-rows.ensures.0 c.count_at-records.ensures.0)
