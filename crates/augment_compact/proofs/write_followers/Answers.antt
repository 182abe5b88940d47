use Rattle.std.proofs.Common.{◌≡◌, ◌<◌, ◌+◌, ◌∙◌, List, ℕ, T, get_or, sym, subst, true, arith}
use Rattle.layout.specs.General.Lists.{part, same_numbers}
use Rattle.layout.proofs.Lists.Walks.{numbers_equal}
use Rattle.csc.specs.Matrix.{matrix}
use Rattle.cut_columns.proofs.Parts.{length_part}
use Rattle.augment_compact.specs.Groups.{unmarked, RowsGrow, ValuesGrow}
use Rattle.augment_compact.proofs.Followers.{within, run_rise, room, sorted, marks_inside, rows_step, values_step}
use Rattle.augment_compact.proofs.write_followers.Goals as goal

same : (xs ys : List ℕ) → same_numbers xs ys ≡ true → xs ≡ ys
same xs ys e = numbers_equal xs ys (subst T (sym e) tt)

pub overflow_sub-count : goal.overflow_sub-count
overflow_sub-count c =
    let a = c.args in
    let M = matrix a.starts.now a.rows.now a.values.now in
    (run_rise a.n M a.place.now a.c a.codes.now a.run_starts.now c.requires.fact c.requires.fact_2).0

pub loop-d-init : goal.loop-d-init
loop-d-init c = (c.requires.rows_out_value, λ old w. w, λ old w. w)

pub same_rows-requires : goal.same_rows-requires
same_rows-requires c =
    let a = c.args in
    let M = matrix a.starts.now a.rows.now a.values.now in
    let at-c = within a.n M a.place.now a.c a.codes.now a.run_starts.now c.requires.fact c.requires.fact_2 a.c c.requires.fact_2.0 in
    let at-d = within a.n M a.place.now a.c a.codes.now a.run_starts.now c.requires.fact c.requires.fact_2 c.loop-d.d (omega arith) in record {
      c_in_bounds = (at-c.0, at-c.1, at-c.2);
      d_in_bounds = (at-d.0, at-d.1, at-d.2);
    }

pub slice_bounds-repeat_column-count : goal.slice_bounds-repeat_column-count
slice_bounds-repeat_column-count c =
    let a = c.args in
    let M = matrix a.starts.now a.rows.now a.values.now in
    (within a.n M a.place.now a.c a.codes.now a.run_starts.now c.requires.fact c.requires.fact_2 c.loop-d.d (omega arith)).1

pub slice_bounds-repeat_column-start : goal.slice_bounds-repeat_column-start
slice_bounds-repeat_column-start c =
    let a = c.args in
    let M = matrix a.starts.now a.rows.now a.values.now in
    (within a.n M a.place.now a.c a.codes.now a.run_starts.now c.requires.fact c.requires.fact_2 c.loop-d.d (omega arith)).1

pub slice_bounds-repeat_column-end : goal.slice_bounds-repeat_column-end
slice_bounds-repeat_column-end c =
    let a = c.args in
    let M = matrix a.starts.now a.rows.now a.values.now in
    (within a.n M a.place.now a.c a.codes.now a.run_starts.now c.requires.fact c.requires.fact_2 c.loop-d.d (omega arith)).2

pub slice_bounds-repeat_column-count-in-loop-d : goal.slice_bounds-repeat_column-count-in-loop-d
slice_bounds-repeat_column-count-in-loop-d c =
    let a = c.args in
    let M = matrix a.starts.now a.rows.now a.values.now in
    (within a.n M a.place.now a.c a.codes.now a.run_starts.now c.requires.fact c.requires.fact_2 c.loop-d.d (omega arith)).1

pub slice_bounds-repeat_column-start-in-loop-d : goal.slice_bounds-repeat_column-start-in-loop-d
slice_bounds-repeat_column-start-in-loop-d c =
    let a = c.args in
    let M = matrix a.starts.now a.rows.now a.values.now in
    (within a.n M a.place.now a.c a.codes.now a.run_starts.now c.requires.fact c.requires.fact_2 c.loop-d.d (omega arith)).1

pub slice_bounds-repeat_column-end-in-loop-d : goal.slice_bounds-repeat_column-end-in-loop-d
slice_bounds-repeat_column-end-in-loop-d c =
    let a = c.args in
    let M = matrix a.starts.now a.rows.now a.values.now in
    (within a.n M a.place.now a.c a.codes.now a.run_starts.now c.requires.fact c.requires.fact_2 c.loop-d.d (omega arith)).3

pub repeat_column-requires : goal.repeat_column-requires
repeat_column-requires c =
    let a = c.args in
    let M = matrix a.starts.now a.rows.now a.values.now in
    let d = c.loop-d.d in
    let first = get_or a.starts.now d 0 in
    let end = get_or a.starts.now (d + 1) 0 in
    let dn : d < a.n = omega arith in
    let cd : a.c < d = omega arith in
    let w = within a.n M a.place.now a.c a.codes.now a.run_starts.now c.requires.fact c.requires.fact_2 d dn in
    let e = same (part (get_or a.starts.now a.c 0) (get_or a.starts.now (a.c + 1) 0) a.rows.now) (part first end a.rows.now) (sym c.same_rows.ensures ∙ c.if-not-same_rows.false) in
    let rise = run_rise a.n M a.place.now a.c a.codes.now a.run_starts.now c.requires.fact c.requires.fact_2 in
    let here = room a.n M a.place.now a.c a.codes.now a.run_starts.now c.requires.fact c.requires.fact_2 d cd dn e in record {
      marks_inside = (
        marks_inside a.n M a.place.now a.c a.codes.now a.run_starts.now c.requires.fact c.requires.fact_2 d cd dn e c.loop-d.rows_out c.loop-d.invariant.0,
        length_part first end a.values.now w.1 w.3 ∙ sym (length_part first end a.rows.now w.1 w.2),
      );
      t = (sorted a.n M a.place.now a.c a.codes.now a.run_starts.now c.requires.fact c.requires.fact_2 d cd dn e, here.0);
      count_bound = (omega arith, omega arith, omega arith);
    }

pub loop-d-preserved : goal.loop-d-preserved
loop-d-preserved c =
    let a = c.args in
    let M = matrix a.starts.now a.rows.now a.values.now in
    let d = c.loop-d.d in
    let e = same (part (get_or a.starts.now a.c 0) (get_or a.starts.now (a.c + 1) 0) a.rows.now) (part (get_or a.starts.now d 0) (get_or a.starts.now (d + 1) 0) a.rows.now) (sym c.same_rows.ensures ∙ c.if-not-same_rows.false) in
    let dn : d < a.n = omega arith in
    let cd : a.c < d = omega arith in
    let (marked, rows) = rows_step a.n M a.place.now a.c a.codes.now a.run_starts.now c.requires.fact c.requires.fact_2 d cd dn e c.loop-d.rows_out c.loop-d.invariant.0
    a.rows_out.now c.repeat_column.new.rows_out (omega arith) c.loop-d.invariant.1 c.repeat_column.ensures.rows_out_after in
    let values = values_step a.n M a.place.now a.c a.codes.now a.run_starts.now c.requires.fact c.requires.fact_2 d cd dn e c.loop-d.rows_out c.loop-d.invariant.0
    a.values_out.now c.loop-d.values_out c.repeat_column.new.values_out c.loop-d.invariant.2 c.repeat_column.ensures.values_out_after in
    (marked, rows, values)

pub returns : goal.returns
returns c =
    let a = c.args in
    let M = matrix a.starts.now a.rows.now a.values.now in
    let plain = unmarked M a.place.now a.c a.codes.now in
    let e : c.loop-d.d ≡ a.n = omega arith in record {
      lower_bound = (omega arith, omega arith);
      fact_4 = subst (λ (k : ℕ). RowsGrow a.n M plain (a.c + 1) k a.rows_out.now c.loop-d.rows_out) e c.loop-d.invariant.1;
      fact_5 = subst (λ (k : ℕ). ValuesGrow a.n M plain (a.c + 1) k a.values_out.now c.loop-d.values_out) e c.loop-d.invariant.2;
    }

pub returns-then-not-same_rows : goal.returns-then-not-same_rows
returns-then-not-same_rows c = record { lower_bound = (omega arith, omega arith); fact_4 = c.loop-d.invariant.1; fact_5 = c.loop-d.invariant.2 }
