use Prim.Native.Nat.{ℕ, ◌+◌}
use native.Mathlib.Omega.{arith}
use mathlib.Core.Path.{◌≡◌, sym, ap, ◌∙◌}
use mathlib.Core.List.{List, ◌++◌, map}
use lib.ListN.{length, set, length-append, length-map, length-set}
use lib.Ieee.{Float}
use Rattle.layout.specs.General.Lists.{sum, written}
use Rattle.layout.specs.Cuts.Compact.{Entry, rows_of, csc}
use Rattle.layout.specs.Calls.Generate.{drawn_column, drawn_columns, after_column, after_columns}
use Rattle.layout.proofs.Lists.Buffers.{set-written, written_after, length_tail}
use Rattle.layout.proofs.Columns.Columns.{entry_count, even}
use Rattle.layout.proofs.Columns.Compressed.{values_of}
use Rattle.layout.proofs.Generators.Drawn.{column-length, afters_more}
use Rattle.layout.proofs.Lists.Starts.{length-written}
use Rattle.generator.proofs.Columns.{entries_more, starts_more, rows_more, values_more, column_fits, starts-many, starts_cover}
use Rattle.generator.proofs.write_columns.Goals as goal

pub write_column-d-requires : goal.write_column-d-requires
write_column-d-requires c =
    let a = c.args in
    let l = c.loop-c in
    let here = ap (λ (u : ℕ). length (drawn_column u a.rows.now)) l.invariant.4 in
    let fits = column_fits a.s a.rows.now a.n l.c (omega arith) in (
      omega (arith, fits, here, l.invariant.3, c.requires.n_in_bounds.0, l.auto.rows_out, length_tail l.rows_out l.at),
      omega (arith, fits, here, l.invariant.3, c.requires.n_in_bounds.1, l.auto.values_out, length_tail l.values_out l.at),
    )

pub overflow_cast-starts_out : goal.overflow_cast-starts_out
overflow_cast-starts_out c =
    omega (arith, c.write_column-d.ensures.count_value.0, column-length c.loop-c.state c.args.rows.now, c.loop-c.invariant.0, c.requires.rows_len_bound)

pub loop-c-preserved : goal.loop-c-preserved
loop-c-preserved c =
    let a = c.args in
    let l = c.loop-c in
    let k = l.c in
    let rs = a.rows.now in
    let cs = drawn_columns a.s rs k in
    let new = drawn_column l.state rs in
    let after : new ≡ drawn_column (after_columns a.s rs k) rs = ap (λ (u : ℕ). drawn_column u rs) l.invariant.4 in
    let here = ap length after in
    let w = c.write_column-d.ensures in
    let d = w.count_value.0 in
    let fits = column_fits a.s rs a.n k (omega arith) in
    let more : l.at + c.write_column-d.result.count ≡ sum (map length (drawn_columns a.s rs (k + 1))) =
    omega (arith, entries_more a.s rs k, d, here, l.invariant.3) in
    let long = length-map new (λ (e : Entry). e.row) in
    let long-2 = length-map new (λ (e : Entry). e.value) in
    let count = entry_count cs in
    let same = even cs in
    let rows = written_after (csc cs).rows (rows_of new) a.rows_out.now l.at (l.invariant.3 ∙ sym (same ∙ count))
    (omega (arith, fits, here, same, count, long, c.requires.n_in_bounds.0)) l.invariant.6 w.rows_out_after in
    let values = written_after (csc cs).values (values_of new) a.values_out.now l.at (l.invariant.3 ∙ sym count)
    (omega (arith, fits, here, count, long-2, c.requires.n_in_bounds.1)) l.invariant.7 w.values_out_after in (
      omega (arith, d, column-length l.state rs, l.invariant.0, c.requires.rows_len_bound.0),
      omega (
        arith,
        fits,
        here,
        d,
        l.invariant.3,
        c.requires.n_in_bounds.0,
        ap length rows ∙ length-written ((csc cs).rows ++ rows_of new) a.rows_out.now
            (omega (arith, fits, here, length-append (csc cs).rows (rows_of new), same, count, long, c.requires.n_in_bounds.0)),
      ),
      omega (
        arith,
        fits,
        here,
        d,
        l.invariant.3,
        c.requires.n_in_bounds.1,
        ap length values ∙ length-written ((csc cs).values ++ values_of new) a.values_out.now
            (omega (arith, fits, here, length-append (csc cs).values (values_of new), count, long-2, c.requires.n_in_bounds.1)),
      ),
      more,
      w.count_value.1 ∙ ap (λ (u : ℕ). after_column u rs) l.invariant.4 ∙ sym (afters_more a.s rs k),
      rw (l.invariant.5, starts_more a.s rs k, more)
          (set-written (csc cs).starts (set a.starts_out.now 0 0) _ (k + 1) (sym (starts-many a.s rs k))
          (omega (arith, length-set a.starts_out.now 0 0, c.requires.rows_len_bound.2))),
      rows ∙ ap (λ (xs : List ℕ). written xs a.rows_out.now) (ap (λ (es : List Entry). (csc cs).rows ++ rows_of es) after ∙ sym (rows_more a.s rs k)),
      values ∙ ap (λ (xs : List Float). written xs a.values_out.now) (ap (λ (es : List Entry). (csc cs).values ++ values_of es) after ∙ sym (values_more a.s rs k)),
    )

pub returns-clause-starts_out_after : goal.returns-clause-starts_out_after
returns-clause-starts_out_after c =
    let a = c.args in
    let e : c.loop-c.c ≡ a.n = omega arith in
    (rw e at c.loop-c.invariant.5) ∙ starts_cover a.s a.rows.now a.n a.starts_out.now
