use Rattle.std.proofs.Common.{◌≡◌, ◌∙◌, ℕ, List, ap, subst, arith}
use Rattle.layout.specs.General.Lists.{written}
use Rattle.layout.specs.Cuts.Compact.{csc}
use Rattle.layout.specs.Cuts.Runs.{sums}
use Rattle.csc.specs.Matrix.{matrix}
use Rattle.augment_compact.specs.Cut.{coded_columns}
use Rattle.augment_compact.specs.Groups.{RowsGrow, ValuesGrow}
use Rattle.augment_compact.proofs.write_columns.Goals as goal

pub write_group-c-requires : goal.write_group-c-requires
write_group-c-requires c = record {
  fact = c.requires.fact;
  placing = (rw c.loop-c.invariant.1 c.requires.placing.0, rw (c.loop-c.invariant.1, c.loop-c.invariant.2) c.requires.placing.1, omega arith);
  fact_2 = (omega arith, omega arith);
}

pub loop-c-preserved : goal.loop-c-preserved
loop-c-preserved c =
    let a = c.args in
    let M = matrix a.starts.now a.rows.now a.values.now in
    let d = c.write_group-c.result in
    let done = c.write_group-c.ensures in (
      done.lower_bound.1,
      done.codes_unchanged ∙ c.loop-c.invariant.1,
      done.chunks_unchanged ∙ c.loop-c.invariant.2,
      subst (λ (codes : List ℕ). RowsGrow a.n M codes c.loop-c.c d c.loop-c.rows_out c.write_group-c.new.rows_out) c.loop-c.invariant.1 done.fact_3 a.rows_out.now c.loop-c.invariant.3,
      subst (λ (codes : List ℕ). ValuesGrow a.n M codes c.loop-c.c d c.loop-c.values_out c.write_group-c.new.values_out) c.loop-c.invariant.1 done.fact_4 a.values_out.now c.loop-c.invariant.4,
    )

pub returns : goal.returns
returns c =
    let a = c.args in
    let A = sums a.n (matrix a.starts.now a.rows.now a.values.now) in
    let e : c.loop-c.c ≡ a.n = omega arith in record {
      rows_out_after = c.loop-c.invariant.3 ∙ ap (λ (k : ℕ). written (csc (coded_columns k A a.codes.now)).rows a.rows_out.now) e;
      values_out_after = c.loop-c.invariant.4 ∙ ap (λ (k : ℕ). written (csc (coded_columns k A a.codes.now)).values a.values_out.now) e;
      codes_unchanged = c.loop-c.invariant.1;
      chunks_unchanged = c.loop-c.invariant.2;
    }
