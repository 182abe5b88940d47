use mathlib.Core.Path.{sym, ◌∙◌}
use lib.ListN.{length}
use Rattle.layout.specs.Cuts.Runs.{starts_of_runs, run_count}
use Rattle.layout.proofs.Lists.Buffers.{written_after, length_tail}
use Rattle.csc.specs.Matrix.{table}
use Rattle.csc.proofs.Runs.{count-few, length-run-starts}
use Rattle.augment_standard.specs.Beside.{h_starts}
use Rattle.augment_standard.proofs.Columns.{length-h_starts}
use native.Mathlib.Omega.{arith}
use Rattle.augment_compact.proofs.write_starts.Goals as goal

pub write_h_starts-requires : goal.write_h_starts-requires
write_h_starts-requires c =
    let out = c.write_run_starts-entries.new.out in
    let few = (count-few c.args.starts.now c.args.rows.now c.requires.columns_inside.0 c.args.n (omega arith)).1 in (
      omega (arith, length_tail out (length c.args.starts.now), c.write_run_starts-entries.auto.out, c.requires.columns_inside.1, c.requires.k_in_bounds.0),
      omega (arith, c.write_run_starts-entries.ensures.value, few, c.requires.columns_inside.2, c.requires.k_in_bounds.1),
    )

pub returns : goal.returns
returns c =
    let a = c.args in
    let M = table a.starts.now a.rows.now in
    let count = run_count a.n M in
    let size = length-run-starts a.n M in
    written_after (starts_of_runs a.n M) (h_starts count a.k) a.out.now (length a.starts.now) (c.requires.columns_inside.1 ∙ sym size)
    (omega (arith, size, length-h_starts count a.k, c.requires.k_in_bounds.0)) c.write_run_starts-entries.ensures.out_after
    (rw c.write_run_starts-entries.ensures.value at c.write_h_starts.ensures)
