use Prim.Native.Nat.{◌+◌}
use native.Mathlib.Omega.{arith}
use mathlib.Core.Path.{◌≡◌, ◌∙◌}
use lib.ListN.{set, length-set}
use Rattle.layout.specs.Cuts.Runs.{starts_of_runs, run_count}
use Rattle.layout.proofs.Lists.Buffers.{set-written}
use Rattle.csc.specs.Matrix.{table}
use Rattle.csc.proofs.Runs.{column_counted, run-starts_more, length-run-starts, first_over}
use Rattle.csc.proofs.write_run_starts.Goals as goal

pub overflow_cast-count : goal.overflow_cast-count
overflow_cast-count c =
    let (e, few) = column_counted c.args.starts.now c.args.rows.now c.requires.0 c.loop-c.c c.loop-c.count _ c.loop-c-test.true c.loop-c.invariant.0 c.count_runs.ensures in
    omega arith

pub overflow_add-count : goal.overflow_add-count
overflow_add-count c =
    let (e, few) = column_counted c.args.starts.now c.args.rows.now c.requires.0 c.loop-c.c c.loop-c.count _ c.loop-c-test.true c.loop-c.invariant.0 c.count_runs.ensures in
    omega arith

pub loop-c-preserved : goal.loop-c-preserved
loop-c-preserved c =
    let a = c.args in
    let M = table a.starts.now a.rows.now in
    let k = c.loop-c.c in
    let old = set a.out.now 0 0 in
    let (e, few) = column_counted a.starts.now a.rows.now c.requires.0 k c.loop-c.count _ c.loop-c-test.true c.loop-c.invariant.0 c.count_runs.ensures in (
      e,
      rw (c.loop-c.invariant.1, e, run-starts_more M k)
          (set-written (starts_of_runs k M) old (run_count (k + 1) M) (k + 1) (omega (arith, length-run-starts k M)) (omega (arith, length-set a.out.now 0 0))),
    )

pub returns-clause-out_after : goal.returns-clause-out_after
returns-clause-out_after c =
    let a = c.args in
    let M = table a.starts.now a.rows.now in
    let e : c.loop-c.c ≡ a.n = omega arith in
    rw e at c.loop-c.invariant.1 ∙ first_over (starts_of_runs a.n M) a.out.now 0 (omega (arith, length-run-starts a.n M))
