use native.Mathlib.Omega.{arith}
use Rattle.csc.proofs.Runs.{column_counted}
use Rattle.csc.proofs.count_all_runs.Goals as goal

pub overflow_add-count : goal.overflow_add-count
overflow_add-count c =
    let (e, few) = column_counted c.args.starts.now c.args.rows.now c.requires.0 c.loop-c.c c.loop-c.count _ c.loop-c-test.true c.loop-c.invariant c.count_runs-count.ensures in
    omega arith

pub loop-c-preserved : goal.loop-c-preserved
loop-c-preserved c =
    (column_counted c.args.starts.now c.args.rows.now c.requires.0 c.loop-c.c c.loop-c.count _ c.loop-c-test.true c.loop-c.invariant c.count_runs-count.ensures).0
