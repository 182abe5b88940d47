use mathlib.Core.Path.{◌≡◌}
use lib.ListN.{length}
use Rattle.layout.proofs.Columns.Repeats.{runs-few}
use Rattle.csc.proofs.Runs.{runs_same, runs_apart, runs_last}
use native.Mathlib.Omega.{arith}
use Rattle.csc.proofs.count_runs.Goals as goal
use Rattle.csc.proofs.count_runs.Goals.{then-rows-i, else-rows-i}

pub returns-then-rows-eq0 : goal.returns-then-rows-eq0
returns-then-rows-eq0 c =
    let rows = c.args.rows.now in
    let none : length rows ≡ 0 = c.if-rows-eq0.true in
    omega (arith, runs-few rows)

pub loop-i-preserved : goal.loop-i-preserved
loop-i-preserved c =
    let rows = c.args.rows.now in
    let i = c.loop-i.i in
    elim c.if-rows-i.branch [
      | then-rows-i w ↦ (omega arith, omega (arith, runs_apart rows i c.loop-i.auto.i c.loop-i-test.true w.if-rows-i.true))
      | else-rows-i w ↦ (omega arith, omega (arith, runs_same rows i c.loop-i.auto.i c.loop-i-test.true w.if-rows-i.false))
    ]

pub returns : goal.returns
returns c = omega (arith, runs_last c.args.rows.now c.loop-i.i c.loop-i.auto.i (omega arith))
