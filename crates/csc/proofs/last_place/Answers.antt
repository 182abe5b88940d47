use mathlib.Core.Path.{sym, ◌∙◌}
use Rattle.csc.proofs.Runs.{last_step, last_apart, last_end}
use native.Mathlib.Omega.{arith}
use Rattle.csc.proofs.last_place.Goals as goal

pub loop-last-preserved : goal.loop-last-preserved
loop-last-preserved c =
    let rows = c.args.rows.now in
    (omega arith, c.loop-last.invariant.1 ∙ last_step rows c.loop-last.last (omega arith) c.if-rows-last.true)

pub returns-after-loop-last : goal.returns-after-loop-last
returns-after-loop-last c =
    sym (c.loop-last.invariant.1 ∙ last_end c.args.rows.now c.loop-last.last c.loop-last-test.false)

pub returns-else-rows-last : goal.returns-else-rows-last
returns-else-rows-last c =
    sym (c.loop-last.invariant.1 ∙ last_apart c.args.rows.now c.loop-last.last (omega arith) c.if-rows-last.false)
