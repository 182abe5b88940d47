use mathlib.Core.Path.{sym, ◌∙◌}
use borrow.Author.Tests.{lt-ltb, le-ltb}
use lib.Dec.{ltb}
use Rattle.csc.proofs.Fronts.{rises_chained, chain_step, chain_fails, chain_done}
use Rattle.csc.proofs.rise_strictly.Goals as goal

pub returns-then-rows-i : goal.returns-then-rows-i
returns-then-rows-i c =
    let rows = c.args.rows.now in
    sym (rises_chained rows ∙ c.loop-i.invariant ∙ chain_fails ltb rows c.loop-i.i c.loop-i.auto.i c.loop-i-test.true (le-ltb _ _ c.if-rows-i.true))

pub loop-i-preserved : goal.loop-i-preserved
loop-i-preserved c =
    c.loop-i.invariant ∙ chain_step ltb c.args.rows.now c.loop-i.i c.loop-i.auto.i c.loop-i-test.true (lt-ltb _ _ c.if-rows-i.false)

pub returns : goal.returns
returns c =
    let rows = c.args.rows.now in
    sym (rises_chained rows ∙ c.loop-i.invariant ∙ chain_done ltb rows c.loop-i.i c.loop-i-test.false)
