use Prim.Native.Nat.{◌-◌}
use mathlib.Core.Path.{◌≡◌, sym, ap, ◌∙◌}
use Rattle.layout.specs.Cuts.Runs.{run_first}
use Rattle.csc.proofs.Runs.{first_step, first_done}
use native.Mathlib.Omega.{arith}
use Rattle.csc.proofs.first_place.Goals as goal

pub loop-first-preserved : goal.loop-first-preserved
loop-first-preserved c =
    let rows = c.args.rows.now in
    (omega arith, c.loop-first.invariant.1 ∙ first_step rows c.loop-first.first (c.loop-first.first - 1) (omega arith) c.if-rows-first.true)

pub returns-after-loop-first : goal.returns-after-loop-first
returns-after-loop-first c =
    let rows = c.args.rows.now in
    let none : c.loop-first.first ≡ 0 = omega (arith, c.loop-first-test.false) in
    sym (c.loop-first.invariant.1 ∙ ap (run_first rows) none ∙ sym none)

pub returns-else-rows-first : goal.returns-else-rows-first
returns-else-rows-first c =
    let rows = c.args.rows.now in
    sym (c.loop-first.invariant.1 ∙ first_done rows c.loop-first.first (c.loop-first.first - 1) (omega arith) c.if-rows-first.false)
