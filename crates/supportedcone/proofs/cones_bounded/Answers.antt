use mathlib.Core.Path.{sym, ap, ◌∙◌}
use Rattle.layout.specs.Checks.{no_cone, sizes_bounded}
use Rattle.layout.specs.Problems.Cones.{records}
use Rattle.layout.proofs.Lists.Walks.{all-step, all_fails}
use Rattle.supportedcone.proofs.Records.{record_in}
use native.Mathlib.Omega.{arith}
use Rattle.supportedcone.proofs.cones_bounded.Goals as goal

pub returns-then-not-sizes_bounded : goal.returns-then-not-sizes_bounded
returns-then-not-sizes_bounded c =
    let ws = c.args.cones.now in
    sym (c.loop-i.invariant ∙ all_fails sizes_bounded (records ws) c.loop-i.i no_cone (omega arith) (ap sizes_bounded (record_in ws c.loop-i.i (omega arith)) ∙ sym c.if-not-sizes_bounded.ensures))

pub loop-i-preserved : goal.loop-i-preserved
loop-i-preserved c =
    let ws = c.args.cones.now in
    c.loop-i.invariant ∙ all-step sizes_bounded (records ws) c.loop-i.i no_cone (omega arith) (ap sizes_bounded (record_in ws c.loop-i.i (omega arith)) ∙ sym c.if-not-sizes_bounded.ensures)
