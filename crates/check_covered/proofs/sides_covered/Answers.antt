use Prim.Native.Nat.{◌+◌, ◌*◌}
use mathlib.Core.Path.{sym, ◌∙◌}
use Rattle.layout.specs.General.Lists.{part}
use Rattle.check_covered.specs.Covered.{values_marked}
use Rattle.check_covered.proofs.Sides.{next-passes, next_fails}
use Rattle.check_covered.proofs.sides_covered.Goals as goal

pub returns-then-not-values_covered : goal.returns-then-not-values_covered
returns-then-not-values_covered c =
    let a = c.args in
    sym (c.loop-k.invariant ∙ next_fails (λ j. values_marked a.covered.now (part (j * a.m) (j * a.m + a.m) a.sides.now)) c.loop-k.k a.last c.loop-k-test.true
    (sym c.values_covered.ensures ∙ c.if-not-values_covered.true))

pub loop-k-preserved : goal.loop-k-preserved
loop-k-preserved c =
    let a = c.args in
    c.loop-k.invariant ∙ next-passes (λ j. values_marked a.covered.now (part (j * a.m) (j * a.m + a.m) a.sides.now)) c.loop-k.k a.last c.loop-k-test.true
    (sym c.values_covered.ensures ∙ c.if-not-values_covered.false)
