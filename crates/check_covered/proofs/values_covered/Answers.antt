use Prim.Native.Nat.{◌+◌}
use mathlib.Core.Path.{sym, ap, ◌∙◌}
use mathlib.Core.Bool.{Bool, ◌&&◌, and-true, and-false}
use lib.ListN.{length, drop}
use Rattle.layout.specs.General.Lists.{all, below}
use Rattle.csc.proofs.Fronts.{below_step, below_fails, below-done}
use Rattle.check_covered.proofs.values_covered.Invariants.{fine}
use Rattle.check_covered.proofs.values_covered.Goals as goal
use Rattle.check_covered.proofs.values_covered.Goals.{then-not-may_have, else-not-may_have}

pub loop-i-preserved : goal.loop-i-preserved
loop-i-preserved c =
    let a = c.args in
    let b = a.b.now in
    let i = c.loop-i.i in
    let right = fine a.covered.now b in
    let left : Bool → Bool = λ h. c.loop-i.holds && h in
    let next : Bool → Bool = λ h. h && all right (drop (i + 1) (below (length b))) in
    elim c.if-not-may_have.branch [
      | then-not-may_have w ↦ c.loop-i.invariant ∙ ap left (below_fails right (length b) i c.loop-i-test.true (sym c.may_have.ensures ∙ w.if-not-may_have.true)) ∙ and-false c.loop-i.holds ∙ ap next (sym w.holds-is)
      | else-not-may_have w ↦ c.loop-i.invariant ∙ ap left (below_step right (length b) i c.loop-i-test.true (sym c.may_have.ensures ∙ w.if-not-may_have.false)) ∙ ap next (sym w.holds-is)
    ]

pub returns : goal.returns
returns c =
    let a = c.args in
    let left : Bool → Bool = λ h. c.loop-i.holds && h in
    sym (c.loop-i.invariant ∙ ap left (below-done (fine a.covered.now a.b.now) (length a.b.now) c.loop-i.i c.loop-i-test.false) ∙ and-true c.loop-i.holds)
