use Rattle.check_members.proofs.Walks.{distinct-step, distinct-not, tail_has}
use Prim.Native.Nat.{◌+◌}
use lib.ListN.{get_or}
use mathlib.Core.Path.{sym, ◌∙◌}
use Rattle.check_members.proofs.is_distinct.Goals as goal

pub returns-then-contains : goal.returns-then-contains
returns-then-contains c =
    let a = c.args.a.now in
    let i = c.loop-i.i in
    sym (c.loop-i.invariant ∙ distinct-not a i c.loop-i-test.true (sym (tail_has a (i + 1) (get_or a i 0)) ∙ sym c.contains.ensures.value ∙ c.if-contains.true))

pub loop-i-preserved : goal.loop-i-preserved
loop-i-preserved c =
    let a = c.args.a.now in
    let i = c.loop-i.i in
    c.loop-i.invariant ∙ distinct-step a i c.loop-i-test.true (sym (tail_has a (i + 1) (get_or a i 0)) ∙ sym c.contains.ensures.value ∙ c.if-contains.false)
