use Prim.Native.Nat.{◌+◌}
use native.Mathlib.Omega.{arith}
use mathlib.Core.Path.{◌≡◌, sym, ◌∙◌}
use lib.ListN.{length}
use lib.Dec.{T, ltb}
use Rattle.layout.specs.General.Lists.{keep}
use Rattle.layout.proofs.Lists.Tests.{passes}
use Rattle.check_members.specs.OnceIn.{once_in}
use Rattle.check_members.proofs.Unmarked.{once-none, once_more, once-all, once_fails}
use Rattle.check_members.proofs.once_in_by.Goals as goal
use Rattle.check_members.proofs.once_in_by.Goals.{Else-not-unmark}

-- one more window has passed
more : (c : Else-not-unmark) → T (once_in c.args.ms.now (keep (λ x. ltb x (c.loop-n.low + length c.unmark.new.marks)) c.args.us.now))
more c =
    let e : length c.unmark.new.marks ≡ length c.mark_only.new.marks = c.unmark.auto.marks in
    rw e (once_more c.loop-n.low (length c.mark_only.new.marks) c.args.ms.now c.args.us.now c.loop-n.invariant.1
    (passes _ (sym (c.unmark.ensures c.args.ms.now c.mark_only.ensures) ∙ c.if-not-unmark.false)))

pub loop-n-init : goal.loop-n-init
loop-n-init c = (omega arith, once-none c.args.ms.now c.args.us.now)

pub returns-then-not-unmark : goal.returns-then-not-unmark
returns-then-not-unmark c =
    sym (once_fails _ c.args.ms.now c.args.us.now (sym (c.unmark.ensures c.args.ms.now c.mark_only.ensures) ∙ c.if-not-unmark.true))

pub returns-then-n-low : goal.returns-then-n-low
returns-then-n-low c =
    sym (once-all c.args.n (c.loop-n.low + length c.unmark.new.marks) c.args.ms.now c.args.us.now c.requires.us_value (omega arith) (more (goal.at.returns-then-n-low c).Else-not-unmark))

pub loop-n-preserved : goal.loop-n-preserved
loop-n-preserved c = (omega arith, more (goal.at.loop-n-preserved c).Else-not-unmark)
