use Prim.Native.Nat.{◌-◌, ◌+◌}
use mathlib.Core.Path.{sym, ap, ◌∙◌}
use mathlib.Core.Bool.{Bool, ◌&&◌, and-true, and-false}
use borrow.Author.Tests.{le-leb, lt-leb}
use lib.ListN.{drop}
use lib.Dec.{leb}
use Rattle.csc.proofs.Fronts.{chained, falls_chained, chain_step, chain_fails, chain_done}
use Rattle.csc.proofs.never_falls.Goals as goal
use Rattle.csc.proofs.never_falls.Goals.{then-xs-i, else-xs-i}

pub loop-i-preserved : goal.loop-i-preserved
loop-i-preserved c =
    let xs = c.args.xs.now in
    let i = c.loop-i.i in
    let left : Bool → Bool = λ b. c.loop-i.holds && b in
    let next : Bool → Bool = λ b. b && chained leb (drop (i + 1 - 1) xs) in
    elim c.if-xs-i.branch [
      | then-xs-i w ↦ c.loop-i.invariant ∙ ap left (chain_fails leb xs i c.loop-i.auto.i c.loop-i-test.true (lt-leb _ _ w.if-xs-i.true)) ∙ and-false c.loop-i.holds ∙ ap next (sym w.holds-is)
      | else-xs-i w ↦ c.loop-i.invariant ∙ ap left (chain_step leb xs i c.loop-i.auto.i c.loop-i-test.true (le-leb _ _ w.if-xs-i.false)) ∙ ap next (sym w.holds-is)
    ]

pub returns : goal.returns
returns c =
    let xs = c.args.xs.now in
    let left : Bool → Bool = λ b. c.loop-i.holds && b in
    sym (falls_chained xs ∙ c.loop-i.invariant ∙ ap left (chain_done leb xs c.loop-i.i c.loop-i-test.false) ∙ and-true c.loop-i.holds)
