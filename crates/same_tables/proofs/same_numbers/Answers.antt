use Prim.Native.Nat.{◌+◌}
use mathlib.Core.Path.{sym, ap, ◌∙◌}
use mathlib.Core.Bool.{Bool, ◌&&◌, and-true, and-false}
use lib.ListN.{drop}
use Rattle.layout.specs.General.Lists.{same_numbers}
use Rattle.layout.proofs.Lists.Walks.{same_lengths, same_step, same_miss, same_done}
use native.Mathlib.Omega.{arith}
use lib.Dec.{eqb}
use borrow.Author.Tests.{eq-eqb, ne_eqb}
use Rattle.same_tables.proofs.same_numbers.Goals as goal
use Rattle.same_tables.proofs.same_numbers.Goals.{then-x-ys, else-x-ys}

pub returns-then-xs-ys : goal.returns-then-xs-ys
returns-then-xs-ys c = sym (same_lengths eqb c.args.xs.now c.args.ys.now c.if-xs-ys.true)

pub loop-i-preserved : goal.loop-i-preserved
loop-i-preserved c =
    let xs = c.args.xs.now in
    let ys = c.args.ys.now in
    let i = c.loop-i.i in
    let left : Bool → Bool = λ b. c.loop-i.same && b in
    let next : Bool → Bool = λ b. b && same_numbers (drop (i + 1) xs) (drop (i + 1) ys) in
    elim c.if-x-ys.branch [
      | then-x-ys w ↦ (c.loop-i.invariant ∙ ap left (same_miss eqb xs ys 0 i (omega arith) (omega arith) (ne_eqb _ _ w.if-x-ys.true)) ∙ and-false c.loop-i.same ∙ ap next (sym w.same-is))
      | else-x-ys w ↦ (c.loop-i.invariant ∙ ap left (same_step eqb xs ys 0 i (omega arith) (omega arith) (eq-eqb _ _ w.if-x-ys.false)) ∙ ap next (sym w.same-is))
    ]

pub returns : goal.returns
returns c =
    let left : Bool → Bool = λ b. c.loop-i.same && b in
    sym (c.loop-i.invariant ∙ ap left (same_done eqb c.args.xs.now c.args.ys.now c.loop-i.i (omega arith) (omega arith)) ∙ and-true c.loop-i.same)
