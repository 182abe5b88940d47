use Prim.Native.Nat.{◌+◌}
use mathlib.Core.Path.{sym, ap, ◌∙◌}
use mathlib.Core.Bool.{Bool, ◌&&◌, and-true, and-false}
use lib.ListN.{drop}
use lib.Ieee.{nan, le}
use Rattle.layout.specs.General.Lists.{same_by}
use Rattle.layout.proofs.Lists.Walks.{same_lengths, same_step, same_miss, same_done}
use native.Mathlib.Omega.{arith}
use Rattle.side_numbers.proofs.at_most.Goals as goal
use Rattle.side_numbers.proofs.at_most.Goals.{then-not-low-i, else-not-low-i}

pub returns-then-low-high : goal.returns-then-low-high
returns-then-low-high c = let a = c.args in sym (same_lengths le a.low.now a.high.now c.if-low-high.true)

pub loop-i-preserved : goal.loop-i-preserved
loop-i-preserved c =
    let a = c.args in
    let low = a.low.now in
    let high = a.high.now in
    let i = c.loop-i.i in
    let left : Bool → Bool = λ b. c.loop-i.holds && b in
    let next : Bool → Bool = λ b. b && same_by le (drop (i + 1) low) (drop (i + 1) high) in
    elim c.if-not-low-i.branch [
      | then-not-low-i w ↦ c.loop-i.invariant ∙ ap left (same_miss le low high nan i (omega arith) (omega arith) w.if-not-low-i.true) ∙ and-false c.loop-i.holds ∙ ap next (sym w.holds-is)
      | else-not-low-i w ↦ c.loop-i.invariant ∙ ap left (same_step le low high nan i (omega arith) (omega arith) w.if-not-low-i.false) ∙ ap next (sym w.holds-is)
    ]

pub returns : goal.returns
returns c =
    let a = c.args in
    let left : Bool → Bool = λ b. c.loop-i.holds && b in
    sym (c.loop-i.invariant ∙ ap left (same_done le a.low.now a.high.now c.loop-i.i (omega arith) (omega arith)) ∙ and-true c.loop-i.holds)
