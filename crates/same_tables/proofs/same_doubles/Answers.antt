use native.Mathlib.Omega.{arith}
use mathlib.Core.Path.{sym, ◌∙◌}
use lib.Ieee.{nan}
use Rattle.layout.specs.General.Floats.{same_bits}
use Rattle.layout.proofs.Lists.Walks.{same_lengths, same_step, same_miss, same_done}
use Rattle.same_tables.proofs.same_doubles.Goals as goal

pub returns-then-xs-ys : goal.returns-then-xs-ys
returns-then-xs-ys c = let a = c.args in sym (same_lengths same_bits a.xs.now a.ys.now c.if-xs-ys.true)

pub returns-then-not-same_double : goal.returns-then-not-same_double
returns-then-not-same_double c =
    let a = c.args in
    sym (c.loop-i.invariant ∙ same_miss same_bits a.xs.now a.ys.now nan c.loop-i.i (omega arith) (omega arith) (sym c.if-not-same_double.ensures))

pub loop-i-preserved : goal.loop-i-preserved
loop-i-preserved c =
    let a = c.args in
    c.loop-i.invariant ∙ same_step same_bits a.xs.now a.ys.now nan c.loop-i.i (omega arith) (omega arith) (sym c.if-not-same_double.ensures)

pub returns : goal.returns
returns c =
    let a = c.args in
    sym (c.loop-i.invariant ∙ same_done same_bits a.xs.now a.ys.now c.loop-i.i (omega arith) (omega arith))
