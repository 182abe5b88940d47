use mathlib.Core.Path.{◌≡◌}
use Rattle.layout.specs.General.Lists.{written}
use Rattle.sparsevector.specs.Sides.{moved_sides}
use Rattle.sparsevector.proofs.move_sides.Given as goal

abbrev pub invariant-loop-k : goal.invariant-loop-k
invariant-loop-k l = l.out ≡ written (moved_sides l.m l.codes l.sides l.k) l.initial.out
