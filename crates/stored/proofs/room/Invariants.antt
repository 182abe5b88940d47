use Rattle.std.proofs.Common.{◌≡◌, map}
use Rattle.layout.specs.General.Lists.{below, written}
use Rattle.stored.proofs.room.Given as goal

abbrev pub invariant-loop-i : goal.invariant-loop-i
invariant-loop-i g l = l.out ≡ written (map g.T.Element.before (below l.i)) l.initial.out
