use mathlib.Core.Path.{◌≡◌}
use Rattle.layout.specs.General.Lists.{up_from, written}
use Rattle.generator_band.proofs.write_members.Given as goal

abbrev pub invariant-loop-i : goal.invariant-loop-i
invariant-loop-i l = l.out ≡ written (up_from l.first l.i) l.initial.out
