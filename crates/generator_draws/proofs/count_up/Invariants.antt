use mathlib.Core.Path.{◌≡◌}
use Rattle.layout.specs.General.Lists.{below, written}
use Rattle.generator_draws.proofs.count_up.Given as goal

abbrev pub invariant-loop-i : goal.invariant-loop-i
invariant-loop-i l = l.out ≡ written (below l.i) l.initial.out
