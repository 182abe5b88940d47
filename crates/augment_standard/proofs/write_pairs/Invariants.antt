use mathlib.Core.Path.{◌≡◌}
use Rattle.layout.specs.General.Lists.{written}
use Rattle.augment_standard.specs.Beside.{pair_values}
use Rattle.augment_standard.proofs.write_pairs.Given as goal

abbrev pub invariant-loop-i : goal.invariant-loop-i
invariant-loop-i l = l.out ≡ written (pair_values l.first l.second l.i) l.initial.out
