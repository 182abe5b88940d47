use mathlib.Core.Path.{◌≡◌}
use lib.ListN.{take}
use Rattle.layout.specs.General.Lists.{written}
use Rattle.pool_tables.specs.Stacked.{raised}
use Rattle.pool_tables.proofs.raise_numbers.Given as goal

abbrev pub invariant-loop-i : goal.invariant-loop-i
invariant-loop-i l = l.out ≡ written (take l.i (raised l.k l.src)) l.initial.out
