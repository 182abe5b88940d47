use mathlib.Core.Path.{◌≡◌}
use lib.ListN.{take, drop}
use Rattle.layout.specs.General.Lists.{written}
use Rattle.augment_standard.specs.Beside.{h_rows}
use Rattle.augment_standard.proofs.spread_rows.Given as goal

abbrev pub invariant-loop-i : goal.invariant-loop-i
invariant-loop-i l = l.out ≡ written (h_rows l.m (take l.i (take l.k (drop l.k l.initial.out)))) l.initial.out
