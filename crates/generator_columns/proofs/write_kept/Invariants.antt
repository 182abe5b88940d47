use mathlib.Core.Path.{◌≡◌}
use mathlib.Core.List.{map}
use lib.ListN.{take}
use Rattle.layout.specs.General.Lists.{written}
use Rattle.layout.specs.Calls.Generate.{drawn_value}
use Rattle.generator_columns.proofs.write_kept.Given as goal

abbrev pub invariant-loop-i : goal.invariant-loop-i
invariant-loop-i l = l.values_out ≡ written (take l.i (map drawn_value l.kept)) l.initial.values_out
