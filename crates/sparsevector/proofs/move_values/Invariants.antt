use mathlib.Core.Path.{◌≡◌}
use mathlib.Core.List.{map}
use lib.ListN.{length, take}
use Rattle.layout.specs.General.Lists.{written}
use Rattle.sparsevector.specs.Values.{code_value}
use Rattle.sparsevector.proofs.move_values.Given as goal

abbrev pub invariant-loop-r : goal.invariant-loop-r
invariant-loop-r l = (length l.out ≡ length l.initial.out) × (l.out ≡ written (take l.r (map (code_value l.b) l.codes)) l.initial.out)
