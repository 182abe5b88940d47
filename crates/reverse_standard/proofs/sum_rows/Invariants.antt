use Rattle.std.proofs.Common.{◌≡◌, map, take}
use lib.Ieee.{add, binary64}
use Rattle.layout.specs.General.Lists.{written}
use Rattle.layout.specs.General.Floats.{zero64}
use Rattle.reverse_standard.proofs.sum_rows.Given as goal

abbrev pub invariant-loop-i : goal.invariant-loop-i
invariant-loop-i l = l.out ≡ written (take l.i (map (add binary64 zero64) l.values)) l.initial.out
