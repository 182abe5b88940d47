use mathlib.Core.Path.{◌≡◌}
use lib.ListN.{take}
use Rattle.layout.specs.General.Lists.{written}
use Rattle.layout.specs.General.Floats.{floats}
use Rattle.file_bytes.proofs.write_floats.Given as goal

abbrev pub invariant-loop-i : goal.invariant-loop-i
invariant-loop-i l = l.out ≡ written (take l.i (floats l.patterns)) l.initial.out
