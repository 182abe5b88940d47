use mathlib.Core.Path.{◌≡◌}
use lib.ListN.{take}
use Rattle.layout.specs.General.Lists.{written}
use Rattle.layout.specs.General.Floats.{bits}
use Rattle.file_bytes.proofs.write_bits.Given as goal

abbrev pub invariant-loop-i : goal.invariant-loop-i
invariant-loop-i l = l.out ≡ written (take l.i (bits l.values)) l.initial.out
