use Rattle.layout.proofs.Files.FileWalks.{halves}
use Rattle.layout.specs.General.Lists.{written}
use Rattle.layout.specs.General.Bytes.{table_bytes}
use lib.ListN.{take}
use mathlib.Core.Path.{◌≡◌}
use Prim.Native.Nat.{◌*◌}
use Rattle.file_bytes.proofs.write_doubles.Given as goal

abbrev pub invariant-loop-i : goal.invariant-loop-i
invariant-loop-i l = l.out ≡ written (table_bytes 4 (take (2 * l.i) (halves l.values))) l.initial.out
