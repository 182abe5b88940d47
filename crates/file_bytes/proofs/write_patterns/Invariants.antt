use Rattle.layout.specs.Files.FileWords.{pairs_of}
use Rattle.layout.specs.General.Lists.{written}
use lib.ListN.{take}
use mathlib.Core.Path.{◌≡◌}
use Prim.Native.Nat.{◌*◌}
use Rattle.file_bytes.proofs.write_patterns.Given as goal

abbrev pub invariant-loop-i : goal.invariant-loop-i
invariant-loop-i l = l.out ≡ written (pairs_of (take (2 * l.i) l.words)) l.initial.out
