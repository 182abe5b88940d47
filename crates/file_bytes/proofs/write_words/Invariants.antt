use Rattle.layout.specs.General.Lists.{written}
use Rattle.layout.specs.General.Bytes.{table_bytes}
use lib.ListN.{take}
use mathlib.Core.Path.{◌≡◌}
use Rattle.file_bytes.proofs.write_words.Given as goal

abbrev pub invariant-loop-i : goal.invariant-loop-i
invariant-loop-i l = l.out ≡ written (table_bytes 4 (take l.i l.words)) l.initial.out
