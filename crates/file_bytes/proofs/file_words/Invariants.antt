use mathlib.Core.Path.{◌≡◌}
use lib.ListN.{take}
use Rattle.layout.specs.General.Lists.{written}
use Rattle.layout.specs.Files.FileWords.{file_words}
use Rattle.file_bytes.proofs.file_words.Given as goal

abbrev pub invariant-loop-i : goal.invariant-loop-i
invariant-loop-i l = l.out ≡ written (take l.i (file_words l.file)) l.initial.out
