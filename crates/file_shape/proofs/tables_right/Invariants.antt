use Prim.Native.Nat.{◌+◌, ◌*◌, ◌/◌, ◌≤◌}
use mathlib.Core.Path.{◌≡◌}
use lib.ListN.{drop}
use Rattle.layout.specs.Files.File.{counts_in, table_sizes}
use Rattle.layout.specs.Files.FileWords.{word_tables_right}
use Rattle.layout.proofs.Files.FileWalks.{stands_from}
use Rattle.file_shape.proofs.tables_right.Given as goal

abbrev pub invariant-loop-i : goal.invariant-loop-i
invariant-loop-i l =
    (l.a ≡ 4 * (l.a / 4)) × (l.a ≤ 80 + 68719476743 * l.i)
    × (word_tables_right l.words ≡ stands_from l.a (drop l.i (table_sizes (counts_in l.words))) (8 + l.i) l.words)
