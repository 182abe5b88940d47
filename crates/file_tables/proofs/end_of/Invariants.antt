use Prim.Native.Nat.{◌+◌, ◌*◌, ◌≤◌}
use mathlib.Core.Path.{◌≡◌}
use lib.ListN.{drop}
use Rattle.layout.specs.Files.File.{widths, products, end_from}
use Rattle.file_tables.proofs.end_of.Given as goal

abbrev pub invariant-loop-i : goal.invariant-loop-i
invariant-loop-i l =
    (l.end ≤ 80 + 34359738375 * l.i) × (end_from l.end (drop l.i (products widths l.lengths)) ≡ end_from 80 (products widths l.lengths))
