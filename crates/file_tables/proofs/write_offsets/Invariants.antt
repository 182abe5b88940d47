use Prim.Native.Nat.{◌+◌, ◌*◌, ◌≤◌}
use mathlib.Core.Path.{◌≡◌}
use lib.ListN.{take, drop}
use Rattle.layout.specs.General.Lists.{written}
use Rattle.layout.specs.Files.File.{widths, products, offsets_from, end_from}
use Rattle.file_tables.proofs.write_offsets.Given as goal

abbrev pub invariant-loop-i : goal.invariant-loop-i
invariant-loop-i l =
    (l.end ≤ 80 + 34359738375 * l.i) × (end_from l.end (drop l.i (products widths l.lengths)) ≡ end_from 80 (products widths l.lengths))
    × (drop l.i (offsets_from 80 (products widths l.lengths)) ≡ offsets_from l.end (drop l.i (products widths l.lengths)))
    × (l.out ≡ written (take l.i (offsets_from 80 (products widths l.lengths))) l.initial.out)
