use Rattle.std.proofs.Common.{◌≡◌, map, take}
use Rattle.layout.specs.General.Lists.{written}
use Rattle.rows_blocks.specs.Columns.{column_pairs}
use Rattle.rows_parent.specs.Places.{tied_entry}
use Rattle.rows_parent.proofs.tied_entries.Given as goal

abbrev pub invariant-loop-i : goal.invariant-loop-i
invariant-loop-i l = l.out ≡ written (take l.i (map (tied_entry l.places l.row l.tied) (column_pairs l.vertices l.j))) l.initial.out
