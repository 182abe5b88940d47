use mathlib.Core.Bool.{true}
use mathlib.Core.Path.{◌≡◌}
use mathlib.Core.List.{map}
use lib.ListN.{drop}
use Rattle.layout.specs.Rows.Blocks.{pair_row}
use Rattle.rows_blocks.specs.Columns.{column_pairs}
use Rattle.rows_blocks.specs.Vertices.{marked}
use Rattle.check_covered.proofs.mark_column.Given as goal

abbrev pub invariant-loop-i : goal.invariant-loop-i
invariant-loop-i l =
    let os = map (pair_row l.base) (column_pairs l.vertices l.j) in
    marked true (drop l.i os) l.covered ≡ marked true os l.initial.covered
