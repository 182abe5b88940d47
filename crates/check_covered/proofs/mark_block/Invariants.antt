use mathlib.Core.Bool.{true}
use mathlib.Core.Path.{◌≡◌}
use Rattle.layout.specs.Rows.Blocks.{pair_row}
use Rattle.rows_blocks.proofs.Columns.{columns_below}
use Rattle.rows_blocks.specs.Vertices.{marked}
use Rattle.check_covered.proofs.mark_block.Given as goal

abbrev pub invariant-loop-j : goal.invariant-loop-j
invariant-loop-j l = l.covered ≡ marked true (columns_below (pair_row l.base) l.vertices l.j) l.initial.covered
