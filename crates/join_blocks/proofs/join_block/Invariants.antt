use Rattle.std.proofs.Common.{ℕ, List, ◌+◌, ◌≡◌, drop, length}
use Rattle.layout.specs.General.Triangle.{triangle}
use Rattle.layout.specs.Rows.Blocks.{pair_row}
use Rattle.layout.specs.Joinings.Reverse.{add_columns}
use Rattle.rows_blocks.proofs.Columns.{columns_below}
use Rattle.join_blocks.specs.Joins.{join_z, Counts}
use Rattle.join_blocks.proofs.join_block.Given as goal

abbrev pub invariant-loop-j : goal.invariant-loop-j
invariant-loop-j l =
    let B : List ℕ = columns_below (pair_row 0) l.vertices l.j in
    (l.t ≡ l.first + triangle l.j) × (l.t ≡ l.first + length B)
    × (l.s_out ≡ add_columns B (drop l.first l.s) l.initial.s_out) × (l.z_out ≡ join_z l.standard B (drop l.first l.z) l.initial.z_out)
    × Counts l.standard B l.initial.counts l.counts
