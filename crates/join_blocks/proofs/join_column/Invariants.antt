use Rattle.std.proofs.Common.{ℕ, List, ◌≡◌, take, drop}
use Rattle.layout.specs.Joinings.Reverse.{add_columns}
use Rattle.join_blocks.specs.Joins.{join_z, Counts, block_column_rows}
use Rattle.join_blocks.proofs.join_column.Given as goal

abbrev pub invariant-loop-i : goal.invariant-loop-i
invariant-loop-i l =
    let L : List ℕ = take l.i (block_column_rows l.vertices l.j) in
    (l.s_out ≡ add_columns L (drop l.t l.s) l.initial.s_out) × (l.z_out ≡ join_z l.standard L (drop l.t l.z) l.initial.z_out)
    × Counts l.standard L l.initial.counts l.counts
