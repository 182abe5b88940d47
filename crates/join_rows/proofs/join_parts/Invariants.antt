use Prim.Native.Nat.{◌+◌, ◌*◌, ◌≤◌}
use mathlib.Core.Path.{◌≡◌}
use mathlib.Core.List.{map}
use lib.ListN.{length, drop}
use Rattle.layout.specs.General.Lists.{sum}
use Rattle.layout.specs.Rows.Blocks.{block_row_count, cone_rows}
use Rattle.layout.specs.Calls.Join.{joined_parts}
use Rattle.walk_cones.specs.Ahead.{ahead, Reached}
use Rattle.reverse_standard.specs.Routes.{Starts}
use Rattle.join_cones.specs.Parts.{s_part, z_part, values_from, Cleared}
use Rattle.join_rows.specs.Joined.{first_of, block_sizes}
use Rattle.join_rows.proofs.Walk.{Joins}
use Rattle.join_rows.proofs.join_parts.Given as goal

abbrev pub invariant-loop-rows : goal.invariant-loop-rows
invariant-loop-rows l =
    let ps = joined_parts l.cones l.count l.words in
    let left = ahead l.cones l.words l.place in
    Joins (s_part l.standard) l.m (values_from (s_part l.standard) ps (drop (first_of l.standard l.m) l.s)) l.s l.initial.s_out left l.row l.t l.s_out
    × Joins (z_part l.standard) l.m (values_from (z_part l.standard) ps (drop (first_of l.standard l.m) l.z)) l.z l.initial.z_out left l.row l.t l.z_out
    × ((length l.counts ≡ length l.initial.counts) × Cleared l.standard l.counts) × (l.row + sum (map cone_rows left) ≡ l.m) × (l.t + block_row_count left ≡ length l.s) × (block_row_count left ≤ 262144)
    × Reached l.m l.cones l.words l.place × (length l.offsets ≡ 256) × (length l.vertices ≡ 256)
    × Starts l.standard l.map l.entry l.t (block_sizes left) × (l.entry ≤ l.place.cone * 256)

abbrev pub decreases-loop-rows : goal.decreases-loop-rows
decreases-loop-rows l = length (ahead l.cones l.words l.place)
