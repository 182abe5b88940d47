use Prim.Native.Nat.{ℕ, ◌+◌}
use mathlib.Core.Path.{◌≡◌}
use mathlib.Core.List.{List, ◌++◌}
use lib.ListN.{length, take, drop}
use lib.Ieee.{Float}
use Rattle.layout.specs.Rows.Blocks.{Part, block_row_count}
use Rattle.layout.specs.Rows.Orders.{compact_order}
use Rattle.layout.specs.Calls.Join.{joined_parts}
use Rattle.walk_cones.specs.Ahead.{ahead, Reached}
use Rattle.change_order.proofs.move_parts.Given as goal

-- t values of vs are moved, the parts in left remain, and the output is unchanged from index t on
abbrev pub Moved : List Part → List Part → List Float → List Float → List Float → ℕ → Type 0
Moved ps left vs out₀ out t =
    (length out ≡ length out₀) × (take t out ++ compact_order left (drop t vs) ≡ compact_order ps vs) × (drop t out ≡ drop t out₀)

abbrev pub invariant-loop-rows : goal.invariant-loop-rows
invariant-loop-rows l =
    let ps = joined_parts l.cones l.count l.words in
    let left = ahead l.cones l.words l.place in
    (l.t + block_row_count left ≡ block_row_count ps) × Moved ps left l.s l.initial.s_out l.s_out l.t × Moved ps left l.z l.initial.z_out l.z_out l.t
    × Reached l.m l.cones l.words l.place

abbrev pub decreases-loop-rows : goal.decreases-loop-rows
decreases-loop-rows l = length (ahead l.cones l.words l.place)
