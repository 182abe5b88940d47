use Rattle.std.proofs.Common.{◌≡◌, ◌+◌, ◌-◌, true, length, map}
use Rattle.layout.specs.General.Lists.{all, sum}
use Rattle.supernode_tree.specs.Reads.{Whole, cliques_from}
use Rattle.supernode_tree.specs.Sizes.{block_at_most, dim_of}
use Rattle.change_order.proofs.Blocks.{Moved}
use Rattle.change_order.proofs.move_blocks.Given as goal

abbrev pub invariant-loop : goal.invariant-loop
invariant-loop l =
    Whole l.words l.at (l.count - l.counter) × (all (block_at_most 256) (cliques_from l.words l.at (l.count - l.counter)) ≡ true)
    × (sum (map dim_of (cliques_from l.words l.at (l.count - l.counter))) ≡ l.to) × (l.from + l.to ≡ length l.s)
    × Moved (map dim_of (cliques_from l.words l.at (l.count - l.counter))) (map dim_of (cliques_from l.words l.first l.count)) l.s l.s_out l.from l.to
    × Moved (map dim_of (cliques_from l.words l.at (l.count - l.counter))) (map dim_of (cliques_from l.words l.first l.count)) l.z l.z_out l.from l.to
