use Prim.Native.Nat.{◌+◌, ◌-◌, ◌*◌, ◌≤◌}
use mathlib.Core.Path.{◌≡◌}
use mathlib.Core.Bool.{true}
use mathlib.Core.List.{map}
use Rattle.layout.specs.General.Lists.{all, sum}
use Rattle.supernode_tree.specs.Reads.{Whole, cliques_from}
use Rattle.supernode_tree.specs.Sizes.{block_at_most, dim_of, overlaps_of}
use Rattle.supernode_tree.proofs.dim_and_overlaps.Given as goal

abbrev pub invariant-loop : goal.invariant-loop
invariant-loop l =
    Whole l.words l.at (l.count - l.counter) × (all (block_at_most 256) (cliques_from l.words l.at (l.count - l.counter)) ≡ true)
    × (l.dim + sum (map dim_of (cliques_from l.words l.at (l.count - l.counter))) ≡ sum (map dim_of (cliques_from l.words l.first l.count)))
    × (l.overlaps + sum (map overlaps_of (cliques_from l.words l.at (l.count - l.counter))) ≡ sum (map overlaps_of (cliques_from l.words l.first l.count)))
    × (l.dim ≤ l.counter * 4294967296) × (l.overlaps ≤ l.counter * 4294967296)
