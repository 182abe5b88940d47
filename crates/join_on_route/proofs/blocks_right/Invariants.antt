use Rattle.std.proofs.Common.{◌≡◌, ◌+◌, ◌-◌, ◌&&◌, true, drop, map, eqb}
use Rattle.layout.specs.General.Lists.{all, sum}
use Rattle.supernode_tree.specs.Reads.{Whole, cliques_from}
use Rattle.supernode_tree.specs.Sizes.{block_at_most, dim_of}
use Rattle.rows_tables.proofs.Cones.{down_words}
use Rattle.join_on_route.specs.Begins.{begins}
use Rattle.join_on_route.proofs.blocks_right.Given as goal

abbrev pub invariant-loop-clique : goal.invariant-loop-clique
invariant-loop-clique l =
    Whole l.words l.at (l.count - l.clique) × (all (block_at_most 256) (cliques_from l.words l.at (l.count - l.clique)) ≡ true)
    × ((begins (drop l.t l.entries) (down_words l.cone l.pattern l.clique l.start (cliques_from l.words l.at (l.count - l.clique)))
    && eqb l.row (l.start + sum (map dim_of (cliques_from l.words l.at (l.count - l.clique)))))
    ≡ (begins (drop l.t l.entries) (down_words l.cone l.pattern 0 l.start (cliques_from l.words l.first l.count))
    && eqb l.end (l.start + sum (map dim_of (cliques_from l.words l.first l.count)))))
