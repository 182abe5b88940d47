use Rattle.std.proofs.Common.{◌-◌, true}
use Rattle.supernode_tree.specs.Reads.{Whole, cliques_from}
use Rattle.join_blocks.specs.Joins.{rows_up, AllSortable}
use Rattle.join_blocks.proofs.Laws.{Left}
use Rattle.join_blocks.proofs.join_cliques_up.Given as goal

abbrev pub invariant-loop : goal.invariant-loop
invariant-loop l =
    Whole l.words l.at (l.count - l.counter) × AllSortable l.ordering (cliques_from l.words l.at (l.count - l.counter))
    × Left true l.s l.z l.first (rows_up l.ordering (cliques_from l.words l.cliques l.count)) l.initial.s_out l.initial.z_out l.initial.counts
    l.t (rows_up l.ordering (cliques_from l.words l.at (l.count - l.counter))) l.s_out l.z_out l.counts
