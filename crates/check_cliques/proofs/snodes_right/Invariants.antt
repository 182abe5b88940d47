use Prim.Native.Nat.{◌-◌, ◌≤◌}
use lib.Dec.{T, ltb}
use Rattle.layout.specs.General.Lists.{distinct, keep}
use Rattle.supernode_tree.specs.Reads.{cliques_from}
use Rattle.check_cliques.specs.Trees.{snodes_of}
use Rattle.check_cliques.proofs.snodes_right.Given as goal

abbrev pub invariant-loop-p : goal.invariant-loop-p
invariant-loop-p l =
    (l.low ≤ l.p.vertex_count) × T (distinct (keep (λ x. ltb x l.low) (snodes_of (cliques_from l.words l.p.cliques l.p.clique_count))))

abbrev pub decreases-loop-p : goal.decreases-loop-p
decreases-loop-p l = l.p.vertex_count - l.low
