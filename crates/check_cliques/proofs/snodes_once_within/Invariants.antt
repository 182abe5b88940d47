use Prim.Native.Nat.{ℕ, ◌-◌}
use mathlib.Core.Path.{◌≡◌}
use mathlib.Core.List.{List, ◌++◌}
use lib.ListN.{length}
use lib.Dec.{T}
use Rattle.layout.specs.General.Lists.{distinct, keep}
use Rattle.utils.specs.Windows.{within, Marked}
use Rattle.supernode_tree.specs.Reads.{Whole, cliques_from}
use Rattle.check_cliques.specs.Trees.{snodes_of}
use Rattle.check_cliques.proofs.snodes_once_within.Given as goal

abbrev pub invariant-loop : goal.invariant-loop
invariant-loop l =
    Whole l.words l.at (l.fn.p.clique_count - l.counter)
    × ((met : List ℕ) × (met ++ snodes_of (cliques_from l.words l.at (l.fn.p.clique_count - l.counter)) ≡ snodes_of (cliques_from l.words l.fn.p.cliques l.fn.p.clique_count))
    × Marked l.low l.marks met × T (distinct (keep (within l.low (length l.marks)) met)))
