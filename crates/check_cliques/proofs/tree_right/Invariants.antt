use Prim.Native.Nat.{◌-◌}
use mathlib.Core.Path.{◌≡◌}
use lib.ListN.{drop}
use Rattle.layout.specs.Problems.Patterns.{read_cliques}
use Rattle.supernode_tree.specs.Reads.{Whole}
use Rattle.check_cliques.proofs.Trees.{tree_read}
use Rattle.check_cliques.proofs.tree_right.Given as goal

abbrev pub invariant-loop-c : goal.invariant-loop-c
invariant-loop-c l =
    Whole l.words l.next (l.count - l.c)
    × (tree_read l.count 0 (read_cliques l.count (drop l.initial.next l.words)) ≡ tree_read l.count l.c (read_cliques (l.count - l.c) (drop l.next l.words)))
