use mathlib.Core.Path.{◌≡◌}
use lib.ListN.{drop}
use Prim.Native.Nat.{◌-◌}
use Rattle.layout.specs.Problems.Patterns.{read_cliques}
use Rattle.supernode_tree.specs.Reads.{Whole, rest}
use Rattle.supernode_tree.proofs.cliques_next.Given as goal

abbrev pub invariant-loop : goal.invariant-loop
invariant-loop l =
    Whole l.words l.at (l.count - l.counter) × (rest (read_cliques l.count (drop l.first l.words)) ≡ rest (read_cliques (l.count - l.counter) (drop l.at l.words)))
