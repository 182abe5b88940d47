use Prim.Native.Nat.{◌-◌}
use mathlib.Core.Path.{◌≡◌}
use Rattle.layout.specs.General.Lists.{all}
use Rattle.layout.specs.Problems.Patterns.{Clique}
use Rattle.supernode_tree.specs.Reads.{Whole, cliques_from}
use Rattle.check_cliques.specs.Trees.{separator_below}
use Rattle.check_cliques.proofs.separators_by.Given as goal

abbrev pub invariant-loop : goal.invariant-loop
invariant-loop l =
    Whole l.words l.at (l.p.clique_count - l.counter)
    × (all (λ (c : Clique). separator_below l.p.vertex_count (cliques_from l.words l.p.cliques l.p.clique_count) c.parent c.separator) (cliques_from l.words l.p.cliques l.p.clique_count)
    ≡ all (λ (c : Clique). separator_below l.p.vertex_count (cliques_from l.words l.p.cliques l.p.clique_count) c.parent c.separator) (cliques_from l.words l.at (l.p.clique_count - l.counter)))
