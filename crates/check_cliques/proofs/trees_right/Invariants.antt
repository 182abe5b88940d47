use Prim.Native.Nat.{◌-◌}
use mathlib.Core.Path.{◌≡◌}
use Rattle.layout.specs.General.Lists.{all}
use Rattle.layout.specs.Problems.Patterns.{patterns}
use Rattle.layout.specs.Checks.{tree_right}
use Rattle.supernode_tree.proofs.Patterns.{patterns_from, WholePatterns}
use Rattle.check_cliques.proofs.trees_right.Given as goal

abbrev pub invariant-loop-i : goal.invariant-loop-i
invariant-loop-i l =
    WholePatterns l.words l.at (l.count - l.i) × (all tree_right (patterns l.count l.words) ≡ all tree_right (patterns_from l.words l.at (l.count - l.i)))
