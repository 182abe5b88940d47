use Prim.Native.Nat.{◌-◌}
use mathlib.Core.Path.{◌≡◌}
use Rattle.layout.specs.General.Lists.{all}
use Rattle.layout.specs.Problems.Patterns.{patterns}
use Rattle.sparsity_pattern.specs.Sparsity.{pattern_right}
use Rattle.supernode_tree.proofs.Patterns.{patterns_from, WholePatterns}
use Rattle.sparsity_pattern.proofs.patterns_right.Given as goal

abbrev pub invariant-loop-i : goal.invariant-loop-i
invariant-loop-i l =
    WholePatterns l.words l.at (l.count - l.i)
    × (all (pattern_right l.cones) (patterns l.count l.words) ≡ all (pattern_right l.cones) (patterns_from l.words l.at (l.count - l.i)))
