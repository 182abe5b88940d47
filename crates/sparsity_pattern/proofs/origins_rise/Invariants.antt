use Prim.Native.Nat.{◌-◌}
use mathlib.Core.Path.{◌≡◌}
use Rattle.layout.specs.Problems.Patterns.{patterns}
use Rattle.sparsity_pattern.specs.Sparsity.{origins_rise_from}
use Rattle.supernode_tree.proofs.Patterns.{patterns_from, WholePatterns}
use Rattle.sparsity_pattern.proofs.origins_rise.Given as goal

abbrev pub invariant-loop-i : goal.invariant-loop-i
invariant-loop-i l =
    WholePatterns l.words l.at (l.count - l.i)
    × (origins_rise_from l.fn.first (patterns l.count l.words) ≡ origins_rise_from l.least (patterns_from l.words l.at (l.count - l.i)))
