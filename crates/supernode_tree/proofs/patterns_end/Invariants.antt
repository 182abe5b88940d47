use Rattle.supernode_tree.specs.Reads.{ended}
use Rattle.layout.specs.Problems.Patterns.{read_patterns}
use lib.ListN.{drop}
use Prim.Native.Nat.{◌-◌}
use mathlib.Core.Path.{◌≡◌}
use Rattle.supernode_tree.proofs.patterns_end.Given as goal

abbrev pub invariant-loop : goal.invariant-loop
invariant-loop l = ended (read_patterns (l.count - l.counter) (drop l.at l.words)) ≡ ended (read_patterns l.count l.words)
