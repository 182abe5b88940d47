use Prim.Native.Nat.{◌-◌}
use Rattle.check_patterns.proofs.Separators.{Seen}
use Rattle.check_patterns.proofs.separators_hold.Given as goal

abbrev pub invariant-loop : goal.invariant-loop
invariant-loop l = Seen l.words l.p l.b (l.p.clique_count - l.counter)
