use Prim.Native.Nat.{◌-◌}
use Rattle.pool_tables.proofs.Words.{Raising}
use Rattle.pool_tables.proofs.raise_words.Given as goal

abbrev pub invariant-loop : goal.invariant-loop
invariant-loop l = Raising l.k l.count l.words l.initial.out l.at (l.count - l.counter) l.out
