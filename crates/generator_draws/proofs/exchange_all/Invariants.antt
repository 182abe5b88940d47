use Prim.Native.Nat.{◌-◌}
use mathlib.Core.Path.{◌≡◌}
use Rattle.layout.specs.Calls.Generate.{draws, exchanges}
use Rattle.generator_draws.proofs.exchange_all.Given as goal

abbrev pub invariant-loop-done : goal.invariant-loop-done
invariant-loop-done l =
    (draws (l.count - l.done) l.s ≡ draws (l.count - 1) l.seed) × (exchanges (l.count - l.done) l.s l.out ≡ exchanges (l.count - 1) l.seed l.initial.out)
