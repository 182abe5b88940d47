use mathlib.Core.Path.{◌≡◌}
use lib.ListN.{length, drop}
use Rattle.utils.specs.Scattered.{scattered}
use Rattle.utils.proofs.scatter.Given as goal

abbrev pub invariant-loop-k : goal.invariant-loop-k
invariant-loop-k l = (length l.out ≡ length l.initial.out) × (scattered l.k (drop l.k l.words) l.out ≡ scattered 0 l.words l.initial.out)
