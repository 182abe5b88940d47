use mathlib.Core.Path.{◌≡◌}
use lib.ListN.{length, take, drop}
use Rattle.utils.specs.Passed.{PassedTo}
use Rattle.utils.specs.Scattered.{scattered, Placed}
use Rattle.utils.proofs.invperm.Given as goal

abbrev pub invariant-loop-k : goal.invariant-loop-k
invariant-loop-k l =
    (length l.table ≡ length l.initial.table) × Placed 4294967295 l.table (take l.k l.words) × PassedTo l.words l.k
    × (scattered l.k (drop l.k l.words) l.table ≡ scattered 0 l.words l.initial.table)
