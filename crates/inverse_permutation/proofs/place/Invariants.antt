use mathlib.Core.Path.{◌≡◌}
use lib.ListN.{length, drop}
use lib.Dec.{ltb}
use Rattle.layout.specs.General.Lists.{all}
use Rattle.utils.specs.Scattered.{scattered}
use Rattle.inverse_permutation.proofs.place.Given as goal

-- the first k numbers are below the length and have been written
abbrev pub invariant-loop-k : goal.invariant-loop-k
invariant-loop-k l =
    (length l.table ≡ length l.initial.table) × (all (λ x. ltb x (length l.p)) l.p ≡ all (λ x. ltb x (length l.p)) (drop l.k l.p))
    × (scattered l.k (drop l.k l.p) l.table ≡ scattered 0 l.p l.initial.table)
