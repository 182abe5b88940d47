use Rattle.layout.specs.General.Lists.{keep, distinct}
use lib.ListN.{length}
use lib.Dec.{T, ltb}
use Prim.Native.Nat.{◌-◌, ◌≤◌}
use Rattle.utils.proofs.permutation_by.Given as goal

abbrev pub invariant-loop-n : goal.invariant-loop-n
invariant-loop-n l = (l.low ≤ length l.words) × T (distinct (keep (λ x. ltb x l.low) l.words))

abbrev pub decreases-loop-n : goal.decreases-loop-n
decreases-loop-n l = length l.words - l.low
