use Prim.Native.Nat.{◌≤◌, ◌-◌}
use lib.Dec.{T, ltb}
use Rattle.layout.specs.General.Lists.{keep}
use Rattle.check_members.specs.OnceIn.{once_in}
use Rattle.check_members.proofs.once_in_by.Given as goal

abbrev pub invariant-loop-n : goal.invariant-loop-n
invariant-loop-n l = (l.low ≤ l.n) × T (once_in l.ms (keep (λ x. ltb x l.low) l.us))

abbrev pub decreases-loop-n : goal.decreases-loop-n
decreases-loop-n l = l.n - l.low
