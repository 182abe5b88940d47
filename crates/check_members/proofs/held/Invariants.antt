use Rattle.layout.specs.General.Lists.{has, all}
use lib.ListN.{length, drop}
use Prim.Native.Nat.{◌≤◌, ◌+◌, ◌-◌}
use mathlib.Core.Path.{◌≡◌}
use mathlib.Core.Bool.{true, cond}
use Rattle.check_members.proofs.held.Given as goal

abbrev pub invariant-loop-j : goal.invariant-loop-j
invariant-loop-j l = (l.j ≤ length l.ms) × (l.around ≡ true → has l.x l.ms ≡ has l.x (drop l.j l.ms)) × (l.ok ≡ true)

abbrev pub decreases-loop-j : goal.decreases-loop-j
decreases-loop-j l = cond l.around 0 (length l.ms + 1) + (length l.ms - l.j)

abbrev pub invariant-walk : goal.invariant-walk
invariant-walk l = (l.j ≤ length l.ms) × (all (λ u. has u l.ms) l.us ≡ all (λ u. has u l.ms) (drop l.x-index l.us)) × (l.ok ≡ true)
