use Prim.Native.Nat.{◌≤◌}
use mathlib.Core.Path.{◌≡◌}
use lib.ListN.{length, take}
use Rattle.layout.specs.General.Lists.{written}
use Rattle.csc.proofs.copy_front.Given as goal

abbrev pub invariant-loop-i : goal.invariant-loop-i
invariant-loop-i g l = (l.i ≤ length l.src) × (length l.out ≡ length l.initial.out) × (l.out ≡ written (take l.i l.src) l.initial.out)
