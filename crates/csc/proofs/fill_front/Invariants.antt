use Prim.Native.Nat.{◌≤◌}
use mathlib.Core.Path.{◌≡◌}
use lib.ListN.{length, replicate}
use Rattle.layout.specs.General.Lists.{written}
use Rattle.csc.proofs.fill_front.Given as goal

abbrev pub invariant-loop-i : goal.invariant-loop-i
invariant-loop-i g l = (l.i ≤ l.k) × (length l.out ≡ length l.initial.out) × (l.out ≡ written (replicate l.i l.v) l.initial.out)
