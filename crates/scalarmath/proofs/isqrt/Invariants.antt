use mathlib.Core.Path.{◌≡◌}
use Prim.Native.Nat.{◌/◌, ◌≤◌, ◌<◌}
use Rattle.scalarmath.proofs.Roots.{Reaches}
use Rattle.scalarmath.proofs.isqrt.Given as goal

abbrev pub invariant-loop-q : goal.invariant-loop-q
invariant-loop-q l = (0 < l.r) × (l.r ≤ 65536) × Reaches l.v l.r × (l.q ≡ l.v / l.r)

abbrev pub decreases-loop-q : goal.decreases-loop-q
decreases-loop-q l = l.r
