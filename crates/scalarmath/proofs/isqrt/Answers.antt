use Prim.Native.Nat.{ℕ, ◌+◌, ◌/◌}
use native.Mathlib.Omega.{arith}
use mathlib.Core.Path.{refl}
use Rattle.scalarmath.proofs.Roots.{Reaches, first_guess, step_reaches, reaches_positive}
use Rattle.scalarmath.proofs.isqrt.Goals as goal

pub loop-q-init : goal.loop-q-init
loop-q-init c = let first = first_guess c.args.v c.ranges.v.fits in (first.0, first.1, first.2, refl)

pub loop-q-preserved : goal.loop-q-preserved
loop-q-preserved c =
    let v : ℕ = c.args.v in
    let next : ℕ = (c.loop-q.r + c.loop-q.q) / 2 in
    let reaches : Reaches v next = rw c.loop-q.invariant.3 (step_reaches v c.loop-q.r c.loop-q.invariant.0) in
    (reaches_positive v next (omega (arith, c.if-v-eq0.false)) reaches, omega arith, reaches, refl)
