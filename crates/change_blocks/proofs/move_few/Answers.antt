use Prim.Native.Nat.{ℕ, ◌+◌, ◌≤◌}
use native.Mathlib.Omega.{arith}
use mathlib.Core.Path.{refl}
use mathlib.Core.List.{List}
use lib.Ieee.{Float}
use Rattle.change_blocks.proofs.Laws.{Put, put-none, put_as, put-run}
use Rattle.change_blocks.proofs.move_few.Goals as goal
use Rattle.change_blocks.proofs.move_few.Goals.{Joined-k-i-ge2, then-k-i-ge2, else-k-i-ge2}

pub loop-i-init : goal.loop-i-init
loop-i-init c =
    let a = c.args in
    (omega arith, put-none a.from a.s.now a.to a.s_out.now, put-none a.from a.z.now a.to a.z_out.now)

pub loop-i-preserved : goal.loop-i-preserved
loop-i-preserved c =
    let a = c.args in (
      omega arith,
      put-run a.from a.s.now a.to a.s_out.now c.loop-i.i 4 c.loop-i.s_out c.move_run.new.out (omega arith) (omega arith)
          c.loop-i.invariant.1 c.move_run.auto.out c.move_run.ensures,
      put-run a.from a.z.now a.to a.z_out.now c.loop-i.i 4 c.loop-i.z_out c.move_run-in-loop-i.new.out (omega arith) (omega arith)
          c.loop-i.invariant.2 c.move_run-in-loop-i.auto.out c.move_run-in-loop-i.ensures,
    )

-- at most one value of each list remains
abbrev Nearly : ℕ → ℕ → List Float → List Float → ℕ → List Float → List Float → ℕ → List Float → List Float → Type 0
Nearly k from s z to s-out₀ z-out₀ i s-out z-out = (i ≤ k) × (k ≤ i + 1) × Put from s to s-out₀ i s-out × Put from z to z-out₀ i z-out

nearly : (c : Joined-k-i-ge2) → let a = c.args in
    Nearly a.k a.from a.s.now a.z.now a.to a.s_out.now a.z_out.now c.if-k-i-ge2.i c.if-k-i-ge2.s_out c.if-k-i-ge2.z_out
nearly c =
    let a = c.args in
    let i = c.loop-i.i in
    elim c.if-k-i-ge2.branch [
      | then-k-i-ge2 w ↦ (
        omega (arith, w.if-k-i-ge2.true, w.i-is),
        omega (arith, w.i-is, c.loop-i-test.false),
        put_as a.from a.s.now a.to a.s_out.now (i + 2) c.if-k-i-ge2.i w.move_run-then-k-i-ge2.new.out c.if-k-i-ge2.s_out w.i-is w.s_out-is
            (put-run a.from a.s.now a.to a.s_out.now i 2 c.loop-i.s_out w.move_run-then-k-i-ge2.new.out
            (omega (arith, w.if-k-i-ge2.true)) (omega (arith, w.if-k-i-ge2.true)) c.loop-i.invariant.1 w.move_run-then-k-i-ge2.auto.out w.move_run-then-k-i-ge2.ensures),
        put_as a.from a.z.now a.to a.z_out.now (i + 2) c.if-k-i-ge2.i w.move_run-then-k-i-ge2-2.new.out c.if-k-i-ge2.z_out w.i-is w.z_out-is
            (put-run a.from a.z.now a.to a.z_out.now i 2 c.loop-i.z_out w.move_run-then-k-i-ge2-2.new.out
            (omega (arith, w.if-k-i-ge2.true)) (omega (arith, w.if-k-i-ge2.true)) c.loop-i.invariant.2 w.move_run-then-k-i-ge2-2.auto.out w.move_run-then-k-i-ge2-2.ensures),
      )
      | else-k-i-ge2 w ↦ (
        omega (arith, w.i-is),
        omega (arith, w.if-k-i-ge2.false, w.i-is),
        put_as a.from a.s.now a.to a.s_out.now i c.if-k-i-ge2.i c.loop-i.s_out c.if-k-i-ge2.s_out w.i-is w.s_out-is c.loop-i.invariant.1,
        put_as a.from a.z.now a.to a.z_out.now i c.if-k-i-ge2.i c.loop-i.z_out c.if-k-i-ge2.z_out w.i-is w.z_out-is c.loop-i.invariant.2,
      )
    ]

pub returns-then-i-k : goal.returns-then-i-k
returns-then-i-k c =
    let a = c.args in
    let i = c.if-k-i-ge2.i in
    let (low, high, put, put2) = nearly (goal.at.returns-then-i-k c).Joined-k-i-ge2 in
    let s = put-run a.from a.s.now a.to a.s_out.now i 1 c.if-k-i-ge2.s_out c.move_run-then-i-k.new.out (omega arith) (omega arith) put c.move_run-then-i-k.auto.out c.move_run-then-i-k.ensures in
    let z = put-run a.from a.z.now a.to a.z_out.now i 1 c.if-k-i-ge2.z_out c.move_run-then-i-k-2.new.out (omega arith) (omega arith) put2 c.move_run-then-i-k-2.auto.out c.move_run-then-i-k-2.ensures in record {
      s_out_after = (put_as a.from a.s.now a.to a.s_out.now (i + 1) a.k _ _ (omega arith) refl s).1;
      z_out_after = (put_as a.from a.z.now a.to a.z_out.now (i + 1) a.k _ _ (omega arith) refl z).1;
    }

pub returns-else-i-k : goal.returns-else-i-k
returns-else-i-k c =
    let a = c.args in
    let (low, high, put, put2) = nearly (goal.at.returns-else-i-k c).Joined-k-i-ge2 in record {
      s_out_after = (put_as a.from a.s.now a.to a.s_out.now c.if-k-i-ge2.i a.k _ _ (omega arith) refl put).1;
      z_out_after = (put_as a.from a.z.now a.to a.z_out.now c.if-k-i-ge2.i a.k _ _ (omega arith) refl put2).1;
    }
