use Prim.Native.Nat.{ℕ}
use native.Mathlib.Omega.{arith}
use mathlib.Core.Path.{◌≡◌, sym, ap, ◌∙◌}
use lib.ListN.{get_or, set, length-set}
use Rattle.std.proofs.lemmas.List.{set-get_or}
use Rattle.utils.proofs.Scattered.{scattered-step, scattered-done}
use Rattle.utils.proofs.scatter.Goals as goal
use Rattle.utils.proofs.scatter.Goals.{then-out-w, else-out-w}

-- the index written is within `out`
pub offset_bounds-out-w : goal.offset_bounds-out-w
offset_bounds-out-w c = omega (arith, c.requires.below c.loop-k.k c.loop-k-test.true)

pub bounds-out-w : goal.bounds-out-w
bounds-out-w c = omega (arith, c.requires.below c.loop-k.k c.loop-k-test.true)

pub offset_bounds-out-w-then-out-w : goal.offset_bounds-out-w-then-out-w
offset_bounds-out-w-then-out-w c = omega (arith, c.requires.below c.loop-k.k c.loop-k-test.true)

pub bounds-out-w-then-out-w : goal.bounds-out-w-then-out-w
bounds-out-w-then-out-w c = omega (arith, c.requires.below c.loop-k.k c.loop-k-test.true)

-- written or not, the index holds k afterwards
pub loop-k-preserved : goal.loop-k-preserved
loop-k-preserved c =
    let out = c.loop-k.out in
    let w : ℕ = get_or c.args.words.now c.loop-k.k 0 in
    let wrote : c.if-out-w.out ≡ set out w c.loop-k.k = elim c.if-out-w.branch [
      | then-out-w t ↦ t.out-is
      | else-out-w e ↦ e.out-is ∙ sym (ap (set out w) (sym e.if-out-w.false) ∙ set-get_or out w 0)
    ] in (
      rw wrote (length-set out _ _ ∙ c.loop-k.invariant.0),
      rw wrote (sym (scattered-step c.args.words.now out c.loop-k.k (omega arith)) ∙ c.loop-k.invariant.1),
    )

pub returns : goal.returns
returns c =
    sym (scattered-done c.args.words.now c.loop-k.out c.loop-k.k c.loop-k-test.false) ∙ c.loop-k.invariant.1
