use Prim.Native.Nat.{◌<◌}
use mathlib.Core.Path.{refl, sym, ◌∙◌}
use mathlib.Core.Bool.{false}
use lib.ListN.{length, get_or, length-set}
use lib.Dec.{ltb}
use Rattle.layout.proofs.Lists.Tests.{differ}
use Rattle.layout.proofs.Lists.Walks.{all-step, all_fails, all_done}
use Rattle.utils.proofs.Scattered.{scattered-step, scattered-done}
use native.Mathlib.Omega.{arith}
use borrow.Author.Tests.{lt-ltb, le-ltb}
use Rattle.inverse_permutation.proofs.place.Goals as goal

pub loop-k-init : goal.loop-k-init
loop-k-init c = (refl, refl, refl)

pub shape_of-table-then-p-w : goal.shape_of-table-then-p-w
shape_of-table-then-p-w c = c.loop-k.invariant.0

pub returns-then-p-w : goal.returns-then-p-w
returns-then-p-w c =
    let p = c.args.p.now in
    let k = c.loop-k.k in record { value = sym (c.loop-k.invariant.1 ∙ all_fails (λ x. ltb x (length p)) p k 0 (omega arith) (le-ltb (get_or p k 0) (length p) c.if-p-w.true)); table_after = λ z. absurd (differ false z refl) }

pub loop-k-preserved : goal.loop-k-preserved
loop-k-preserved c =
    let p = c.args.p.now in
    let k = c.loop-k.k in
    let h : k < length p = omega arith in (
      simp length-set c.loop-k.invariant.0,
      c.loop-k.invariant.1 ∙ all-step (λ x. ltb x (length p)) p k 0 h (lt-ltb (get_or p k 0) (length p) (omega arith)),
      sym (scattered-step p c.loop-k.table k h) ∙ c.loop-k.invariant.2,
    )

pub shape_of-table : goal.shape_of-table
shape_of-table c = c.loop-k.invariant.0

pub returns : goal.returns
returns c =
    let p = c.args.p.now in
    let k = c.loop-k.k in record { value = sym (c.loop-k.invariant.1 ∙ all_done (λ x. ltb x (length p)) p k c.loop-k-test.false); table_after = λ _. sym (scattered-done p c.loop-k.table k c.loop-k-test.false) ∙ c.loop-k.invariant.2 }
