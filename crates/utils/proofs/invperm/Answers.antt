use Prim.Native.Nat.{ℕ, ◌<◌}
use native.Mathlib.Omega.{arith}
use mathlib.Core.Path.{◌≡◌, refl, sym, ◌∙◌}
use mathlib.Core.Bool.{false}
use mathlib.Core.List.{[]}
use lib.ListN.{length, take, get_or, length-set}
use borrow.Author.Tests.{eq-eqb, ne_eqb, not-true, not-false}
use Rattle.layout.specs.General.Lists.{has, is_permutation}
use Rattle.layout.proofs.Lists.Tests.{differ}
use Rattle.utils.proofs.Windows.{take_more}
use Rattle.utils.proofs.Passed.{passed_none, passed_more, passed_all, out-refused, met_refused}
use Rattle.utils.proofs.Scattered.{scattered-step, scattered-done}
use Rattle.utils.proofs.Placed.{placed_none, placed_more}
use Rattle.utils.proofs.invperm.Goals as goal
use Rattle.utils.proofs.invperm.Goals.{then-words-w-via-then-words-w, then-words-w-via-else-words-w+then-table-w}

pub loop-k-init : goal.loop-k-init
loop-k-init c = (refl, rw c.requires.table_value (placed_none 4294967295 (length c.args.table.now)), passed_none c.args.words.now, refl)

pub shape_of-table-then-words-w : goal.shape_of-table-then-words-w
shape_of-table-then-words-w c = c.loop-k.invariant.0

pub returns-then-words-w : goal.returns-then-words-w
returns-then-words-w c =
    let ws = c.args.words.now in
    let k = c.loop-k.k in
    let x : ℕ = get_or ws k 0 in
    let refused : is_permutation ws ≡ false = elim c.then-words-w.branch [
      | then-words-w-via-then-words-w w ↦ out-refused ws k c.loop-k-test.true w.if-words-w.true c.loop-k.invariant.2
      | then-words-w-via-else-words-w+then-table-w w ↦
          met_refused ws k c.loop-k-test.true w.if-words-w.false (not-false _ (sym (c.loop-k.invariant.1 x (omega arith)) ∙ ne_eqb (get_or c.loop-k.table x 0) 4294967295 w.if-table-w.true))
    ] in record { value = sym refused; table_after = λ z. absurd (differ false z refl) }

pub loop-k-preserved : goal.loop-k-preserved
loop-k-preserved c =
    let ws = c.args.words.now in
    let k = c.loop-k.k in
    let x : ℕ = get_or ws k 0 in
    let h : k < length ws = omega arith in
    let new : has x (take k ws) ≡ false = not-true _ (sym (c.loop-k.invariant.1 x (omega arith)) ∙ eq-eqb (get_or c.loop-k.table x 0) 4294967295 c.if-table-w.false) in (
      simp length-set c.loop-k.invariant.0,
      rw (take_more [] ws k h) (placed_more 4294967295 c.loop-k.table (take k ws) x k (omega arith) (λ e. omega arith) c.loop-k.invariant.1),
      passed_more ws k h (omega arith) new c.loop-k.invariant.2,
      sym (scattered-step ws c.loop-k.table k h) ∙ c.loop-k.invariant.3,
    )

pub shape_of-table : goal.shape_of-table
shape_of-table c = c.loop-k.invariant.0

pub returns : goal.returns
returns c =
    let ws = c.args.words.now in
    let k = c.loop-k.k in record { value = sym (passed_all ws k c.loop-k-test.false c.loop-k.invariant.2); table_after = λ _. sym (scattered-done ws c.loop-k.table k c.loop-k-test.false) ∙ c.loop-k.invariant.3 }
