use Prim.Native.Nat.{ℕ, suc, ◌*◌, ◌/◌, ◌%◌, ◌^◌, ◌<◌}
use native.Mathlib.Omega.{arith}
use mathlib.Core.Path.{◌≡◌, sym, ap, ◌∙◌}
use mathlib.Core.Bool.{Bool, true, false, not}
use mathlib.Core.List.{List, []}
use lib.ListN.{length, take, drop, get_or, length-set, length-replicate}
use lib.Seq.{take_all}
use lib.Dec.{eqb}
use lib.Bits.{bit_and, and_zero_r}
use borrow.Author.Tests.{eq-eqb, ne_eqb, not-true, not-false}
use Rattle.layout.specs.General.Lists.{has, keep, distinct}
use Rattle.layout.proofs.Lists.Tests.{passed}
use Rattle.utils.specs.Windows.{within}
use Rattle.utils.proofs.Windows.{take_more, split_more, skip_more, new_more, old_more}
use Rattle.inverse_marks.specs.Flags.{Flagged}
use Rattle.inverse_marks.proofs.Flags.{flagged_none, flagged_more, flagged_out, flagged_bit, inside, outside}
use Rattle.inverse_marks.proofs.mark_window.Goals as goal
use Rattle.inverse_marks.proofs.mark_window.Goals.{then-x-window, else-x-window}

-- the number of words of marks
pub loop-word-init : goal.loop-word-init
loop-word-init c = (
  ap length c.requires ∙ length-replicate {A = ℕ} 131072 0,
  rw c.requires (flagged_none (c.args.window * 8388608) 131072),
  tt,
)

-- whether a number of the window has been met, as its bit of the word
seen : (window i : ℕ) (words marks : List ℕ) → length marks ≡ 131072 → Flagged (window * 8388608) marks (take i words)
    → let x : ℕ = get_or words i 0 in
    let v : ℕ = x % 8388608 in
    x / 8388608 ≡ window
    → eqb (bit_and (get_or marks (v / 64) 0) ((1 * 2 ^ (v % 64)) % 18446744073709551616)) 0 ≡ not (has x (take i words))
seen window i words marks n f e =
    let x : ℕ = get_or words i 0 in
    flagged_bit (window * 8388608) marks (take i words) x (x % 8388608) (omega arith) (omega arith) f

pub returns-then-w-bit-ne0 : goal.returns-then-w-bit-ne0
returns-then-w-bit-ne0 c =
    let ws = c.args.words.now in
    let i = c.loop-word.word-index in
    let x : ℕ = get_or ws i 0 in
    let p : ℕ → Bool = within (c.args.window * 8388608) 8388608 in
    let w : ℕ = get_or c.loop-word.marks (x % 8388608 / 64) 0 in
    elim c.if-x-window.branch [
      | then-x-window t ↦
          let met : has x (take i ws) ≡ true =
          not-false _ (sym (seen c.args.window i ws c.loop-word.marks c.loop-word.invariant.0 c.loop-word.invariant.1 t.if-x-window.true)
          ∙ ne_eqb _ 0 (rw t.bit-is at c.if-w-bit-ne0.true)) in
          sym (ap (λ (k : List ℕ). distinct (keep p k)) (split_more [] ws i (omega arith))
          ∙ old_more p (take i ws) x (drop (suc i) ws) (inside _ x t.if-x-window.true) met)
      | else-x-window e ↦ absurd (c.if-w-bit-ne0.true (ap (bit_and w) e.bit-is ∙ and_zero_r w))
    ]

pub loop-word-preserved : goal.loop-word-preserved
loop-word-preserved c =
    let ws = c.args.words.now in
    let i = c.loop-word.word-index in
    let x : ℕ = get_or ws i 0 in
    let low : ℕ = c.args.window * 8388608 in
    let h : i < length ws = omega arith in
    elim c.if-x-window.branch [
      | then-x-window t ↦
          let new : has x (take i ws) ≡ false =
          not-true _ (sym (seen c.args.window i ws c.loop-word.marks c.loop-word.invariant.0 c.loop-word.invariant.1 t.if-x-window.true)
          ∙ eq-eqb _ 0 (rw t.bit-is at c.if-w-bit-ne0.false)) in (
            simp length-set c.loop-word.invariant.0,
            rw (t.bit-is, take_more [] ws i h) (flagged_more low c.loop-word.marks (take i ws) x (x % 8388608) (omega (arith, t.if-x-window.true)) (omega arith) c.loop-word.invariant.1),
            rw (take_more [] ws i h) (new_more _ (take i ws) x (inside _ x t.if-x-window.true) new c.loop-word.invariant.2),
          )
      | else-x-window e ↦ (
        simp length-set c.loop-word.invariant.0,
        rw (e.bit-is, take_more [] ws i h) (flagged_out low c.loop-word.marks (take i ws) (x % 8388608 / 64) x (λ v k d. e.if-x-window.false (omega arith)) c.loop-word.invariant.1),
        rw (take_more [] ws i h) (skip_more _ (take i ws) x (outside _ x e.if-x-window.false) c.loop-word.invariant.2),
      )
    ]

pub returns : goal.returns
returns c =
    let ws = c.args.words.now in
    sym (passed _ (rw (take_all c.loop-word.word-index ws c.loop-word-test.false) at c.loop-word.invariant.2))
