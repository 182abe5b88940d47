use Prim.Native.Nat.{ℕ, ◌*◌, ◌/◌, ◌%◌, ◌^◌, ◌≤◌, ◌<◌}
use native.Mathlib.Omega.{arith}
use mathlib.Core.Path.{◌≡◌, sym, ◌∙◌}
use mathlib.Core.Bool.{false}
use mathlib.Core.List.{List, []}
use lib.ListN.{length, take, get_or}
use lib.Dec.{eqb}
use lib.Bits.{bit_or}
use borrow.Author.Tests.{eq-eqb, ne_eqb}
use Rattle.layout.specs.General.Lists.{has}
use Rattle.utils.proofs.Windows.{take_more}
use Rattle.utils.proofs.Passed.{passed_none, passed_more, passed_all, out-refused, met_refused}
use Rattle.inverse_marks.specs.Flags.{Flagged}
use Rattle.inverse_marks.proofs.Flags.{flagged_none, flagged_met, flagged_more}
use Rattle.inverse_marks.proofs.mark_each.Goals as goal

-- whether a number has been met: setting its bit does not change the word
seen : (ws marks : List ℕ) (i : ℕ) → length ws ≤ 64 * length marks → get_or ws i 0 < length ws → Flagged 0 marks (take i ws)
    → let x : ℕ = get_or ws i 0 in
    let w : ℕ = get_or marks (x / 64) 0 in
    eqb (bit_or w ((1 * 2 ^ (x % 64)) % 18446744073709551616)) w ≡ has x (take i ws)
seen ws marks i room l f =
    let x : ℕ = get_or ws i 0 in
    flagged_met 0 marks (take i ws) x x (omega arith) (omega arith) f

pub loop-word-init : goal.loop-word-init
loop-word-init c = (rw c.requires.marks_value (flagged_none 0 (length c.args.marks.now)), passed_none c.args.words.now)

pub returns-then-words-x : goal.returns-then-words-x
returns-then-words-x c = sym (out-refused c.args.words.now c.loop-word.word-index (omega arith) (omega arith) c.loop-word.invariant.1)

pub returns-then-more-w : goal.returns-then-more-w
returns-then-more-w c =
    let ws = c.args.words.now in
    let i = c.loop-word.word-index in
    sym (met_refused ws i (omega arith) (omega arith) (sym (seen ws c.loop-word.marks i (omega arith) (omega arith) c.loop-word.invariant.0) ∙ eq-eqb _ _ c.if-more-w.true))

pub loop-word-preserved : goal.loop-word-preserved
loop-word-preserved c =
    let ws = c.args.words.now in
    let i = c.loop-word.word-index in
    let x : ℕ = get_or ws i 0 in
    let h : i < length ws = omega arith in
    let new : has x (take i ws) ≡ false = sym (seen ws c.loop-word.marks i (omega arith) (omega arith) c.loop-word.invariant.0) ∙ ne_eqb _ _ c.if-more-w.false in (
      rw (take_more [] ws i h) (flagged_more 0 c.loop-word.marks (take i ws) x x (omega arith) (omega arith) c.loop-word.invariant.0),
      passed_more ws i h (omega arith) new c.loop-word.invariant.1,
    )

pub returns : goal.returns
returns c = sym (passed_all c.args.words.now c.loop-word.word-index c.loop-word-test.false c.loop-word.invariant.1)
