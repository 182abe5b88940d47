use Prim.Native.Nat.{ℕ, suc, ◌+◌, ◌-◌, ◌≤◌, ◌<◌}
use mathlib.Core.Bool.{Bool, not, ◌&&◌}
use mathlib.Core.Logic.{inl, inr, ◌⊎◌}
use mathlib.Core.Path.{sym, ap, ◌∙◌}
use mathlib.Core.List.{List, []}
use lib.ListN.{length, take, drop, get_or}
use native.Mathlib.Omega.{arith}
use Rattle.layout.specs.General.Lists.{has, keep}
use Rattle.utils.specs.Windows.{within}
use Rattle.utils.proofs.Windows.{within_in, take_more, split_more}
use Rattle.check_members.specs.OnceIn.{once_in}
use Rattle.check_members.proofs.Unmarked.{in_window, past_window, left_out, left_in, left_new, left_old, once-skip, once_new, once_lost, outside}
use Rattle.check_members.proofs.unmark.Goals as goal
use Rattle.check_members.proofs.unmark.Goals.{then-low-x+then-x-low+else-not-marks-x, else-low-x, else-low-x-via-then-low-x+else-x-low, else-low-x-via-else-low-x}

pub returns-then-not-marks-x : goal.returns-then-not-marks-x
returns-then-not-marks-x c =
    let ws = c.args.words.now in
    let low = c.args.low in
    let i = c.loop-word.word-index in
    let x : ℕ = get_or ws i 0 in
    let n = length c.args.marks.now in
    λ ms m.
    let p : ℕ → Bool = within low n in
    let mark = (c.loop-word.invariant ms m).0 (x - low) c.if-x-low.true ∙ ap (λ (y : ℕ). has y ms && not (has y (take i ws))) (in_window c.if-low-x.true) in
    sym (ap (λ (k : List ℕ). once_in ms (keep p k)) (split_more [] ws i c.loop-word-test.true)
    ∙ once_lost p ms (take i ws) x (drop (suc i) ws) (within_in low n x c.if-low-x.true (omega arith)) (sym mark ∙ c.if-not-marks-x.true))

pub loop-word-preserved : goal.loop-word-preserved
loop-word-preserved c =
    let ws = c.args.words.now in
    let low = c.args.low in
    let i = c.loop-word.word-index in
    let x : ℕ = get_or ws i 0 in
    let marks = c.loop-word.marks in
    let n = length c.args.marks.now in
    λ ms m.
    let (left, once) = c.loop-word.invariant ms m in
    rw (take_more [] ws i c.loop-word-test.true) (elim c.if-low-x.branch [
      | then-low-x+then-x-low+else-not-marks-x w ↦
          let marked = sym (left (x - low) w.if-x-low.true ∙ ap (λ (y : ℕ). has y ms && not (has y (take i ws))) (in_window w.if-low-x.true)) ∙ w.if-not-marks-x.false in
          rw w.marks-is (
            left_in low marks ms (take i ws) x (x - low) (sym (in_window w.if-low-x.true)) w.if-x-low.true left,
            once_new _ ms (take i ws) x (within_in low n x w.if-low-x.true (omega arith)) (left_new (has x ms) (has x (take i ws)) marked) (left_old (has x ms) (has x (take i ws)) marked) once,
          )
      | else-low-x w ↦
          let out : (x < low) ⊎ (low + length marks ≤ x) = elim w.else-low-x.branch [
            | else-low-x-via-then-low-x+else-x-low v ↦ inr (past_window v.if-low-x.true v.if-x-low.false)
            | else-low-x-via-else-low-x v ↦ inl v.if-low-x.false
          ] in
          rw w.marks-is (left_out low marks ms (take i ws) x out left, once-skip _ ms (take i ws) x (outside low n x (rw c.loop-word.auto.marks at out)) once)
    ])
