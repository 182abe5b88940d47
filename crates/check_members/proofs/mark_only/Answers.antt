use Prim.Native.Nat.{ℕ, ◌-◌}
use mathlib.Core.Logic.{inl, inr}
use mathlib.Core.Path.{sym}
use mathlib.Core.List.{[]}
use lib.ListN.{take, get_or}
use Rattle.utils.proofs.Windows.{marked-out, marked_in, take_more}
use Rattle.check_members.proofs.Unmarked.{in_window, past_window}
use Rattle.check_members.proofs.mark_only.Goals as goal
use Rattle.check_members.proofs.mark_only.Goals.{then-low-x+then-x-low, else-low-x, else-low-x-via-then-low-x+else-x-low, else-low-x-via-else-low-x}

pub loop-word-preserved : goal.loop-word-preserved
loop-word-preserved c =
    let ws = c.args.words.now in
    let low = c.args.low in
    let i = c.loop-word.word-index in
    let x : ℕ = get_or ws i 0 in
    let marks = c.loop-word.marks in
    rw (take_more [] ws i c.loop-word-test.true) (elim c.if-low-x.branch [
      | then-low-x+then-x-low w ↦ rw w.marks-is (marked_in low marks (take i ws) x (x - low) (sym (in_window w.if-low-x.true)) w.if-x-low.true c.loop-word.invariant)
      | else-low-x w ↦
          rw w.marks-is (marked-out low marks (take i ws) x (elim w.else-low-x.branch [
            | else-low-x-via-then-low-x+else-x-low v ↦ inr (past_window v.if-low-x.true v.if-x-low.false)
            | else-low-x-via-else-low-x v ↦ inl v.if-low-x.false
          ]) c.loop-word.invariant)
    ])
