use Rattle.std.proofs.Common.{sym, ◌∙◌, arith}
use borrow.Author.Tests.{lt-ltb, le-ltb}
use Rattle.augment_compact.proofs.Steps.{placed_step, placed_done}
use Rattle.augment_compact.proofs.write_place.Goals as goal
use Rattle.augment_compact.proofs.write_place.Goals.{then-c-lt-ROWS, else-c-lt-ROWS}

pub loop-r-preserved : goal.loop-r-preserved
loop-r-preserved c =
    let step = placed_step c.args.codes.now c.loop-r.place c.loop-r.r (omega arith) in
    elim c.if-c-lt-ROWS.branch [
      | then-c-lt-ROWS w ↦ rw w.place-is (sym (rw (lt-ltb _ _ w.if-c-lt-ROWS.true) at step) ∙ c.loop-r.invariant)
      | else-c-lt-ROWS w ↦ rw w.place-is (sym (rw (le-ltb _ _ w.if-c-lt-ROWS.false) at step) ∙ c.loop-r.invariant)
    ]

pub returns : goal.returns
returns c = sym (placed_done c.args.codes.now c.loop-r.place c.loop-r.r (omega arith)) ∙ c.loop-r.invariant
