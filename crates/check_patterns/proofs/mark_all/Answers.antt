use native.Mathlib.Omega.{arith}
use mathlib.Core.Bool.{false}
use mathlib.Core.Logic.{inr}
use mathlib.Core.Path.{refl}
use mathlib.Core.List.{◌++◌}
use lib.ListN.{take, get_or}
use Rattle.layout.proofs.Lists.Tests.{differ}
use Rattle.utils.proofs.Windows.{take_more}
use Rattle.check_patterns.proofs.Marks.{beq_differ, beq_same, met_more, met_has, once_not}
use Rattle.check_patterns.proofs.mark_all.Goals as goal

pub returns-then-marks-x : goal.returns-then-marks-x
returns-then-marks-x c =
    let ws = c.args.words.now in
    let i = c.loop-word.word-index in
    λ met m. (
      once_not c.args.n met ws i c.loop-word-test.true
          (inr (met_has c.args.b c.args.n c.loop-word.marks (met ++ take i ws) (get_or ws i 0) (c.loop-word.invariant met m) c.if-n-x.false (beq_same _ _ c.if-marks-x.true))),
      λ z. absurd (differ false z refl),
    )

pub loop-word-preserved : goal.loop-word-preserved
loop-word-preserved c =
    let ws = c.args.words.now in
    let i = c.loop-word.word-index in
    λ met m.
    rw (take_more met ws i c.loop-word-test.true) (met_more c.args.b c.args.n c.loop-word.marks (met ++ take i ws) (get_or ws i 0) (omega arith) c.if-n-x.false
    (beq_differ _ _ c.if-marks-x.false) (c.loop-word.invariant met m))
