use Rattle.layout.proofs.Lists.Walks.{all-step, all_fails, all_done}
use Rattle.layout.specs.General.Lists.{all}
use borrow.Author.Tests.{lt-ltb, le-ltb}
use lib.ListN.{drop, get_or}
use lib.Dec.{ltb}
use Prim.Native.Nat.{ℕ, ◌+◌}
use mathlib.Core.Path.{sym, ap, ◌∙◌}
use mathlib.Core.Bool.{Bool, ◌&&◌, and-true, and-false}
use native.Mathlib.Omega.{arith}
use Rattle.utils.proofs.all_below.Goals as goal
use Rattle.utils.proofs.all_below.Goals.{then-n-word, else-n-word}

pub loop-word-preserved : goal.loop-word-preserved
loop-word-preserved c =
    let words = c.args.words.now in
    let i = c.loop-word.word-index in
    let fits : ℕ → Bool = λ x. ltb x c.args.n in
    let left : Bool → Bool = λ b. c.loop-word.holds && b in
    let next : Bool → Bool = λ b. b && all fits (drop (i + 1) words) in
    elim c.if-n-word.branch [
      | then-n-word w ↦ (c.loop-word.invariant ∙ ap left (all_fails fits words i 0 (omega arith) (le-ltb (get_or words i 0) c.args.n w.if-n-word.true)) ∙ and-false c.loop-word.holds ∙ ap next (sym w.holds-is))
      | else-n-word w ↦ (c.loop-word.invariant ∙ ap left (all-step fits words i 0 (omega arith) (lt-ltb (get_or words i 0) c.args.n w.if-n-word.false)) ∙ ap next (sym w.holds-is))
    ]

pub returns : goal.returns
returns c =
    let left : Bool → Bool = λ b. c.loop-word.holds && b in
    sym (c.loop-word.invariant ∙ ap left (all_done (λ x. ltb x c.args.n) c.args.words.now c.loop-word.word-index c.loop-word-test.false) ∙ and-true c.loop-word.holds)
