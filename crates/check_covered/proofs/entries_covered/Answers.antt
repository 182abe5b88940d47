use Prim.Native.Nat.{ℕ, ◌+◌}
use mathlib.Core.Path.{sym, ap, ◌∙◌}
use mathlib.Core.Bool.{Bool, false, ◌&&◌, and-true, and-false}
use lib.ListN.{get_or, drop}
use Rattle.layout.specs.General.Lists.{all}
use Rattle.layout.proofs.Lists.Walks.{all-step, all_fails, all_done}
use Rattle.check_covered.proofs.entries_covered.Goals as goal
use Rattle.check_covered.proofs.entries_covered.Goals.{then-not-covered-row, else-not-covered-row}

pub bounds-covered-row : goal.bounds-covered-row
bounds-covered-row c = c.requires c.loop-row.row-index c.loop-row-test.true

pub loop-row-preserved : goal.loop-row-preserved
loop-row-preserved c =
    let a = c.args in
    let rows = a.rows.now in
    let i = c.loop-row.row-index in
    let fine : ℕ → Bool = λ r. get_or a.covered.now r false in
    let left : Bool → Bool = λ b. c.loop-row.holds && b in
    let next : Bool → Bool = λ b. b && all fine (drop (i + 1) rows) in
    elim c.if-not-covered-row.branch [
      | then-not-covered-row w ↦ c.loop-row.invariant ∙ ap left (all_fails fine rows i 0 c.loop-row-test.true w.if-not-covered-row.true) ∙ and-false c.loop-row.holds ∙ ap next (sym w.holds-is)
      | else-not-covered-row w ↦ c.loop-row.invariant ∙ ap left (all-step fine rows i 0 c.loop-row-test.true w.if-not-covered-row.false) ∙ ap next (sym w.holds-is)
    ]

pub returns : goal.returns
returns c =
    let a = c.args in
    let left : Bool → Bool = λ b. c.loop-row.holds && b in
    sym (c.loop-row.invariant ∙ ap left (all_done (λ r. get_or a.covered.now r false) a.rows.now c.loop-row.row-index c.loop-row-test.false) ∙ and-true c.loop-row.holds)
