use Prim.Native.Nat.{◌+◌}
use mathlib.Core.Path.{sym, ap, ◌∙◌}
use mathlib.Core.Bool.{Bool, not, ◌&&◌, and-true, and-false}
use lib.ListN.{drop}
use Rattle.layout.specs.General.Lists.{all}
use Rattle.layout.proofs.Lists.Walks.{all-step, all_fails, all_done}
use native.Mathlib.Omega.{arith}
use borrow.Author.Tests.{eq-eqb, ne_eqb}
use Rattle.inverse_permutation.proofs.all_placed.Invariants.{written_at}
use Rattle.inverse_permutation.proofs.all_placed.Goals as goal
use Rattle.inverse_permutation.proofs.all_placed.Goals.{then-k, else-k}

pub loop-k-preserved : goal.loop-k-preserved
loop-k-preserved c =
    let table = c.args.table.now in
    let i = c.loop-k.k-index in
    let left : Bool → Bool = λ b. c.loop-k.placed && b in
    let next : Bool → Bool = λ b. b && all written_at (drop (i + 1) table) in
    elim c.if-k.branch [
      | then-k w ↦ (c.loop-k.invariant ∙ ap left (all_fails written_at table i 0 (omega arith) (ap not (eq-eqb _ _ w.if-k.true))) ∙ and-false c.loop-k.placed ∙ ap next (sym w.placed-is))
      | else-k w ↦ (c.loop-k.invariant ∙ ap left (all-step written_at table i 0 (omega arith) (ap not (ne_eqb _ _ w.if-k.false))) ∙ ap next (sym w.placed-is))
    ]

pub returns : goal.returns
returns c =
    let left : Bool → Bool = λ b. c.loop-k.placed && b in
    sym (c.loop-k.invariant ∙ ap left (all_done written_at c.args.table.now c.loop-k.k-index c.loop-k-test.false) ∙ and-true c.loop-k.placed)
