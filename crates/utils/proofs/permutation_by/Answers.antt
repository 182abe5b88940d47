use Rattle.utils.proofs.Windows.{marked-none, window_none, window_more, repeats_within, windows_all}
use Rattle.layout.proofs.Lists.Tests.{passes, and-true, and_right}
use Rattle.layout.specs.General.Lists.{all, keep, distinct}
use Rattle.utils.specs.Windows.{within}
use mathlib.Core.List.{[]}
use lib.ListN.{length}
use lib.Dec.{ltb}
use mathlib.Core.Bool.{true}
use Prim.Native.Nat.{◌+◌}
use mathlib.Core.Path.{◌≡◌, sym, ◌∙◌}
use native.Mathlib.Omega.{arith}
use Rattle.utils.proofs.permutation_by.Goals as goal
use Rattle.utils.proofs.permutation_by.Goals.{After-mark}

-- the result of marking: whether the numbers of the window are duplicate-free
once : (c : After-mark) → c.mark.result ≡ distinct (keep (within c.loop-n.low (length c.loop-n.marks)) c.args.words.now)
once c = rw c.clear.auto.marks at (c.mark.ensures [] (rw c.clear.ensures (marked-none c.loop-n.low (length c.loop-n.marks))) tt).0

pub loop-n-init : goal.loop-n-init
loop-n-init c = (omega arith, window_none c.args.words.now)

pub returns-then-not-mark : goal.returns-then-not-mark
returns-then-not-mark c =
    let ws = c.args.words.now in
    sym (and_right (all (λ x. ltb x (length ws)) ws) (distinct ws) (repeats_within _ ws (sym (once (goal.at.returns-then-not-mark c).After-mark) ∙ c.if-not-mark.true)))

pub returns-then-n-low : goal.returns-then-n-low
returns-then-n-low c =
    let ws = c.args.words.now in
    let size : length c.mark.new.marks ≡ length c.loop-n.marks = c.mark.auto.marks ∙ c.clear.auto.marks in
    let inside : all (λ x. ltb x (length ws)) ws ≡ true = sym c.if-not-all_below.ensures in
    let new = sym (once (goal.at.returns-then-n-low c).After-mark) ∙ c.if-not-mark.false in
    sym (and-true _ _ inside
    ∙ windows_all (length ws) (c.loop-n.low + length c.loop-n.marks) ws inside (omega arith) (window_more c.loop-n.low (length c.loop-n.marks) ws c.loop-n.invariant.1 (passes _ new)))

pub loop-n-preserved : goal.loop-n-preserved
loop-n-preserved c =
    let size : length c.mark.new.marks ≡ length c.loop-n.marks = c.mark.auto.marks ∙ c.clear.auto.marks in
    let new = sym (once (goal.at.loop-n-preserved c).After-mark) ∙ c.if-not-mark.false in
    (omega arith, rw size (window_more c.loop-n.low (length c.loop-n.marks) c.args.words.now c.loop-n.invariant.1 (passes _ new)))
