use Prim.Native.Nat.{◌+◌, ◌*◌, ◌≤◌}
use native.Mathlib.Omega.{arith}
use mathlib.Core.Path.{◌≡◌, sym, ◌∙◌}
use mathlib.Core.Bool.{true}
use lib.ListN.{length}
use lib.Dec.{ltb}
use Rattle.layout.specs.General.Lists.{all, distinct}
use Rattle.layout.proofs.Lists.Tests.{passes, and-true, and-false, and_right}
use Rattle.utils.proofs.Windows.{window_none, window_more, repeats_within, windows_all}
use Rattle.std.proofs.lemmas.Grind.{div_ceil_times}
use Rattle.inverse_marks.proofs.permutation_by_windows.Goals as goal

pub returns-then-not-all_below : goal.returns-then-not-all_below
returns-then-not-all_below c = sym (and-false _ _ (sym c.if-not-all_below.ensures))

pub loop-window-init : goal.loop-window-init
loop-window-init c = window_none c.args.words.now

pub returns-then-not-distinct_within : goal.returns-then-not-distinct_within
returns-then-not-distinct_within c =
    let ws = c.args.words.now in
    sym (and_right (all (λ x. ltb x (length ws)) ws) (distinct ws) (repeats_within _ ws (sym c.if-not-distinct_within.ensures)))

pub loop-window-preserved : goal.loop-window-preserved
loop-window-preserved c =
    let ws = c.args.words.now in
    let k = c.loop-window.window in
    let e : k * 8388608 + 8388608 ≡ (k + 1) * 8388608 = omega arith in
    rw e at (window_more (k * 8388608) 8388608 ws c.loop-window.invariant (passes _ (sym c.if-not-distinct_within.ensures)))

pub returns : goal.returns
returns c =
    let ws = c.args.words.now in
    let every : all (λ x. ltb x (length ws)) ws ≡ true = sym c.if-not-all_below.ensures in
    let covered : length ws ≤ c.loop-window.window * 8388608 = omega (arith, div_ceil_times (length ws) 8388608 (omega arith)) in
    sym (and-true _ _ every ∙ windows_all (length ws) (c.loop-window.window * 8388608) ws every covered c.loop-window.invariant)
