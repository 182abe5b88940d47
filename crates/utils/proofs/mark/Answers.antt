use Rattle.utils.proofs.Windows.{marked-out, marked_in, skip_more, new_more, old_more, within_before, within-after, within_in, take_more, split_more, take_none}
use Rattle.layout.proofs.Lists.Tests.{passed, differ}
use Rattle.utils.specs.Windows.{within, Marked}
use Rattle.layout.specs.General.Lists.{has, keep, distinct}
use lib.Seq.{take_all}
use lib.ListN.{length, take, drop, get_or, length-set}
use lib.Dec.{T}
use Prim.Native.Nat.{ℕ, suc, ◌+◌, ◌-◌, ◌<◌}
use mathlib.Core.Logic.{inl, inr}
use mathlib.Core.Path.{◌≡◌, refl, sym, ap, ◌∙◌, subst}
use mathlib.Core.List.{List, ◌++◌}
use mathlib.Core.Bool.{Bool, false}
use native.Mathlib.Omega.{arith}
use Rattle.utils.proofs.mark.Goals as goal

pub loop-i-init : goal.loop-i-init
loop-i-init c =
    let ws = c.args.words.now in
    let low = c.args.low in (
      refl,
      λ met m d. (
        subst (λ (l : List ℕ). Marked low c.args.marks.now l) (take_none met ws) m,
        subst (λ (l : List ℕ). T (distinct (keep (within low (length c.args.marks.now)) l))) (take_none met ws) d,
      ),
    )

pub loop-i-preserved-then-x-low : goal.loop-i-preserved-then-x-low
loop-i-preserved-then-x-low c =
    let ws = c.args.words.now in
    let low = c.args.low in
    let i = c.loop-i.i in (
      c.loop-i.invariant.0,
      λ met m d.
          let now = c.loop-i.invariant.1 met m d in
          let h : i < length ws = omega arith in
          rw (take_more met ws i h) (
            marked-out low c.loop-i.marks (met ++ take i ws) (get_or ws i 0) (inl c.if-x-low.true) now.0,
            skip_more _ (met ++ take i ws) (get_or ws i 0) (within_before low _ (get_or ws i 0) c.if-x-low.true) now.1,
          ),
    )

pub loop-i-preserved-then-marks-v : goal.loop-i-preserved-then-marks-v
loop-i-preserved-then-marks-v c =
    let ws = c.args.words.now in
    let low = c.args.low in
    let i = c.loop-i.i in (
      c.loop-i.invariant.0,
      λ met m d.
          let now = c.loop-i.invariant.1 met m d in
          let h : i < length ws = omega arith in
          rw (take_more met ws i h) (
            marked-out low c.loop-i.marks (met ++ take i ws) (get_or ws i 0) (inr (omega arith)) now.0,
            skip_more _ (met ++ take i ws) (get_or ws i 0) (within-after low _ (get_or ws i 0) (omega arith) (omega arith)) now.1,
          ),
    )

pub returns-then-marks-v-2 : goal.returns-then-marks-v-2
returns-then-marks-v-2 c =
    let ws = c.args.words.now in
    let low = c.args.low in
    let i = c.loop-i.i in
    let x : ℕ = get_or ws i 0 in
    λ met m d.
    let now = c.loop-i.invariant.1 met m d in
    let e : low + (x - low) ≡ x = omega arith in
    let p : ℕ → Bool = within low (length c.args.marks.now) in (
      sym (ap (λ (k : List ℕ). distinct (keep p k)) (split_more met ws i (omega arith))
          ∙ old_more p (met ++ take i ws) x (drop (suc i) ws) (within_in low _ x (omega arith) (omega arith))
          (ap (λ (y : ℕ). has y (met ++ take i ws)) (sym e) ∙ sym (now.0 (x - low) (omega arith)) ∙ c.if-marks-v-2.true)),
      λ z. absurd (differ false z refl),
    )

pub loop-i-preserved : goal.loop-i-preserved
loop-i-preserved c =
    let ws = c.args.words.now in
    let low = c.args.low in
    let i = c.loop-i.i in
    let x : ℕ = get_or ws i 0 in (
      simp length-set c.loop-i.invariant.0,
      λ met m d.
          let now = c.loop-i.invariant.1 met m d in
          let h : i < length ws = omega arith in
          let e : low + (x - low) ≡ x = omega arith in
          rw (take_more met ws i h) (
            marked_in low c.loop-i.marks (met ++ take i ws) x (x - low) (sym e) (omega arith) now.0,
            new_more _ (met ++ take i ws) x (within_in low _ x (omega arith) (omega arith))
                (ap (λ (y : ℕ). has y (met ++ take i ws)) (sym e) ∙ sym (now.0 (x - low) (omega arith)) ∙ c.if-marks-v-2.false) now.1,
          ),
    )

pub returns : goal.returns
returns c =
    let ws = c.args.words.now in
    let e : take c.loop-i.i ws ≡ ws = take_all c.loop-i.i ws c.loop-i-test.false in
    λ met m d.
    let now = rw e at (c.loop-i.invariant.1 met m d) in
    (sym (passed _ now.1), λ _. now.0)
