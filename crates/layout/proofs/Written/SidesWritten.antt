-- Many right sides in terms of written outputs. Only the contracts of their cut and of the single cuts are used.
use Prim.Native.Nat.{ℕ, zero, suc, ◌<◌}
use mathlib.Core.Path.{◌≡◌, refl, sym, ap, ◌∙◌}
use mathlib.Core.Logic.{◌⊎◌, inl, inr}
use mathlib.Core.Bool.{Bool, true, false, cond}
use lib.ListN.{length, take}
use Rattle.layout.specs.Problems.Problem.{Problem}
use Rattle.layout.specs.Cuts.Compact.{compact_b}
use Rattle.layout.specs.Calls.Cut.{Augmented, lengths}
use Rattle.layout.specs.Calls.Answers.{or_else, roomy}
use Rattle.layout.specs.Calls.CutMany.{side, with_side, sides_failing, sides_b, augmented_sides, CutMany}
use Rattle.layout.specs.Written.SidesWritten.{SideWritten, FirstRefused}
use Rattle.layout.proofs.Lists.Buffers.{front_read}
use Rattle.layout.proofs.Checks.Order.{or_else-zero}
use Rattle.layout.proofs.Theorems.Sides.{SidesFit, one_by_one, sides_first, sides_iff}
use Rattle.layout.proofs.Written.BetweenWritten.{same_but_b}

-- a number that is not 0 is the first one or, if that is 0, 11
split : (a : ℕ) (t : Bool) (r : ℕ) → r ≡ or_else a (cond t 0 11) → ¬ (r ≡ 0) → ((a ≡ 0) × (r ≡ 11)) ⊎ (¬ (a ≡ 0) × (r ≡ a))
split zero true r e n = absurd (n e)
split zero false r e n = inl (refl, e)
split (suc a) t r e n = inr (λ z. n (e ∙ z), e)

module _ (count : ℕ) (p : Problem) {before after : Augmented} where
  -- if the call returns 0, every side is accepted, and the results agree with its own cut
  module _ (call : CutMany count p before after 0) where
    accepted_sides : sides_failing p count p.b ≡ 0
    accepted_sides = ((or_else-zero (sides_failing p count p.b) (cond (roomy (lengths (augmented_sides p count p.b)) (lengths before)) 0 11)).0 (sym call.number)).0

    all_read : take (length (sides_b p count p.b)) after.b ≡ sides_b p count p.b
    all_read = front_read (sides_b p count p.b) before.b call.tables.constrained.b

    pub sides_written : (k : ℕ) → k < count → SideWritten count p after k
    sides_written k l =
        let one = one_by_one p count p.b accepted_sides k l in
        record {
          accepted = one.accepted;
          others = λ {lent} {own} cut. same_but_b p (side p.m k p.b) (side p.m 0 p.b) (sides_b p count p.b) cut.tables call.tables;
          run = λ {lent} {own} cut.
              front_read (compact_b (with_side p p.b k)) lent.b cut.tables.constrained.b
              ∙ sym (ap (λ (a : Augmented). a.b) one.given)
              ∙ ap (side (length (compact_b (with_side p p.b k))) k) (sym all_read);
        }

  -- if the call refuses, with a right count and a right length: its number is the first refused side's, or 11 with every side accepted
  pub first-refused : {r : ℕ} → CutMany count p before after r → SidesFit p.m count p.b → ¬ (r ≡ 0) → FirstRefused count p r
  first-refused {r} call fit n = elim (split (sides_failing p count p.b) (roomy (lengths (augmented_sides p count p.b)) (lengths before)) r call.number n) [
    | inl (ok, e) ↦ inr (e, ((sides_iff p count p.b).0 ok).1)
    | inr (bad, e) ↦ let (k, l, f, g) = sides_first p count p.b fit bad in inl (k, l, f ∙ sym e, g)
  ]
