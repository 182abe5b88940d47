-- Numbers placed in a table: none at first, and one more.
use Prim.Native.Nat.{ℕ, ◌<◌}
use native.Mathlib.Omega.{arith}
use mathlib.Core.Path.{◌≡◌, refl, sym, ap, ◌∙◌}
use mathlib.Core.Bool.{Bool, true, false, not}
use mathlib.Core.List.{List, [], ◌∷◌, ◌++◌}
use lib.ListN.{length, get_or, set, replicate, length-set, length-replicate, get_or-replicate}
use lib.Seq.{get_or-set_same, get_or-set_other}
use lib.Dec.{eqb}
use borrow.Author.Tests.{eq-eqb, ne_eqb, eqb-true, eqb-false}
use Rattle.layout.specs.General.Lists.{has}
use Rattle.utils.specs.Scattered.{Placed}
use Rattle.utils.proofs.Windows.{has_more, or_false, or_true}

module _ (none : ℕ) where
  pub placed_none : (n : ℕ) → Placed none (replicate n none) []
  placed_none n v h = eq-eqb (get_or (replicate n none) v 0) none (get_or-replicate n v none 0 (omega (arith, length-replicate n none)))

  -- one more number, k at index x
  pub placed_more : (table met : List ℕ) (x k : ℕ) → x < length table → (k ≡ none → ⊥) → Placed none table met → Placed none (set table x k) (met ++ (x ∷ []))
  placed_more table met x k h new p v l = go (eqb v x) refl
    where
      go : (b : Bool) → eqb v x ≡ b → eqb (get_or (set table x k) v 0) none ≡ not (has v (met ++ (x ∷ [])))
      go true q =
          ap (λ (u : ℕ). eqb u none) (ap (λ (u : ℕ). get_or (set table x k) u 0) (eqb-true v x q) ∙ get_or-set_same table x k 0 h)
          ∙ ne_eqb k none new ∙ sym (ap not (has_more v met x ∙ or_true (has v met) (eqb v x) q))
      go false q =
          ap (λ (u : ℕ). eqb u none) (get_or-set_other table x v k 0 (eqb-false v x q))
          ∙ p v (rw length-set at l) ∙ sym (ap not (has_more v met x ∙ or_false (has v met) (eqb v x) q))
