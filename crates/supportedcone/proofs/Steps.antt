-- Sums over a list, one element at a time; writing three elements one by one.
use Prim.Native.Nat.{ℕ, ◌+◌, ◌≤◌, ◌<◌}
use native.Mathlib.Numerals.{add-one}
use native.Mathlib.Omega.{arith}
use mathlib.Core.Path.{◌≡◌, sym, ap, ◌∙◌}
use mathlib.Core.List.{List, [], ◌∷◌, map, map-append}
use lib.ListN.{length, get_or, take, drop, take-append-drop}
use lib.Seq.{take-suc, take_all}
use Rattle.layout.specs.General.Lists.{sum}
use Rattle.layout.proofs.Lists.Starts.{sum-append}

module _ {A : Type 0} (f : A → ℕ) where
  pub total_more : (xs : List A) (i : ℕ) (d : A) → i < length xs → sum (map f (take (i + 1) xs)) ≡ sum (map f (take i xs)) + f (get_or xs i d)
  total_more xs i d h =
      rw (add-one, take-suc xs i d h, map-append f (take i xs) (get_or xs i d ∷ []), sum-append (map f (take i xs)) (f (get_or xs i d) ∷ [])) (omega arith)

  pub total-done : (xs : List A) (i : ℕ) → length xs ≤ i → sum (map f (take i xs)) ≡ sum (map f xs)
  total-done xs i h = rw (take_all i xs h)

  pub total-le : (xs : List A) (i : ℕ) → sum (map f (take i xs)) ≤ sum (map f xs)
  total-le xs i =
      omega (arith, sym (ap (λ (l : List A). sum (map f l)) (take-append-drop i xs)) ∙ ap sum (map-append f (take i xs) (drop i xs)) ∙ sum-append (map f (take i xs)) (map f (drop i xs)))
