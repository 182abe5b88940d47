-- Lists joined one after the other, from first to last and from last to first.
use Prim.Native.Nat.{ℕ, ◌+◌, ◌≤◌, ◌<◌}
use native.Mathlib.Numerals.{add-one}
use native.Mathlib.Omega.{arith}
use mathlib.Core.Path.{◌≡◌, ap, sym, ◌∙◌}
use mathlib.Core.List.{List, [], ◌∷◌, ◌++◌, reverse, reverse-append, reverse-cons, append-nil}
use lib.ListN.{length, get_or, take, drop, length-append, take-append-drop}
use lib.Seq.{take-suc, drop-cons}
use Rattle.layout.specs.General.Lists.{join}
use Rattle.layout.proofs.Lists.Starts.{join-append}

module _ {A B : Type 0} (f : A → List B) (d : A) (xs : List A) where
  join_last : (ys : List A) (x : A) → join f (ys ++ (x ∷ [])) ≡ join f ys ++ f x
  join_last ys x = join-append f ys (x ∷ []) ∙ ap (λ (r : List B). join f ys ++ r) (append-nil (f x))

  -- ---- from first to last, after the first c lists

  pub up_more : (c : ℕ) → c < length xs → join f (take (c + 1) xs) ≡ join f (take c xs) ++ f (get_or xs c d)
  up_more c l = ap (join f) (ap (λ (n : ℕ). take n xs) (add-one c) ∙ take-suc xs c d l) ∙ join_last (take c xs) (get_or xs c d)

  pub up_room : (c : ℕ) → c < length xs → length (join f (take c xs)) + length (f (get_or xs c d)) ≤ length (join f xs)
  up_room c l =
      omega (
        arith,
        ap length (up_more c l),
        length-append (join f (take c xs)) (f (get_or xs c d)),
        ap length (ap (join f) (sym (take-append-drop (c + 1) xs)) ∙ join-append f (take (c + 1) xs) (drop (c + 1) xs)),
        length-append (join f (take (c + 1) xs)) (join f (drop (c + 1) xs)),
      )

  -- ---- from last to first, after the lists from c on

  pub down_more : (c : ℕ) → c < length xs → join f (reverse (drop c xs)) ≡ join f (reverse (drop (c + 1) xs)) ++ f (get_or xs c d)
  down_more c l =
      ap (λ (r : List A). join f (reverse r)) (drop-cons xs c d l ∙ ap (λ (n : ℕ). get_or xs c d ∷ drop n xs) (sym (add-one c)))
      ∙ ap (join f) (reverse-cons (get_or xs c d) (drop (c + 1) xs)) ∙ join_last (reverse (drop (c + 1) xs)) (get_or xs c d)

  pub down-room : (c : ℕ) → c < length xs
      → length (join f (reverse (drop (c + 1) xs))) + length (f (get_or xs c d)) ≤ length (join f (reverse xs))
  down-room c l =
      let before = reverse (take c xs) in
      omega (
        arith,
        ap length (down_more c l),
        length-append (join f (reverse (drop (c + 1) xs))) (f (get_or xs c d)),
        ap length
            (ap (join f) (ap reverse (sym (take-append-drop c xs)) ∙ reverse-append (take c xs) (drop c xs)) ∙ join-append f (reverse (drop c xs)) before),
        length-append (join f (reverse (drop c xs))) (join f before),
      )
