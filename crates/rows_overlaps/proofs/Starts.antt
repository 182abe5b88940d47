-- The first row of each block, written from the last clique to the first.
use Prim.Native.Nat.{ℕ, ◌+◌, ◌≤◌, ◌<◌}
use native.Mathlib.Numerals.{add-one}
use native.Mathlib.Decide.{ℕ_discrete}
use native.Mathlib.Omega.{arith}
use mathlib.Core.Path.{◌≡◌, ap, sym, ◌∙◌}
use mathlib.Core.List.{List, ◌∷◌, map}
use lib.ListN.{length, get_or, drop, set}
use lib.Seq.{drop-cons, get_or-set_same, get_or-set_other}
use Rattle.layout.specs.General.Lists.{sum}
use Rattle.layout.proofs.Lists.Joins.{sum_drop}

module _ (f : ℕ → ℕ) (os : List ℕ) (n : ℕ) (l : n < length os) where
  pub sum_more : sum (map f (drop n os)) ≡ f (get_or os n 0) + sum (map f (drop (n + 1) os))
  sum_more = ap (λ (r : List ℕ). sum (map f r)) (drop-cons os n 0 l ∙ ap (λ (m : ℕ). get_or os n 0 ∷ drop m os) (sym (add-one n)))

  pub sum_room : f (get_or os n 0) + sum (map f (drop (n + 1) os)) ≤ sum (map f os)
  sum_room = omega (arith, sum_more, sum_drop f os 0 n (omega arith))

-- storing number n extends a table that is right from n + 1 on
pub stored_more : (f : ℕ → ℕ) (out : List ℕ) (k n x : ℕ) → n < length out → f n ≡ x → ((d : ℕ) → n + 1 ≤ d → d < k → get_or out d 0 ≡ f d)
    → (d : ℕ) → n ≤ d → d < k → get_or (set out n x) d 0 ≡ f d
stored_more f out k n x l e h d m q = go (ℕ_discrete d n)
  where
    go : Dec (d ≡ n) → get_or (set out n x) d 0 ≡ f d
    go (yes i) = rw (i, get_or-set_same out n x 0 l) (sym e)
    go (no i) = get_or-set_other out n d x 0 i ∙ h d (omega (arith, i)) q
