-- A loop's counter; folds over two lists in step (`walk`): over appended lists, and folds that agree; a test of each element;
-- two lists compared.
use Prim.Native.Nat.{ℕ, zero, suc, ◌+◌, ◌-◌, ◌≤◌, ◌<◌, zero-le, suc-le-suc}
use native.Mathlib.Omega.{arith}
use native.Mathlib.Numerals.{add-one}
use native.Mathlib.Nat.{le_of_suc-le-suc, not-suc-le-zero}
use mathlib.Core.Path.{◌≡◌, refl, sym, ◌∙◌, ap, ap₂, subst}
use mathlib.Core.Logic.{◌↔◌}
use mathlib.Core.Bool.{Bool, true, false, ◌&&◌, and-false}
use mathlib.Core.List.{List, [], ◌∷◌, ◌++◌, map}
use lib.ListN.{length, get_or, take, drop, drop_of_length-le}
use lib.Seq.{drop-cons}
use lib.Dec.{T, eqb, eqb→eq, eqb_refl}
use Rattle.layout.specs.General.Lists.{all, walk, same_by, same_numbers}
use Rattle.layout.proofs.Lists.Tests.{and_iff, and_swap}

-- increasing a counter i below n keeps it at most n and leaves fewer steps
pub one_more : {i n : ℕ} → i < n → i + 1 ≤ n
one_more h = omega arith

pub one_less : {i n : ℕ} → i < n → n - (i + 1) < n - i
one_less h = omega arith

-- a number that equals one at most n is at most n
pub same_le : {a b n : ℕ} → a ≡ b → b ≤ n → a ≤ n
same_le {n = n} e h = subst (λ (x : ℕ). x ≤ n) (sym e) h

module _ {A B S : Type 0} (f : A → B → S → S) where
  walk_none : (xs : List A) (s : S) → walk f xs [] s ≡ s
  walk_none [] s = refl
  walk_none (x ∷ xs) s = refl

  pub walk-append : (xs ys : List A) (vs : List B) (s : S)
      → walk f (xs ++ ys) vs s ≡ walk f ys (drop (length xs) vs) (walk f xs vs s)
  walk-append [] ys vs s = refl
  walk-append (x ∷ xs) ys [] s = sym (walk_none ys s)
  walk-append (x ∷ xs) ys (v ∷ vs) s = walk-append xs ys vs (f x v s)

  -- values past the length of xs are ignored
  pub walk-take : (xs : List A) (vs : List B) (s : S) (k : ℕ) → length xs ≤ k → walk f xs (take k vs) s ≡ walk f xs vs s
  walk-take [] vs s k h = refl
  walk-take (x ∷ xs) [] s (suc k) h = refl
  walk-take (x ∷ xs) (v ∷ vs) s (suc k) h = walk-take xs vs (f x v s) k (le_of_suc-le-suc h)
  walk-take (x ∷ xs) vs s zero h = absurd (not-suc-le-zero h)

  -- folds whose steps agree give the same result
  pub walk_same : (g : A → B → S → S) → ((x : A) (v : B) (s : S) → f x v s ≡ g x v s)
      → (xs : List A) (vs : List B) (s : S) → walk f xs vs s ≡ walk g xs vs s
  walk_same g same [] vs s = refl
  walk_same g same (x ∷ xs) [] s = refl
  walk_same g same (x ∷ xs) (v ∷ vs) s = rw (same x v s) (walk_same g same xs vs (g x v s))

  -- a fold over mapped elements gives the same result if the steps agree
  pub walk_as : {C : Type 0} (g : C → B → S → S) (e : A → C) → ((x : A) (v : B) (s : S) → f x v s ≡ g (e x) v s)
      → (xs : List A) (vs : List B) (s : S) → walk f xs vs s ≡ walk g (map e xs) vs s
  walk_as g e same [] vs s = refl
  walk_as g e same (x ∷ xs) [] s = refl
  walk_as g e same (x ∷ xs) (v ∷ vs) s = rw (same x v s) (walk_as g e same xs vs (g (e x) v s))

module _ {A B C : Type 0} (f : A → B → List C → List C) (keeps : (x : A) (v : B) (s : List C) → length (f x v s) ≡ length s) where
  pub length-walk : (xs : List A) (vs : List B) (s : List C) → length (walk f xs vs s) ≡ length s
  length-walk [] vs s = refl
  length-walk (x ∷ xs) [] s = refl
  length-walk (x ∷ xs) (v ∷ vs) s = length-walk xs vs (f x v s) ∙ keeps x v s

-- a test of each element, from index i on
module _ {A : Type 0} (p : A → Bool) where
  pub all-step : (xs : List A) (i : ℕ) (d : A) → i < length xs → p (get_or xs i d) ≡ true → all p (drop i xs) ≡ all p (drop (i + 1) xs)
  all-step xs i d h e = rw (add-one, drop-cons xs i d h, e)

  pub all_fails : (xs : List A) (i : ℕ) (d : A) → i < length xs → p (get_or xs i d) ≡ false → all p (drop i xs) ≡ false
  all_fails xs i d h e = rw (drop-cons xs i d h, e)

  pub all_done : (xs : List A) (i : ℕ) → length xs ≤ i → all p (drop i xs) ≡ true
  all_done xs i h = rw (drop_of_length-le xs h)

  pub all_append : (xs ys : List A) → all p (xs ++ ys) ≡ (all p xs && all p ys)
  all_append [] ys = refl
  all_append (x ∷ xs) ys = rw (all_append xs ys) (go (p x))
    where
      go : (b : Bool) → (b && (all p xs && all p ys)) ≡ ((b && all p xs) && all p ys)
      go true = refl
      go false = refl

  -- testing p and q together is testing each of them
  pub all_both : (q : A → Bool) (xs : List A) → all (λ x. p x && q x) xs ≡ (all p xs && all q xs)
  all_both q [] = refl
  all_both q (x ∷ xs) = rw (all_both q xs) (and_swap (p x) (q x) (all p xs) (all q xs))

-- two lists compared element by element, from index i on
module _ {A : Type 0} (alike : A → A → Bool) where
  pub same_lengths : (xs ys : List A) → (length xs ≡ length ys → ⊥) → same_by alike xs ys ≡ false
  same_lengths [] [] n = absurd (n refl)
  same_lengths [] (y ∷ ys) n = refl
  same_lengths (x ∷ xs) [] n = refl
  same_lengths (x ∷ xs) (y ∷ ys) n = rw (same_lengths xs ys (λ e. n (ap suc e))) (and-false (alike x y))

  module _ (xs ys : List A) (d : A) (i : ℕ) (h : i < length xs) (l : i < length ys) where
    pub same_step : alike (get_or xs i d) (get_or ys i d) ≡ true
        → same_by alike (drop i xs) (drop i ys) ≡ same_by alike (drop (i + 1) xs) (drop (i + 1) ys)
    same_step e = rw (add-one, drop-cons xs i d, drop-cons ys i d, e)

    pub same_miss : alike (get_or xs i d) (get_or ys i d) ≡ false → same_by alike (drop i xs) (drop i ys) ≡ false
    same_miss e = rw (drop-cons xs i d, drop-cons ys i d, e)

  pub same_done : (xs ys : List A) (i : ℕ) → length xs ≤ i → length ys ≤ i → same_by alike (drop i xs) (drop i ys) ≡ true
  same_done xs ys i h l = rw (drop_of_length-le xs h, drop_of_length-le ys l)

  -- `sameBy` passes exactly when the lists are equally long and alike at each index
  pub same_at : (d : A) (xs ys : List A)
      → T (same_by alike xs ys) ↔ ((length xs ≡ length ys) × ((i : ℕ) → i < length xs → T (alike (get_or xs i d) (get_or ys i d))))
  same_at d [] [] = (λ h. (refl, λ i l. absurd (not-suc-le-zero l)), λ h. tt)
  same_at d [] (y ∷ ys) = (λ h. absurd h, λ h. absurd (omega arith))
  same_at d (x ∷ xs) [] = (λ h. absurd h, λ h. absurd (omega arith))
  same_at d (x ∷ xs) (y ∷ ys) = (
    λ h.
        let (here, later) = (and_iff (alike x y) (same_by alike xs ys)).0 h in
        let (e, g) = (same_at d xs ys).0 later in
        (ap suc e, at here g),
    λ h. (and_iff (alike x y) (same_by alike xs ys)).1 (h.1 0 (suc-le-suc zero-le), (same_at d xs ys).1 (omega arith, λ i l. h.1 (suc i) (suc-le-suc l))),
  )
    where
      at : T (alike x y) → ((i : ℕ) → i < length xs → T (alike (get_or xs i d) (get_or ys i d)))
          → (i : ℕ) → i < suc (length xs) → T (alike (get_or (x ∷ xs) i d) (get_or (y ∷ ys) i d))
      at here g zero l = here
      at here g (suc i) l = g i (le_of_suc-le-suc l)

-- lists of numbers that `same_numbers` passes are equal
pub numbers_equal : (xs ys : List ℕ) → T (same_numbers xs ys) → xs ≡ ys
numbers_equal [] [] h = refl
numbers_equal [] (y ∷ ys) h = absurd h
numbers_equal (x ∷ xs) [] h = absurd h
numbers_equal (x ∷ xs) (y ∷ ys) h =
    let (e, r) = (and_iff (eqb x y) (same_numbers xs ys)).0 h in
    ap₂ {C = List ℕ} (λ z zs. z ∷ zs) (eqb→eq x y e) (numbers_equal xs ys r)

pub numbers_same : (xs : List ℕ) → T (same_numbers xs xs)
numbers_same [] = tt
numbers_same (x ∷ xs) = (and_iff (eqb x x) (same_numbers xs xs)).1 (eqb_refl x, numbers_same xs)
