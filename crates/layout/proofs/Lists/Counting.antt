-- The number of elements of a list that pass a test.
use Prim.Native.Nat.{ℕ, zero, suc, ◌+◌, ◌≤◌, ◌<◌, zero-le}
use native.Mathlib.Nat.{not-suc-le-zero, le_of_suc-le-suc, suc_inj}
use native.Mathlib.Omega.{arith}
use mathlib.Core.Path.{◌≡◌, refl, ap, ◌∙◌, fun_ext}
use mathlib.Core.Bool.{Bool, true, false, cond, ◌&&◌, and-true, and-false}
use mathlib.Core.List.{List, [], ◌∷◌, ◌++◌, map}
use lib.ListN.{length, get_or}
use lib.Dec.{T}
use Rattle.layout.specs.General.Lists.{keep, sum, join}
use Rattle.layout.proofs.Lists.Tests.{cond_passed, cond_failed}

-- ---- the number of elements that pass a test

module _ {A : Type 0} where
  abbrev pub count_if : (A → Bool) → List A → ℕ
  count_if p xs = length (keep p xs)

  pub count-cons : (p : A → Bool) (x : A) (xs : List A) → count_if p (x ∷ xs) ≡ cond (p x) 1 0 + count_if p xs
  count-cons p x xs = pick (p x)
    where
      pick : (b : Bool) → length (cond b (x ∷ keep p xs) (keep p xs)) ≡ cond b 1 0 + count_if p xs
      pick true = omega arith
      pick false = omega arith

  pub count-append : (p : A → Bool) (xs ys : List A) → count_if p (xs ++ ys) ≡ count_if p xs + count_if p ys
  count-append p [] ys = omega arith
  count-append p (x ∷ xs) ys = omega (arith, count-cons p x (xs ++ ys), count-cons p x xs, count-append p xs ys)

  -- it is the sum with 1 for each element that passes
  pub count-sum : (p : A → Bool) (xs : List A) → count_if p xs ≡ sum (map (λ x. cond (p x) 1 0) xs)
  count-sum p [] = refl
  count-sum p (x ∷ xs) = omega (arith, count-cons p x xs, count-sum p xs)

  pub count_none : (xs : List A) → count_if (λ x. false) xs ≡ 0
  count_none [] = refl
  count_none (x ∷ xs) = count_none xs

  -- where one test implies another, its count is at most the other's
  pub count-le : (p q : A → Bool) (xs : List A) → ((x : A) → T (p x) → T (q x)) → count_if p xs ≤ count_if q xs
  count-le p q [] h = zero-le
  count-le p q (x ∷ xs) h = omega (arith, count-cons p x xs, count-cons q x xs, one (p x) (q x) (h x), count-le p q xs h)
    where
      one : (a b : Bool) → (T a → T b) → cond a 1 0 ≤ cond b 1 0
      one true true f = omega arith
      one true false f = absurd (f tt)
      one false b f = zero-le

  -- a test that no element passes counts 0
  pub count_nowhere : (p : A → Bool) (d : A) (xs : List A) → ((i : ℕ) → i < length xs → T (p (get_or xs i d)) → ⊥) → count_if p xs ≡ 0
  count_nowhere p d [] h = refl
  count_nowhere p d (x ∷ xs) h =
      ap length (cond_failed (p x) (x ∷ keep p xs) (keep p xs) (h 0 (omega arith)))
      ∙ count_nowhere p d xs (λ i l. h (suc i) (omega arith))

  -- a test that passes at just one index counts 1
  pub count-once : (p : A → Bool) (d : A) (xs : List A) (i : ℕ) → i < length xs → T (p (get_or xs i d))
      → ((j : ℕ) → j < length xs → T (p (get_or xs j d)) → j ≡ i) → count_if p xs ≡ 1
  count-once p d [] i l h alone = absurd (not-suc-le-zero l)
  count-once p d (x ∷ xs) zero l h alone =
      ap length (cond_passed (p x) (x ∷ keep p xs) (keep p xs) h)
      ∙ ap suc (count_nowhere p d xs (λ j m k. let e : suc j ≡ 0 = alone (suc j) (omega arith) k in omega arith))
  count-once p d (x ∷ xs) (suc i) l h alone =
      ap length (cond_failed (p x) (x ∷ keep p xs) (keep p xs) (λ k. let e : 0 ≡ suc i = alone 0 (omega arith) k in omega arith))
      ∙ count-once p d xs i (le_of_suc-le-suc l) h (λ j m k. suc_inj (alone (suc j) (omega arith) k))

  pub count_same : (p q : A → Bool) (xs : List A) → ((x : A) → p x ≡ q x) → count_if p xs ≡ count_if q xs
  count_same p q xs h = ap (λ (r : A → Bool). count_if r xs) (fun_ext h)

  -- a second test that does not depend on the element
  pub count-and : (p : A → Bool) (b : Bool) (xs : List A) → count_if (λ x. p x && b) xs ≡ cond b (count_if p xs) 0
  count-and p true xs = simp and-true
  count-and p false xs = simp and-false (count_none xs)

module _ {A B : Type 0} where
  pub count_map : (p : B → Bool) (f : A → B) (xs : List A) → count_if p (map f xs) ≡ count_if (λ x. p (f x)) xs
  count_map p f [] = refl
  count_map p f (x ∷ xs) = omega (arith, count-cons p (f x) (map f xs), count-cons (λ y. p (f y)) x xs, count_map p f xs)

  pub count-join : (p : B → Bool) (g : A → List B) (xs : List A) → count_if p (join g xs) ≡ sum (map (λ x. count_if p (g x)) xs)
  count-join p g [] = refl
  count-join p g (x ∷ xs) = omega (arith, count-append p (g x) (join g xs), count-join p g xs)
