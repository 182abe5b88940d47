-- A list of n numbers below n is a permutation exactly when writing to the indices that it gives leaves none of the first n unwritten.
use Prim.Native.Nat.{ℕ, ◌≤◌, ◌<◌}
use native.Mathlib.Omega.{arith}
use mathlib.Core.Path.{◌≡◌, sym, subst, ◌∙◌}
use mathlib.Core.Logic.{inl, inr}
use mathlib.Core.Bool.{Bool, true, not}
use mathlib.Core.List.{List, [], ◌∷◌}
use lib.ListN.{length, get_or, take, replicate, length-replicate, get_or-replicate}
use lib.Seq.{get_or-take, length-take-le}
use lib.Dec.{T, eqb, ltb}
use Rattle.layout.specs.General.Lists.{has, all, keep, distinct, below, is_permutation}
use Rattle.layout.specs.Calls.Inverse.{inverse}
use Rattle.layout.proofs.Lists.Tests.{tested, passes, not_iff, eqb_iff, and_iff, same_tests}
use Rattle.layout.proofs.Lists.Members.{place_found, has-cons, has-keep, has-below, length-below, all-at}
use Rattle.layout.proofs.Lists.Distinct.{distinct_cons, distinct-keep, distinct-length, distinct-up_from, permutation-has}
use Rattle.utils.specs.Scattered.{scattered}
use Rattle.utils.proofs.Scattered.{length-scattered, scattered_other, length-inverse, inverse-at}
use Rattle.inverse_permutation.proofs.Inverted.{scattered_front}

-- ---- counting

-- a list that holds a duplicate-free one and is no longer is duplicate-free itself
distinct-full : (xs ys : List ℕ) → T (distinct ys) → ((y : ℕ) → T (has y ys) → T (has y xs)) → length xs ≤ length ys → T (distinct xs)
distinct-full [] ys once sub l = tt
distinct-full (x ∷ xs) ys once sub l = (distinct_cons x xs).1 (new, distinct-full xs rest (distinct-keep others ys once) inside enough)
  where
    others : ℕ → Bool
    others y = not (eqb y x)

    rest : List ℕ
    rest = keep others ys

    -- a repeat of x could be dropped, and the others would be too few
    new : T (has x xs) → ⊥
    new h = omega (
      arith,
      distinct-length ys xs once (λ y k. elim ((has-cons y x xs).0 (sub y k)) [
        | inl e ↦ subst (λ (v : ℕ). T (has v xs)) (sym e) h
        | inr m ↦ m
      ]),
    )

    inside : (y : ℕ) → T (has y rest) → T (has y xs)
    inside y h =
        let (k, n) = (has-keep others y ys).0 h in
        elim ((has-cons y x xs).0 (sub y k)) [ inl e ↦ absurd ((not_iff (eqb y x)).0 n ((eqb_iff y x).1 e)) | inr m ↦ m ]

    enough : length xs ≤ length rest
    enough = omega (
      arith,
      distinct-length ys (x ∷ rest) once (λ y k. (has-cons y x rest).1 (elim (tested (eqb y x)) [
        | inl t ↦ inl ((eqb_iff y x).0 t)
        | inr n ↦ inr ((has-keep others y ys).1 (k, (not_iff (eqb y x)).1 n))
      ])),
    )

-- ---- the table

pub length_front : (xs old : List ℕ) → length xs ≤ length old → length (take (length xs) (scattered 0 xs old)) ≡ length xs
length_front xs old room = length-take-le (length xs) (scattered 0 xs old) (omega (arith, length-scattered 0 xs old))

abbrev placed : ℕ → Bool
placed x = not (eqb x 4294967295)

-- if a number has been written to each of the first indices, the list is a permutation; if it is one, its inverse has been written there
pub filled-permutation : (xs : List ℕ) (n : ℕ) → length xs ≤ n → length xs ≤ 4294967295 → all (λ x. ltb x (length xs)) xs ≡ true
    → all (λ x. not (eqb x 4294967295)) (take (length xs) (scattered 0 xs (replicate n 4294967295))) ≡ is_permutation xs
filled-permutation xs n room few small = same_tests _ (is_permutation xs) (full, back)
  where
    old : List ℕ
    old = replicate n 4294967295

    front : List ℕ
    front = take (length xs) (scattered 0 xs old)

    long : length front ≡ length xs
    long = length_front xs old (omega (arith, length-replicate {A = ℕ} n 4294967295))

    covers : T (all placed front) → (y : ℕ) → T (has y (below (length xs))) → T (has y xs)
    covers h y k =
        let l : y < length xs = (has-below y (length xs)).0 k in
        elim (tested (has y xs)) [
          | inl m ↦ m
          | inr out ↦
              let e : get_or front y 0 ≡ 4294967295 =
              get_or-take (length xs) (scattered 0 xs old) y 0 l ∙ scattered_other 0 xs old y 0 out ∙ get_or-replicate n y 4294967295 0 (omega arith) in
              absurd ((not_iff (eqb (get_or front y 0) 4294967295)).0 ((all-at 0 placed front).0 h y (omega (arith, long))) ((eqb_iff _ _).1 e))
        ]

    full : T (all placed front) → T (is_permutation xs)
    full h = (and_iff (all (λ x. ltb x (length xs)) xs) (distinct xs)).1 (
      passes _ small,
      distinct-full xs (below (length xs)) (distinct-up_from 0 (length xs)) (covers h) (omega (arith, length-below (length xs))),
    )

    back : T (is_permutation xs) → T (all placed front)
    back p = subst (λ (l : List ℕ). T (all placed l)) (sym (scattered_front xs old p (omega (arith, length-replicate {A = ℕ} n 4294967295)))) (
        (all-at 0 placed (inverse xs)).1 (λ i l.
        let m : i < length xs = omega (arith, length-inverse xs) in
        (not_iff (eqb (get_or (inverse xs) i 0) 4294967295)).1 (λ t.
        omega (arith, (eqb_iff (get_or (inverse xs) i 0) 4294967295).0 t, inverse-at xs i m, (place_found i xs 0 ((permutation-has xs p i).1 m)).0)))
        )
