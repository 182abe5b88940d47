-- Duplicate-free lists: by index, appended, filtered, mapped, joined; bounds for their lengths; permutations.
use Prim.Native.Nat.{ℕ, zero, suc, ◌+◌, ◌≤◌, ◌<◌, zero-le, suc-le-suc}
use native.Mathlib.Nat.{le_of_suc-le-suc, not-suc-le-zero, suc_inj}
use native.Mathlib.Omega.{arith}
use mathlib.Core.Path.{◌≡◌, refl, sym, ap, subst}
use mathlib.Core.Logic.Iff
use mathlib.Core.Logic.{◌↔◌, inl, inr}
use mathlib.Core.Bool.{Bool, true, false, not, cond}
use mathlib.Core.List.{List, [], ◌∷◌, ◌++◌, map}
use lib.ListN.{length, get_or}
use lib.Dec.{T, eqb, ltb, eqb→eq, eqb_refl, ltb→lt, lt→ltb}
use Rattle.layout.specs.General.Lists.{has, all, distinct, keep, join, up_from, below, is_permutation}
use Rattle.layout.proofs.Lists.Tests.{and_iff, not_iff, tested}
use Rattle.layout.proofs.Lists.Members.{EveryAt, every_cons, has-cons, has-append, has-at, has_join, has-map, has-keep, has_get_or, has-up_from, has-below, all-at, all-has, length-up_from, length-below}

pub distinct_cons : (x : ℕ) (xs : List ℕ) → T (distinct (x ∷ xs)) ↔ ((T (has x xs) → ⊥) × T (distinct xs))
distinct_cons x xs = Iff.trans (and_iff (not (has x xs)) (distinct xs)) (Iff.and (not_iff (has x xs)) Iff.rfl)

-- the lists have no member in common
abbrev Apart : List ℕ → List ℕ → Type 0
Apart xs ys = (u : ℕ) → T (has u xs) → T (has u ys) → ⊥

pub distinct_append : (xs ys : List ℕ) → T (distinct (xs ++ ys)) ↔ (T (distinct xs) × T (distinct ys) × Apart xs ys)
distinct_append [] ys = (λ h. (tt, h, λ u k m. k), λ h. h.1)
distinct_append (x ∷ xs) ys = (
  λ h.
      let (new, rest) = (distinct_cons x (xs ++ ys)).0 h in
      let (left, right, apart) = (distinct_append xs ys).0 rest in (
        (distinct_cons x xs).1 (λ k. new ((has-append x xs ys).1 (inl k)), left),
        right,
        λ u k m. elim ((has-cons u x xs).0 k) [
          | inl e ↦ new ((has-append x xs ys).1 (inr (subst (λ (v : ℕ). T (has v ys)) e m)))
          | inr k' ↦ apart u k' m
        ],
      ),
  λ h.
      let (left, right, apart) = h in
      let (new, rest) = (distinct_cons x xs).0 left in
      (distinct_cons x (xs ++ ys)).1 (
        λ k. elim ((has-append x xs ys).0 k) [ inl m ↦ new m | inr m ↦ apart x ((has-cons x x xs).1 (inl refl)) m ],
        (distinct_append xs ys).1 (rest, right, λ u k m. apart u ((has-cons u x xs).1 (inr k)) m),
      ),
)

-- a duplicate-free list has different numbers at different indices
pub distinct-at : (d : ℕ) (xs : List ℕ) → T (distinct xs)
    → (i j : ℕ) → i < length xs → j < length xs → get_or xs i d ≡ get_or xs j d → i ≡ j
distinct-at d [] h i j l m e = absurd (not-suc-le-zero l)
distinct-at d (x ∷ xs) h zero zero l m e = refl
distinct-at d (x ∷ xs) h zero (suc j) l m e =
    absurd (((distinct_cons x xs).0 h).0 ((has-at d x xs).1 (j, le_of_suc-le-suc m, e)))
distinct-at d (x ∷ xs) h (suc i) zero l m e =
    absurd (((distinct_cons x xs).0 h).0 ((has-at d x xs).1 (i, le_of_suc-le-suc l, sym e)))
distinct-at d (x ∷ xs) h (suc i) (suc j) l m e =
    ap suc (distinct-at d xs ((distinct_cons x xs).0 h).1 i j (le_of_suc-le-suc l) (le_of_suc-le-suc m) e)

-- ---- keep, up_from, map, join

pub distinct-keep : (p : ℕ → Bool) (xs : List ℕ) → T (distinct xs) → T (distinct (keep p xs))
distinct-keep p [] h = tt
distinct-keep p (x ∷ xs) h = pick (p x) (distinct-keep p xs ((distinct_cons x xs).0 h).1)
  where
    pick : (b : Bool) → T (distinct (keep p xs)) → T (distinct (cond b (x ∷ keep p xs) (keep p xs)))
    pick true k = (distinct_cons x (keep p xs)).1 (λ m. ((distinct_cons x xs).0 h).0 ((has-keep p x xs).0 m).0, k)
    pick false k = k

pub distinct-up_from : (a k : ℕ) → T (distinct (up_from a k))
distinct-up_from a zero = tt
distinct-up_from a (suc k) = (distinct_cons a (up_from (suc a) k)).1 (
  λ h. let m : (suc a ≤ a) × (a < suc a + k) = (has-up_from a (suc a) k).0 h in omega arith,
  distinct-up_from (suc a) k,
)

-- f is injective on the members of xs
abbrev InjectiveOn : List ℕ → (ℕ → ℕ) → Type 0
InjectiveOn xs f = (x y : ℕ) → T (has x xs) → T (has y xs) → f x ≡ f y → x ≡ y

pub distinct-map : (f : ℕ → ℕ) (xs : List ℕ) → InjectiveOn xs f → T (distinct xs) → T (distinct (map f xs))
distinct-map f [] inj h = tt
distinct-map f (x ∷ xs) inj h =
    let (new, rest) = (distinct_cons x xs).0 h in
    (distinct_cons (f x) (map f xs)).1 (
      λ k.
          let (i, l, e) = (has-map 0 f (f x) xs).0 k in
          let m : T (has (get_or xs i 0) xs) = has_get_or xs i 0 l in
          let q : x ≡ get_or xs i 0 =
          inj x (get_or xs i 0) ((has-cons x x xs).1 (inl refl)) ((has-cons (get_or xs i 0) x xs).1 (inr m)) e in
          new (subst (λ (y : ℕ). T (has y xs)) (sym q) m),
      distinct-map f xs (λ y z k m. inj y z ((has-cons y x xs).1 (inr k)) ((has-cons z x xs).1 (inr m))) rest,
    )

module _ {A : Type 0} where
  -- the lists that f gives at different indices have no member in common
  abbrev ApartAt : A → (A → List ℕ) → List A → Type 0
  ApartAt d f us = (i j x : ℕ) → i < length us → j < length us
      → T (has x (f (get_or us i d))) → T (has x (f (get_or us j d))) → i ≡ j

  pub distinct-join : (d : A) (f : A → List ℕ) (us : List A)
      → T (distinct (join f us)) ↔ (EveryAt d (λ a. T (distinct (f a))) us × ApartAt d f us)
  distinct-join d f [] = (λ h. (λ i l. absurd (not-suc-le-zero l), λ i j x l. absurd (not-suc-le-zero l)), λ h. tt)
  distinct-join d f (a ∷ us) = (
    λ h.
        let (first, rest, apart) = (distinct_append (f a) (join f us)).0 h in
        let (each, once) = (distinct-join d f us).0 rest in
        ((every_cons d (λ b. T (distinct (f b))) a us).1 (first, each), places apart once),
    λ h.
        let (first, each) = (every_cons d (λ b. T (distinct (f b))) a us).0 h.0 in
        (distinct_append (f a) (join f us)).1 (
          first,
          (distinct-join d f us).1 (each, λ i j x l m k n. suc_inj (h.1 (suc i) (suc j) x (suc-le-suc l) (suc-le-suc m) k n)),
          λ x k n.
              let (j, l, m) = (has_join d f x us).0 n in
              let e : 0 ≡ suc j = h.1 0 (suc j) x (suc-le-suc zero-le) (suc-le-suc l) k m in
              omega arith,
        ),
  )
    where
      places : Apart (f a) (join f us) → ApartAt d f us → ApartAt d f (a ∷ us)
      places apart once zero zero x l m k n = refl
      places apart once zero (suc j) x l m k n = absurd (apart x k ((has_join d f x us).1 (j, le_of_suc-le-suc m, n)))
      places apart once (suc i) zero x l m k n = absurd (apart x n ((has_join d f x us).1 (i, le_of_suc-le-suc l, k)))
      places apart once (suc i) (suc j) x l m k n = ap suc (once i j x (le_of_suc-le-suc l) (le_of_suc-le-suc m) k n)

-- ---- counting

cond-length : (b : Bool) (x : ℕ) (xs : List ℕ) → length (cond b (x ∷ xs) xs) ≤ suc (length xs)
cond-length true x xs = omega arith
cond-length false x xs = omega arith

pub length-keep : (p : ℕ → Bool) (xs : List ℕ) → length (keep p xs) ≤ length xs
length-keep p [] = zero-le
length-keep p (x ∷ xs) =
    let a : length (keep p xs) ≤ length xs = length-keep p xs in
    let b : length (cond (p x) (x ∷ keep p xs) (keep p xs)) ≤ suc (length (keep p xs)) = cond-length (p x) x (keep p xs) in
    omega arith

-- filtering out a member makes the list shorter
length-keep-out : (p : ℕ → Bool) (x : ℕ) (xs : List ℕ) → T (has x xs) → (T (p x) → ⊥) → length (keep p xs) < length xs
length-keep-out p x [] h out = absurd h
length-keep-out p x (y ∷ ys) h out = elim ((has-cons x y ys).0 h) [
  | inl e ↦ here (p y) (λ k. out (subst (λ (z : ℕ). T (p z)) (sym e) k))
  | inr k ↦
      let a : length (keep p ys) < length ys = length-keep-out p x ys k out in
      let b : length (cond (p y) (y ∷ keep p ys) (keep p ys)) ≤ suc (length (keep p ys)) = cond-length (p y) y (keep p ys) in
      omega arith
]
  where
    here : (b : Bool) → (T b → ⊥) → length (cond b (y ∷ keep p ys) (keep p ys)) < suc (length ys)
    here true n = absurd (n tt)
    here false n = suc-le-suc (length-keep p ys)

-- a duplicate-free list is at most as long as a list that contains all its members
pub distinct-length : (xs ys : List ℕ) → T (distinct xs) → ((x : ℕ) → T (has x xs) → T (has x ys)) → length xs ≤ length ys
distinct-length [] ys h sub = zero-le
distinct-length (x ∷ xs) ys h sub =
    let (new, rest) = (distinct_cons x xs).0 h in
    let others : ℕ → Bool = λ y. not (eqb y x) in
    let a : length xs ≤ length (keep others ys) = distinct-length xs (keep others ys) rest (λ u k. (has-keep others u ys).1 (
      sub u ((has-cons u x xs).1 (inr k)),
      (not_iff (eqb u x)).1 (λ e. new (subst (λ (v : ℕ). T (has v xs)) (eqb→eq u x e) k)),
    )) in
    let out : T (others x) → ⊥ = λ k. (not_iff (eqb x x)).0 k (eqb_refl x) in
    omega (arith, length-keep-out others x ys (sub x ((has-cons x x xs).1 (inl refl))) out)

-- two duplicate-free lists with the same members have equal lengths
pub same_length : (xs ys : List ℕ) → T (distinct xs) → T (distinct ys) → ((x : ℕ) → T (has x xs) ↔ T (has x ys))
    → length xs ≡ length ys
same_length xs ys h k same =
    let a : length xs ≤ length ys = distinct-length xs ys h (λ x. (same x).0) in
    let b : length ys ≤ length xs = distinct-length ys xs k (λ x. (same x).1) in
    omega arith

-- ---- permutations of the numbers below the length

pub permutation-distinct : (xs : List ℕ) → T (is_permutation xs) → T (distinct xs)
permutation-distinct xs h = (simp and_iff at h).1

-- a permutation contains exactly these numbers
pub permutation-has : (xs : List ℕ) → T (is_permutation xs) → (x : ℕ) → T (has x xs) ↔ (x < length xs)
permutation-has xs h x = (λ k. bounded x k, λ l. elim (tested (has x xs)) [ inl k ↦ k | inr out ↦ absurd (full l out) ])
  where
    bounded : (y : ℕ) → T (has y xs) → y < length xs
    bounded y k = ltb→lt y (length xs) ((all-has (λ z. ltb z (length xs)) xs).0 (simp and_iff at h).0 y k)

    -- if x were missing, x and the list would be too many different numbers below the length
    full : x < length xs → (T (has x xs) → ⊥) → ⊥
    full l out =
        let n : ℕ = length xs in
        let a : suc n ≤ length (below n) = distinct-length (x ∷ xs) (below n)
        ((distinct_cons x xs).1 (out, permutation-distinct xs h))
        (λ y k. (has-below y n).1 (elim ((has-cons y x xs).0 k) [ inl e ↦ omega arith | inr m ↦ bounded y m ])) in
        omega (arith, length-up_from 0 n)

-- the list has different numbers at different indices
abbrev pub ApartPlaces : List ℕ → Type 0
ApartPlaces xs = (i j : ℕ) → i < length xs → j < length xs → get_or xs i 0 ≡ get_or xs j 0 → i ≡ j

distinct-by : (xs : List ℕ) → ApartPlaces xs → T (distinct xs)
distinct-by [] h = tt
distinct-by (x ∷ xs) h = (distinct_cons x xs).1 (
  λ k.
      let (i, l, e) = (has-at 0 x xs).0 k in
      let q : 0 ≡ suc i = h 0 (suc i) (suc-le-suc zero-le) (suc-le-suc l) e in
      omega arith,
  distinct-by xs (λ i j l m e. suc_inj (h (suc i) (suc j) (suc-le-suc l) (suc-le-suc m) e)),
)

-- a list with different numbers at different indices, all below its length, is a permutation
pub permutation-by : (xs : List ℕ) → ((i : ℕ) → i < length xs → get_or xs i 0 < length xs) → ApartPlaces xs → T (is_permutation xs)
permutation-by xs small apart = (and_iff (all (λ x. ltb x (length xs)) xs) (distinct xs)).1 (
  (all-at 0 (λ x. ltb x (length xs)) xs).1 (λ i l. lt→ltb (get_or xs i 0) (length xs) (small i l)),
  distinct-by xs apart,
)

pub permutation-below : (k : ℕ) → T (is_permutation (below k))
permutation-below k = (and_iff (all (λ x. ltb x (length (below k))) (below k)) (distinct (below k))).1 (
  (all-has (λ x. ltb x (length (below k))) (below k)).1 (λ x h.
      lt→ltb x (length (below k)) (omega (arith, (has-below x k).0 h, length-below k))),
  distinct-up_from 0 k,
)
