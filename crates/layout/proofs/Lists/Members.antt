-- Laws of membership (`has`), and of `all`, `keep`, `below`, `join` and `map` in terms of members.
use Prim.Native.Nat.{ℕ, zero, suc, ◌+◌, ◌≤◌, ◌<◌, zero-le, suc-le-suc}
use native.Mathlib.Nat.{le_of_suc-le-suc, not-suc-le-zero, eq-or-lt_of_le}
use native.Mathlib.Omega.{arith}
use mathlib.Core.Path.{◌≡◌, refl, sym, ap, subst, ◌∙◌}
use mathlib.Core.Logic.Iff
use mathlib.Core.Logic.{◌↔◌, ◌⊎◌, inl, inr, ⊎_elim}
use mathlib.Core.Bool.{Bool, true, false, cond, ◌&&◌}
use mathlib.Core.List.{List, [], ◌∷◌, ◌++◌, map}
use lib.ListN.{length, get_or, set, replicate}
use lib.Seq.{get_or-set_same, get_or-set_other}
use lib.Dec.{T, eqb, eqb→eq}
use Rattle.layout.specs.General.Lists.{has, all, keep, join, up_from, below, place_of}
use Rattle.layout.proofs.Lists.Tests.{eqb_iff, and_iff, or_iff, tested, cond_passed, cond_failed, either_iff, either_assoc}

-- ---- elements by index

module _ {A : Type 0} where
  -- some element of the list satisfies P; d is the default of `get_or`
  abbrev SomeAt : A → (A → Type 0) → List A → Type 0
  SomeAt d P xs = (i : ℕ) × (i < length xs) × P (get_or xs i d)

  -- every element of the list satisfies P
  abbrev pub EveryAt : A → (A → Type 0) → List A → Type 0
  EveryAt d P xs = (i : ℕ) → i < length xs → P (get_or xs i d)

  some-nil : (d : A) (P : A → Type 0) → SomeAt d P [] ↔ ⊥
  some-nil d P = (λ s. not-suc-le-zero s.1, absurd)

  some-cons : (d : A) (P : A → Type 0) (x : A) (xs : List A) → SomeAt d P (x ∷ xs) ↔ (P x ⊎ SomeAt d P xs)
  some-cons d P x xs = (
    λ s. from s.0 s.1 s.2,
    ⊎_elim (λ h. (zero, suc-le-suc zero-le, h)) (λ s. (suc s.0, suc-le-suc s.1, s.2)),
  )
    where
      from : (i : ℕ) → i < suc (length xs) → P (get_or (x ∷ xs) i d) → P x ⊎ SomeAt d P xs
      from zero l h = inl h
      from (suc i) l h = inr (i, le_of_suc-le-suc l, h)

  pub every_cons : (d : A) (P : A → Type 0) (x : A) (xs : List A) → EveryAt d P (x ∷ xs) ↔ (P x × EveryAt d P xs)
  every_cons d P x xs = (λ e. (e zero (suc-le-suc zero-le), λ i l. e (suc i) (suc-le-suc l)), λ h. to h.0 h.1)
    where
      to : P x → EveryAt d P xs → (i : ℕ) → i < suc (length xs) → P (get_or (x ∷ xs) i d)
      to h e zero l = h
      to h e (suc i) l = e i (le_of_suc-le-suc l)

module _ {A B : Type 0} where
  pub get_or_map : (f : A → B) (xs : List A) (i : ℕ) (a : A) (b : B) → i < length xs → get_or (map f xs) i b ≡ f (get_or xs i a)
  get_or_map f [] i a b l = absurd (not-suc-le-zero l)
  get_or_map f (x ∷ xs) zero a b l = refl
  get_or_map f (x ∷ xs) (suc i) a b l = get_or_map f xs i a b (le_of_suc-le-suc l)

module _ {A : Type 0} where
  -- inside the list, `get_or` does not depend on its default
  pub get_or_default : (xs : List A) (i : ℕ) (d e : A) → i < length xs → get_or xs i d ≡ get_or xs i e
  get_or_default [] i d e l = absurd (not-suc-le-zero l)
  get_or_default (x ∷ xs) zero d e l = refl
  get_or_default (x ∷ xs) (suc i) d e l = get_or_default xs i d e (le_of_suc-le-suc l)

-- the entry at index o after index q is set
pub set-read : {A : Type 0} (ws : List A) (q o : ℕ) (u w d : A) → o < length ws → (q ≡ o → u ≡ w)
    → get_or (set ws q u) o d ≡ cond (eqb q o) w (get_or ws o d)
set-read {A} ws q o u w d l same = go (tested (eqb q o))
  where
    go : T (eqb q o) ⊎ (T (eqb q o) → ⊥) → get_or (set ws q u) o d ≡ cond (eqb q o) w (get_or ws o d)
    go (inl t) =
        let e = eqb→eq q o t in
        ap (λ (k : ℕ). get_or (set ws k u) o d) e ∙ get_or-set_same ws o u d l ∙ same e ∙ sym (cond_passed (eqb q o) w (get_or ws o d) t)
    go (inr n) =
        get_or-set_other ws q o u d (λ e. n ((eqb_iff q o).1 (sym e))) ∙ sym (cond_failed (eqb q o) w (get_or ws o d) n)

-- ---- has

pub has-cons : (x y : ℕ) (ys : List ℕ) → T (has x (y ∷ ys)) ↔ ((x ≡ y) ⊎ T (has x ys))
has-cons x y ys = Iff.trans (or_iff (eqb x y) (has x ys)) (either_iff (eqb_iff x y) Iff.rfl)

pub has-append : (x : ℕ) (xs ys : List ℕ) → T (has x (xs ++ ys)) ↔ (T (has x xs) ⊎ T (has x ys))
has-append x [] ys = (inr, ⊎_elim absurd (λ h. h))
has-append x (y ∷ xs) ys =
    Iff.trans (has-cons x y (xs ++ ys))
    (Iff.trans (either_iff Iff.rfl (has-append x xs ys))
    (Iff.trans (Iff.symm either_assoc) (either_iff (Iff.symm (has-cons x y xs)) Iff.rfl)))

-- x is a member exactly when it is at some index
pub has-at : (d x : ℕ) (xs : List ℕ) → T (has x xs) ↔ SomeAt d (λ y. x ≡ y) xs
has-at d x [] = Iff.symm (some-nil d (λ y. x ≡ y))
has-at d x (y ∷ ys) =
    Iff.trans (has-cons x y ys)
    (Iff.trans (either_iff Iff.rfl (has-at d x ys)) (Iff.symm (some-cons d (λ z. x ≡ z) y ys)))

module _ {A : Type 0} where
  pub has-map : (d : A) (f : A → ℕ) (y : ℕ) (xs : List A) → T (has y (map f xs)) ↔ SomeAt d (λ x. y ≡ f x) xs
  has-map d f y [] = Iff.symm (some-nil d (λ x. y ≡ f x))
  has-map d f y (x ∷ xs) =
      Iff.trans (has-cons y (f x) (map f xs))
      (Iff.trans (either_iff Iff.rfl (has-map d f y xs)) (Iff.symm (some-cons d (λ z. y ≡ f z) x xs)))

  pub has_join : (d : A) (f : A → List ℕ) (x : ℕ) (us : List A)
      → T (has x (join f us)) ↔ SomeAt d (λ a. T (has x (f a))) us
  has_join d f x [] = Iff.symm (some-nil d (λ a. T (has x (f a))))
  has_join d f x (a ∷ us) =
      Iff.trans (has-append x (f a) (join f us))
      (Iff.trans (either_iff Iff.rfl (has_join d f x us)) (Iff.symm (some-cons d (λ b. T (has x (f b))) a us)))

  pub all-at : (d : A) (p : A → Bool) (xs : List A) → T (all p xs) ↔ EveryAt d (λ x. T (p x)) xs
  all-at d p [] = (λ h i l. absurd (not-suc-le-zero l), λ h. tt)
  all-at d p (x ∷ xs) =
      Iff.trans (and_iff (p x) (all p xs))
      (Iff.trans (Iff.and Iff.rfl (all-at d p xs)) (Iff.symm (every_cons d (λ y. T (p y)) x xs)))

-- if all elements of xs and of ys pass a test, so do all of xs ++ ys
pub all_of_both : {A : Type 0} (p : A → Bool) (xs ys : List A) → T (all p xs) → T (all p ys) → T (all p (xs ++ ys))
all_of_both p [] ys h k = k
all_of_both p (x ∷ xs) ys h k =
    let (here, rest) = (and_iff (p x) (all p xs)).0 h in
    (and_iff (p x) (all p (xs ++ ys))).1 (here, all_of_both p xs ys rest k)

-- if p implies q, then `all p` implies `all q`
pub all_so : {A : Type 0} (p q : A → Bool) → ((x : A) → T (p x) → T (q x)) → (xs : List A) → T (all p xs) → T (all q xs)
all_so p q h [] k = tt
all_so p q h (x ∷ xs) k =
    let (here, rest) = (and_iff (p x) (all p xs)).0 k in
    (and_iff (q x) (all q xs)).1 (h x here, all_so p q h xs rest)

-- setting an element to one that passes keeps `all`
pub all_set : {A : Type 0} (p : A → Bool) (xs : List A) (i : ℕ) (x : A) → T (all p xs) → T (p x) → T (all p (set xs i x))
all_set p [] i x h k = tt
all_set p (y ∷ ys) zero x h k = (and_iff (p x) (all p ys)).1 (k, ((and_iff (p y) (all p ys)).0 h).1)
all_set p (y ∷ ys) (suc i) x h k =
    let (here, rest) = (and_iff (p y) (all p ys)).0 h in
    (and_iff (p y) (all p (set ys i x))).1 (here, all_set p ys i x rest k)

-- all of k copies of a passing element pass
pub all_replicate : {A : Type 0} (p : A → Bool) (k : ℕ) (x : A) → T (p x) → T (all p (replicate k x))
all_replicate p zero x h = tt
all_replicate p (suc k) x h = (and_iff (p x) (all p (replicate k x))).1 (h, all_replicate p k x h)

pub all_map : {A B : Type 0} (p : B → Bool) (f : A → B) (xs : List A) → all p (map f xs) ≡ all (λ x. p (f x)) xs
all_map p f [] = refl
all_map p f (x ∷ xs) = ap (λ (b : Bool). p (f x) && b) (all_map p f xs)

-- `all` passes exactly when every member passes
pub all-has : (p : ℕ → Bool) (xs : List ℕ) → T (all p xs) ↔ ((x : ℕ) → T (has x xs) → T (p x))
all-has p xs = Iff.trans (all-at 0 p xs) (
  λ e x h. let (i, l, q) = (has-at 0 x xs).0 h in subst (λ (y : ℕ). T (p y)) (sym q) (e i l),
  λ e i l. e (get_or xs i 0) ((has-at 0 (get_or xs i 0) xs).1 (i, l, refl)),
)

pub has_get_or : (xs : List ℕ) (i d : ℕ) → i < length xs → T (has (get_or xs i d) xs)
has_get_or xs i d l = (has-at d (get_or xs i d) xs).1 (i, l, refl)

pub has-none : (x : ℕ) (xs : List ℕ) → length xs ≡ 0 → T (has x xs) → ⊥
has-none x xs e h = let (i, l, q) = (has-at 0 x xs).0 h in omega arith

pub some_member : (xs : List ℕ) → ¬ (length xs ≡ 0) → (x : ℕ) × T (has x xs)
some_member [] n = absurd (n refl)
some_member (x ∷ xs) n = (x, (has-cons x x xs).1 (inl refl))

-- a member is at the index that `place_of` gives
pub place_found : (u : ℕ) (xs : List ℕ) (d : ℕ) → T (has u xs) → (place_of u xs < length xs) × (get_or xs (place_of u xs) d ≡ u)
place_found u [] d h = absurd h
place_found u (x ∷ xs) d h = go (eqb u x) (λ k. sym ((eqb_iff u x).0 k)) (λ n. elim ((has-cons u x xs).0 h) [
  | inl e ↦ absurd (n ((eqb_iff u x).1 e))
  | inr k ↦ place_found u xs d k
])
  where
    go : (b : Bool) → (T b → x ≡ u) → ((T b → ⊥) → (place_of u xs < length xs) × (get_or xs (place_of u xs) d ≡ u))
        → (cond b 0 (suc (place_of u xs)) < suc (length xs)) × (get_or (x ∷ xs) (cond b 0 (suc (place_of u xs))) d ≡ u)
    go true e rest = (omega arith, e tt)
    go false e rest = let (l, q) = rest (λ h. h) in (omega arith, q)

-- ---- keep

has-cond : (b : Bool) (x y : ℕ) (ys : List ℕ) → T (has x (cond b (y ∷ ys) ys)) ↔ (((x ≡ y) × T b) ⊎ T (has x ys))
has-cond true x y ys = Iff.trans (has-cons x y ys) (either_iff (λ e. (e, tt), λ e. e.0) Iff.rfl)
has-cond false x y ys = (inr, ⊎_elim (λ e. absurd e.1) (λ h. h))

pub has-keep : (p : ℕ → Bool) (x : ℕ) (xs : List ℕ) → T (has x (keep p xs)) ↔ (T (has x xs) × T (p x))
has-keep p x [] = (λ h. (h, absurd h), λ h. h.0)
has-keep p x (y ∷ ys) = (
  λ h. elim ((has-cond (p y) x y (keep p ys)).0 h) [
    | inl e ↦ ((has-cons x y ys).1 (inl e.0), subst (λ (z : ℕ). T (p z)) (sym e.0) e.1)
    | inr k ↦ ((has-cons x y ys).1 (inr ((has-keep p x ys).0 k).0), ((has-keep p x ys).0 k).1)
  ],
  λ h. (has-cond (p y) x y (keep p ys)).1 (elim ((has-cons x y ys).0 h.0) [
    | inl e ↦ inl (e, subst (λ (z : ℕ). T (p z)) e h.1)
    | inr k ↦ inr ((has-keep p x ys).1 (k, h.1))
  ]),
)

-- ---- up_from and below

pub length-up_from : (a k : ℕ) → length (up_from a k) ≡ k
length-up_from a zero = refl
length-up_from a (suc k) = ap suc (length-up_from (suc a) k)

pub get_or-up_from : (a k i d : ℕ) → i < k → get_or (up_from a k) i d ≡ a + i
get_or-up_from a zero i d l = absurd (not-suc-le-zero l)
get_or-up_from a (suc k) zero d l = omega arith
get_or-up_from a (suc k) (suc i) d l = get_or-up_from (suc a) k i d (le_of_suc-le-suc l) ∙ omega arith

pub has-up_from : (x a k : ℕ) → T (has x (up_from a k)) ↔ ((a ≤ x) × (x < a + k))
has-up_from x a zero = (λ h. absurd h, λ h. omega arith)
has-up_from x a (suc k) = (
  λ h. elim ((has-cons x a (up_from (suc a) k)).0 h) [
    | inl e ↦ omega arith
    | inr m ↦ let m' : (suc a ≤ x) × (x < suc a + k) = (has-up_from x (suc a) k).0 m in omega arith
  ],
  λ h. (has-cons x a (up_from (suc a) k)).1 (elim (eq-or-lt_of_le h.0) [
    | inl e ↦ inl (sym e)
    | inr l ↦ inr ((has-up_from x (suc a) k).1 (l, omega arith))
  ]),
)

pub length-below : (k : ℕ) → length (below k) ≡ k
length-below k = length-up_from 0 k

pub get_or-below : (k i d : ℕ) → i < k → get_or (below k) i d ≡ i
get_or-below k i d l = get_or-up_from 0 k i d l ∙ omega arith

pub has-below : (x k : ℕ) → T (has x (below k)) ↔ (x < k)
has-below x k = Iff.trans (has-up_from x 0 k) (omega arith)
