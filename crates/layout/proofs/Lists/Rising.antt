-- Strictly increasing and non-decreasing lists.
use Prim.Native.Nat.{ℕ, zero, suc, ◌+◌, ◌≤◌, ◌<◌}
use native.Mathlib.Nat.{le_of_suc-le-suc, not-suc-le-zero}
use native.Mathlib.Omega.{arith}
use mathlib.Core.Path.{◌≡◌, refl, sym, ap, ◌∙◌}
use mathlib.Core.Logic.{◌↔◌, inl, inr}
use mathlib.Core.Bool.{Bool, true, false, cond}
use mathlib.Core.List.{List, [], ◌∷◌, ◌++◌, map}
use lib.ListN.{length, get_or}
use lib.Dec.{T, leb, ltb, leb→le, le→leb, ltb→lt, lt→ltb}
use Rattle.layout.specs.General.Lists.{has, distinct, rises, never_falls, keep, place_in, up_from}
use Rattle.layout.proofs.Lists.Tests.{and_iff, leb_iff, ltb_iff, cond_passed, cond_failed}
use Rattle.layout.proofs.Lists.Members.{has-cons, has-append, has-at, has-map, has-keep, has-up_from, has_get_or}
use Rattle.layout.proofs.Lists.Distinct.{distinct_cons}
use Rattle.layout.proofs.Lists.Counting.{count-le}

-- a list strictly increases exactly when its first number is below all others and these strictly increase
pub rises-cons : (x : ℕ) (xs : List ℕ) → T (rises (x ∷ xs)) ↔ (((y : ℕ) → T (has y xs) → x < y) × T (rises xs))
rises-cons x [] = (λ h. (λ y k. absurd k, tt), λ h. tt)
rises-cons x (y ∷ ys) = (
  λ h.
      let l : x < y = (simp (and_iff, ltb_iff) at h).0 in
      let r : T (rises (y ∷ ys)) = (simp and_iff at h).1 in
      (λ z k. elim ((has-cons z y ys).0 k) [ inl e ↦ omega arith | inr m ↦ omega (arith, ((rises-cons y ys).0 r).0 z m) ], r),
  λ h. (and_iff (ltb x y) (rises (y ∷ ys))).1 (lt→ltb x y (h.0 y ((has-cons y y ys).1 (inl refl))), h.1),
)

pub rises-up_from : (a k : ℕ) → T (rises (up_from a k))
rises-up_from a zero = tt
rises-up_from a (suc k) =
    (rises-cons a (up_from (suc a) k)).1 (λ y h. ((has-up_from y (suc a) k).0 h).0, rises-up_from (suc a) k)

-- two strictly increasing lists, all numbers of the first below those of the second, append to a strictly increasing list
pub rises-append : (xs ys : List ℕ) → T (rises xs) → T (rises ys) → ((x y : ℕ) → T (has x xs) → T (has y ys) → x < y)
    → T (rises (xs ++ ys))
rises-append [] ys h k l = k
rises-append (x ∷ xs) ys h k l =
    let (above, rest) = (rises-cons x xs).0 h in
    (rises-cons x (xs ++ ys)).1 (
      λ y m. elim ((has-append y xs ys).0 m) [ inl n ↦ above y n | inr n ↦ l x y ((has-cons x x xs).1 (inl refl)) n ],
      rises-append xs ys rest k (λ z y m n. l z y ((has-cons z x xs).1 (inr m)) n),
    )

pub rises-raised : (d : ℕ) (xs : List ℕ) → T (rises xs) → T (rises (map (λ x. d + x) xs))
rises-raised d [] h = tt
rises-raised d (x ∷ xs) h =
    let (above, rest) = (rises-cons x xs).0 h in
    (rises-cons (d + x) (map (λ x. d + x) xs)).1 (
      λ y m. let (i, l, e) = (has-map 0 (λ x. d + x) y xs).0 m in omega (arith, e, above (get_or xs i 0) (has_get_or xs i 0 l)),
      rises-raised d xs rest,
    )

-- the same for non-decreasing lists
pub never_append : (xs ys : List ℕ) → T (never_falls xs) → T (never_falls ys) → ((x y : ℕ) → T (has x xs) → T (has y ys) → x ≤ y)
    → T (never_falls (xs ++ ys))
never_append [] ys h k l = k
never_append (x ∷ []) [] h k l = tt
never_append (x ∷ []) (y ∷ ys) h k l =
    (and_iff (leb x y) (never_falls (y ∷ ys))).1
    (le→leb x y (l x y ((has-cons x x []).1 (inl refl)) ((has-cons y y ys).1 (inl refl))), k)
never_append (x ∷ z ∷ xs) ys h k l =
    let (low, rest) = (and_iff (leb x z) (never_falls (z ∷ xs))).0 h in
    (and_iff (leb x z) (never_falls (z ∷ (xs ++ ys)))).1
    (low, never_append (z ∷ xs) ys rest k (λ w y m n. l w y ((has-cons w x (z ∷ xs)).1 (inr m)) n))

pub never_raised : (d : ℕ) (xs : List ℕ) → T (never_falls xs) → T (never_falls (map (λ x. d + x) xs))
never_raised d [] h = tt
never_raised d (x ∷ []) h = tt
never_raised d (x ∷ y ∷ xs) h =
    let (low, rest) = (and_iff (leb x y) (never_falls (y ∷ xs))).0 h in
    (and_iff (leb (d + x) (d + y)) (never_falls (map (λ x. d + x) (y ∷ xs)))).1
    (le→leb (d + x) (d + y) (omega (arith, leb→le x y low)), never_raised d (y ∷ xs) rest)

pub rises-keep : (p : ℕ → Bool) (xs : List ℕ) → T (rises xs) → T (rises (keep p xs))
rises-keep p [] h = tt
rises-keep p (x ∷ xs) h = pick (p x) (rises-keep p xs ((rises-cons x xs).0 h).1)
  where
    pick : (b : Bool) → T (rises (keep p xs)) → T (rises (cond b (x ∷ keep p xs) (keep p xs)))
    pick true k = (rises-cons x (keep p xs)).1 (λ y m. ((rises-cons x xs).0 h).0 y ((has-keep p y xs).0 m).0, k)
    pick false k = k

pub rises-distinct : (xs : List ℕ) → T (rises xs) → T (distinct xs)
rises-distinct [] h = tt
rises-distinct (x ∷ xs) h =
    let (above, rest) = (rises-cons x xs).0 h in
    (distinct_cons x xs).1 (λ k. omega (arith, above x k), rises-distinct xs rest)

pub rises-at : (xs : List ℕ) (i j d : ℕ) → T (rises xs) → i < j → j < length xs → get_or xs i d < get_or xs j d
rises-at [] i j d h l m = absurd (not-suc-le-zero m)
rises-at (x ∷ xs) i zero d h l m = absurd (not-suc-le-zero l)
rises-at (x ∷ xs) zero (suc j) d h l m = ((rises-cons x xs).0 h).0 (get_or xs j d) (has_get_or xs j d (le_of_suc-le-suc m))
rises-at (x ∷ xs) (suc i) (suc j) d h l m =
    rises-at xs i j d ((rises-cons x xs).0 h).1 (le_of_suc-le-suc l) (le_of_suc-le-suc m)

-- a strictly increasing list is non-decreasing
pub rises_never_fall : (rs : List ℕ) → T (rises rs) → T (never_falls rs)
rises_never_fall [] h = tt
rises_never_fall (r ∷ []) h = tt
rises_never_fall (r ∷ s ∷ rs) h =
    let (l, k) = (and_iff (ltb r s) (rises (s ∷ rs))).0 h in
    (and_iff (leb r s) (never_falls (s ∷ rs))).1 (le→leb r s (omega (arith, ltb→lt r s l)), rises_never_fall (s ∷ rs) k)

-- in a non-decreasing list a later number is not below an earlier one
pub falls_never : (xs : List ℕ) (i : ℕ) → T (never_falls xs) → suc i < length xs → get_or xs i 0 ≤ get_or xs (suc i) 0
falls_never [] i h l = absurd (not-suc-le-zero l)
falls_never (x ∷ []) i h l = absurd (omega arith)
falls_never (x ∷ y ∷ ys) zero h l = (simp (and_iff, leb_iff) at h).0
falls_never (x ∷ y ∷ ys) (suc i) h l = falls_never (y ∷ ys) i (simp and_iff at h).1 (le_of_suc-le-suc l)

pub falls_never_far : (xs : List ℕ) (i k : ℕ) → T (never_falls xs) → i + k < length xs → get_or xs i 0 ≤ get_or xs (i + k) 0
falls_never_far xs i zero h l = let e : get_or xs (i + 0) 0 ≡ get_or xs i 0 = ap (λ (n : ℕ). get_or xs n 0) (omega arith) in omega arith
falls_never_far xs i (suc k) h l =
    let e : get_or xs (i + suc k) 0 ≡ get_or xs (suc (i + k)) 0 = ap (λ (n : ℕ). get_or xs n 0) (omega arith) in
    omega (arith, falls_never_far xs i k h (omega arith), falls_never xs (i + k) h (omega arith))

-- ---- indices

pub keep-none : (p : ℕ → Bool) (xs : List ℕ) → ((x : ℕ) → T (has x xs) → T (p x) → ⊥) → keep p xs ≡ []
keep-none p [] h = refl
keep-none p (x ∷ xs) h =
    cond_failed (p x) (x ∷ keep p xs) (keep p xs) (h x ((has-cons x x xs).1 (inl refl)))
    ∙ keep-none p xs (λ y k. h y ((has-cons y x xs).1 (inr k)))

-- in a strictly increasing list `place_in` of the number at index i is i
pub place_at : (xs : List ℕ) (i d : ℕ) → T (rises xs) → i < length xs → place_in xs (get_or xs i d) ≡ i
place_at [] i d h l = absurd (not-suc-le-zero l)
place_at (x ∷ xs) zero d h l =
    ap length (keep-none (λ w. ltb w x) (x ∷ xs) (λ y k m.
    let n : y < x = (ltb_iff y x).0 m in
    elim ((has-cons y x xs).0 k) [ inl e ↦ omega arith | inr q ↦ omega (arith, ((rises-cons x xs).0 h).0 y q) ]))
place_at (x ∷ xs) (suc i) d h l =
    let (above, rest) = (rises-cons x xs).0 h in
    let m : i < length xs = le_of_suc-le-suc l in
    let v : ℕ = get_or xs i d in
    let lower : List ℕ = keep (λ w. ltb w v) xs in
    ap length (cond_passed (ltb x v) (x ∷ lower) lower (lt→ltb x v (above v (has_get_or xs i d m))))
    ∙ ap suc (place_at xs i d rest m)

-- a member is at the index that `place_in` gives
pub place_says : (vs : List ℕ) (v : ℕ) → T (rises vs) → T (has v vs)
    → (place_in vs v < length vs) × (get_or vs (place_in vs v) 0 ≡ v)
place_says vs v h k =
    let (i, l, e) = (has-at 0 v vs).0 k in
    let q : place_in vs v ≡ i = ap (place_in vs) e ∙ place_at vs i 0 h l in
    (omega arith, ap (λ (x : ℕ). get_or vs x 0) q ∙ sym e)

pub place_mono : (vs : List ℕ) (v w : ℕ) → v ≤ w → place_in vs v ≤ place_in vs w
place_mono vs v w l = count-le (λ x. ltb x v) (λ x. ltb x w) vs (λ x h. lt→ltb x w (omega (arith, ltb→lt x v h)))
