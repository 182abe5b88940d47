-- Joined lists: their length and the index of an element of one part; parts joined from last to first, and parts of equal length.
use Prim.Native.Nat.{ℕ, zero, suc, ◌+◌, ◌-◌, ◌*◌, ◌≤◌, ◌<◌, zero-le}
use native.Mathlib.Nat.{le_of_suc-le-suc, not-suc-le-zero, le_refl, zero-mul, mul_comm}
use native.Mathlib.Omega.{arith}
use mathlib.Core.Path.{◌≡◌, refl, ap, ap₂, ◌∙◌}
use mathlib.Core.Logic.{◌⊎◌, inl, inr}
use mathlib.Core.List.{List, [], ◌∷◌, ◌++◌, map, map-append, reverse, reverse-append}
use lib.ListN.{length, get_or, take, drop, length-append, drop_of_length-le, get_or-append}
use lib.Seq.{get_or-append-add, drop-cons, take_at, drop-append-add}
use lib.Dec.{T}
use Rattle.layout.specs.General.Lists.{has, sum, join, up_from, below}
use Rattle.layout.proofs.Lists.Tests.{lt_or_le}
use Rattle.layout.proofs.Lists.Members.{EveryAt, every_cons, has-cons}

pub up_from_last : (a k : ℕ) → up_from a (suc k) ≡ up_from a k ++ ((a + k) ∷ [])
up_from_last a zero = ap (λ (x : ℕ). x ∷ []) (omega arith)
up_from_last a (suc k) =
    ap (λ (r : List ℕ). a ∷ r) (up_from_last (suc a) k ∙ ap (λ (x : ℕ). up_from (suc a) k ++ (x ∷ [])) (omega arith))

pub up_from_shift : (a b k : ℕ) → up_from (a + b) k ≡ map (λ t. a + t) (up_from b k)
up_from_shift a b zero = refl
up_from_shift a b (suc k) =
    ap (λ (l : List ℕ). (a + b) ∷ l) (ap (λ (s : ℕ). up_from s k) (omega arith) ∙ up_from_shift a (suc b) k)

pub up_from-append : (a j k : ℕ) → up_from a (j + k) ≡ up_from a j ++ up_from (a + j) k
up_from-append a zero k =
    let e : zero + k ≡ k = omega arith in
    let f : a + zero ≡ a = omega arith in
    rw (e, f)
up_from-append a (suc j) k =
    let e : suc j + k ≡ suc (j + k) = omega arith in
    let f : suc a + j ≡ a + suc j = omega arith in
    rw e (ap (λ (xs : List ℕ). a ∷ xs) (up_from-append (suc a) j k ∙ rw f))

pub reverse-below : (k : ℕ) → reverse (below (suc k)) ≡ k ∷ reverse (below k)
reverse-below k =
    ap reverse (up_from_last 0 k) ∙ reverse-append (below k) ((0 + k) ∷ []) ∙ ap (λ (x : ℕ). x ∷ reverse (below k)) (omega arith)

turned : (m k : ℕ) → m ≡ suc k → reverse (below m) ≡ k ∷ reverse (below k)
turned m k e = ap (λ (n : ℕ). reverse (below n)) e ∙ reverse-below k

-- ---- maps, joins and sums over numbers

pub map_same : {B : Type 0} (f g : ℕ → B) (xs : List ℕ) → ((x : ℕ) → T (has x xs) → f x ≡ g x) → map f xs ≡ map g xs
map_same f g [] h = refl
map_same {B} f g (x ∷ xs) h =
    ap₂ {C = List B} (λ y ys. y ∷ ys)
    (h x ((has-cons x x xs).1 (inl refl)))
    (map_same f g xs (λ y k. h y ((has-cons y x xs).1 (inr k))))

pub join_same : {B : Type 0} (f g : ℕ → List B) (xs : List ℕ) → ((x : ℕ) → T (has x xs) → f x ≡ g x) → join f xs ≡ join g xs
join_same f g [] h = refl
join_same f g (x ∷ xs) h =
    ap₂ ◌++◌ (h x ((has-cons x x xs).1 (inl refl))) (join_same f g xs (λ y k. h y ((has-cons y x xs).1 (inr k))))

pub sum_last : (f : ℕ → ℕ) (a k : ℕ) → sum (map f (up_from a (suc k))) ≡ sum (map f (up_from a k)) + f (a + k)
sum_last f a zero = let e : f (a + 0) ≡ f a = ap f (omega arith) in omega arith
sum_last f a (suc k) =
    let e : f (a + suc k) ≡ f (suc a + k) = ap f (omega arith) in
    omega (arith, sum_last f (suc a) k)

-- summing from last to first gives the same sum
pub sum-down : (f : ℕ → ℕ) (k : ℕ) → sum (map f (reverse (below k))) ≡ sum (map f (below k))
sum-down f zero = refl
sum-down f (suc k) =
    let e : f (0 + k) ≡ f k = ap f (omega arith) in
    ap (λ (r : List ℕ). sum (map f r)) (reverse-below k) ∙ omega (arith, sum-down f k, sum_last f 0 k)

module _ {A B : Type 0} where
  pub length-join : (g : A → List B) (xs : List A) → length (join g xs) ≡ sum (map (λ x. length (g x)) xs)
  length-join g [] = refl
  length-join g (x ∷ xs) = omega (arith, length-append (g x) (join g xs), length-join g xs)

  -- `take` and `drop` commute with `map`
  pub take-map : (f : A → B) (k : ℕ) (xs : List A) → take k (map f xs) ≡ map f (take k xs)
  take-map f zero xs = refl
  take-map f (suc k) [] = refl
  take-map f (suc k) (x ∷ xs) = ap {B = List B} (λ r. f x ∷ r) (take-map f k xs)

  pub drop-map : (f : A → B) (k : ℕ) (xs : List A) → drop k (map f xs) ≡ map f (drop k xs)
  drop-map f zero xs = refl
  drop-map f (suc k) [] = refl
  drop-map f (suc k) (x ∷ xs) = drop-map f k xs

module _ {A B C : Type 0} where
  pub map-join : (g : B → C) (f : A → List B) (xs : List A) → map g (join f xs) ≡ join (λ x. map g (f x)) xs
  map-join g f [] = refl
  map-join g f (x ∷ xs) = map-append g (f x) (join f xs) ∙ ap (λ (r : List C). map g (f x) ++ r) (map-join g f xs)

module _ {A : Type 0} where
  -- a map over the elements from index n on, written by index
  pub map-drop : {B : Type 0} (f : A → B) (d : A) (xs : List A) (n k : ℕ) → n + k ≡ length xs
      → map f (drop n xs) ≡ map (λ i. f (get_or xs i d)) (up_from n k)
  map-drop f d xs n zero e = ap (map f) (drop_of_length-le xs {i = n} (omega arith))
  map-drop {B} f d xs n (suc k) e =
      ap (map f) (drop-cons xs n d (omega arith))
      ∙ ap {B = List B} (λ r. f (get_or xs n d) ∷ r) (map-drop f d xs (suc n) k (omega arith))

  pub sum_drop : (f : A → ℕ) (xs : List A) (a b : ℕ) → a ≤ b → sum (map f (drop b xs)) ≤ sum (map f (drop a xs))
  sum_drop f [] zero zero l = le_refl 0
  sum_drop f [] zero (suc b) l = le_refl 0
  sum_drop f [] (suc a) zero l = le_refl 0
  sum_drop f [] (suc a) (suc b) l = le_refl 0
  sum_drop f (x ∷ xs) zero zero l = le_refl (f x + sum (map f xs))
  sum_drop f (x ∷ xs) zero (suc b) l = omega (arith, sum_drop f xs zero b (omega arith))
  sum_drop f (x ∷ xs) (suc a) zero l = absurd (not-suc-le-zero l)
  sum_drop f (x ∷ xs) (suc a) (suc b) l = sum_drop f xs a b (le_of_suc-le-suc l)

  -- if no term is above b, the sum is at most the number of terms times b
  pub sum_bound : (d : A) (f : A → ℕ) (b : ℕ) (xs : List A) → EveryAt d (λ x. f x ≤ b) xs → sum (map f xs) ≤ length xs * b
  sum_bound d f b [] h = zero-le
  sum_bound d f b (x ∷ xs) h =
      let (one, others) = (every_cons d (λ y. f y ≤ b) x xs).0 h in
      omega (arith, sum_bound d f b xs others)

  -- if no list is longer than `most`, the joined list is at most that many times as long as the number of lists
  pub join_most : (d : A) (f : A → List ℕ) (most : ℕ) (xs : List A) → EveryAt d (λ x. length (f x) ≤ most) xs
      → length (join f xs) ≤ most * length xs
  join_most d f most xs h =
      omega (arith, length-join f xs, sum_bound d (λ x. length (f x)) most xs h, mul_comm most (length xs))

  -- an index into xs ++ ys is an index into xs or into ys
  pub append-place : (xs ys : List A) (r : ℕ) (x : A) → r < length (xs ++ ys)
      → ((r < length xs) × (get_or (xs ++ ys) r x ≡ get_or xs r x))
      ⊎ ((s : ℕ) × (s < length ys) × (r ≡ length xs + s) × (get_or (xs ++ ys) r x ≡ get_or ys s x))
  append-place xs ys r x l = elim (lt_or_le r (length xs)) [
    | inl m ↦ inl (m, get_or-append xs ys x r m)
    | inr m ↦
        let s : ℕ = r - length xs in
        let e : r ≡ length xs + s = omega arith in
        inr (
          s,
          omega (arith, length-append xs ys),
          e,
          ap (λ (k : ℕ). get_or (xs ++ ys) k x) e ∙ get_or-append-add xs ys s x,
        )
  ]

  -- ---- a join from last to first

  -- the index at which part c starts, if the n parts numbered suc c and up come before it
  abbrev start_of : (ℕ → List A) → ℕ → ℕ → ℕ
  start_of g c n = sum (map (λ i. length (g i)) (up_from (suc c) n))

  pub down-at : (g : ℕ → List A) (x : A) (c n t : ℕ) → t < length (g c)
      → get_or (join g (reverse (below (suc c + n)))) (start_of g c n + t) x ≡ get_or (g c) t x
  down-at g x c zero t l =
      ap₂ (λ (r : List ℕ) (s : ℕ). get_or (join g r) s x) (turned (suc c + 0) c (omega arith)) (omega arith)
      ∙ get_or-append (g c) (join g (reverse (below c))) x t l
  down-at g x c (suc n) t l =
      ap₂ (λ (r : List ℕ) (s : ℕ). get_or (join g r) s x)
      (turned (suc c + suc n) (suc c + n) (omega arith)) (omega (arith, sum_last (λ i. length (g i)) (suc c) n))
      ∙ get_or-append-add (g (suc c + n)) (join g (reverse (below (suc c + n)))) (start_of g c n + t) x
      ∙ down-at g x c n t l

  pub length-down : (g : ℕ → List A) (k : ℕ) → length (join g (reverse (below k))) ≡ sum (map (λ i. length (g i)) (below k))
  length-down g k = length-join g (reverse (below k)) ∙ sum-down (λ i. length (g i)) k

  -- every index lies in some part
  pub down-part : (g : ℕ → List A) (k r : ℕ) → r < length (join g (reverse (below k)))
      → (c : ℕ) × (n : ℕ) × (t : ℕ) × (suc c + n ≡ k) × (t < length (g c)) × (r ≡ start_of g c n + t)
  down-part g zero r l = absurd (not-suc-le-zero l)
  down-part g (suc k) r l = elim (lt_or_le r (length (g k))) [
    | inl m ↦ (k, 0, r, omega arith, m, omega arith)
    | inr m ↦
        let whole : length (join g (reverse (below (suc k)))) ≡ length (g k) + length (join g (reverse (below k))) =
        ap (λ (q : List ℕ). length (join g q)) (reverse-below k) ∙ length-append (g k) (join g (reverse (below k))) in
        let (c, n, t, e, lt, q) = down-part g k (r - length (g k)) (omega arith) in
        let last : length (g (suc c + n)) ≡ length (g k) = ap (λ (i : ℕ). length (g i)) e in
        (c, suc n, t, omega arith, lt, omega (arith, sum_last (λ i. length (g i)) (suc c) n))
  ]

-- ---- joined lists of equal length

module _ {A : Type 0} (g : ℕ → List A) (n : ℕ) (even : (i : ℕ) → length (g i) ≡ n) where
  pub length_runs : (a c : ℕ) → length (join g (up_from a c)) ≡ c * n
  length_runs a zero = omega arith
  length_runs a (suc c) = omega (arith, length-append (g a) (join g (up_from (suc a) c)), even a, length_runs (suc a) c)

  pub run_at : (a c k : ℕ) → k < c → take n (drop (k * n) (join g (up_from a c))) ≡ g (a + k)
  run_at a zero k l = absurd (not-suc-le-zero l)
  run_at a (suc c) zero l =
      ap (λ (t : ℕ). take n (drop t (g a ++ join g (up_from (suc a) c)))) (zero-mul n)
      ∙ take_at (g a) (join g (up_from (suc a) c)) n (even a) ∙ ap g (omega arith)
  run_at a (suc c) (suc k) l =
      let e : suc k * n ≡ length (g a) + k * n = omega (arith, even a) in
      ap (λ (t : ℕ). take n (drop t (g a ++ join g (up_from (suc a) c)))) e
      ∙ ap (take n) (drop-append-add (g a) (join g (up_from (suc a) c)) (k * n))
      ∙ run_at (suc a) c k (le_of_suc-le-suc l) ∙ ap g (omega arith)
