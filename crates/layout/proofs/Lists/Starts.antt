-- A part of a list; joined lists: where each of them starts, and the element at an index; buffers after a write.
use Prim.Native.Nat.{ℕ, zero, suc, ◌+◌, ◌-◌, ◌≤◌, ◌<◌}
use native.Mathlib.Nat.{not-suc-le-zero, le_of_suc-le-suc}
use native.Mathlib.Omega.{arith}
use mathlib.Core.Path.{◌≡◌, refl, sym, ap, ◌∙◌}
use mathlib.Core.List.{List, [], ◌∷◌, ◌++◌, map, append_assoc}
use lib.ListN.{length, get_or, take, drop, length-append, length-drop, get_or-append}
use lib.Seq.{get_or-append-add, get_or-take, get_or-drop, drop-cons, split_at}
use Rattle.layout.specs.General.Lists.{up_from, sum, part, join, starts_from, written}

module _ {A : Type 0} where
  -- a part of a list, written by index
  pub part_at : (d : A) (xs : List A) (a k : ℕ) → a + k ≤ length xs → map (λ i. get_or xs i d) (up_from a k) ≡ take k (drop a xs)
  part_at d xs a zero l = refl
  part_at d xs a (suc k) l =
      ap {B = List A} (λ r. get_or xs a d ∷ r) (part_at d xs (suc a) k (omega arith))
      ∙ ap (take (suc k)) (sym (drop-cons xs a d (omega arith)))

  pub part-get_or : (d : A) (a b t : ℕ) (xs : List A) → t < b - a → get_or (part a b xs) t d ≡ get_or xs (a + t) d
  part-get_or d a b t xs l = get_or-take (b - a) (drop a xs) t d l ∙ get_or-drop a xs t d

  pub part_none : (a b : ℕ) (xs : List A) → b ≤ a → part a b xs ≡ []
  part_none a b xs h = let e : b - a ≡ 0 = omega arith in ap (λ (k : ℕ). take k (drop a xs)) e

  pub get_or-right : (xs ys : List A) (i : ℕ) (d : A) → length xs ≤ i → get_or (xs ++ ys) i d ≡ get_or ys (i - length xs) d
  get_or-right xs ys i d l =
      let e : i ≡ length xs + (i - length xs) = omega arith in
      ap (λ (n : ℕ). get_or (xs ++ ys) n d) e ∙ get_or-append-add xs ys (i - length xs) d

-- ---- joins

module _ {A B : Type 0} where
  pub join-append : (f : A → List B) (xs ys : List A) → join f (xs ++ ys) ≡ join f xs ++ join f ys
  join-append f [] ys = refl
  join-append f (x ∷ xs) ys =
      ap (λ (r : List B). f x ++ r) (join-append f xs ys) ∙ sym (append_assoc (f x) (join f xs) (join f ys))

  -- a join is the join before list c, list c itself, and the join after it
  pub join-split : (f : A → List B) (xs : List A) (c : ℕ) (a : A) → c < length xs
      → join f xs ≡ join f (take c xs) ++ (f (get_or xs c a) ++ join f (drop (suc c) xs))
  join-split f xs c a l = ap (join f) (split_at xs c a l) ∙ join-append f (take c xs) (get_or xs c a ∷ drop (suc c) xs)

pub join-map : {A B C : Type 0} (f : B → List C) (g : A → B) (xs : List A) → join f (map g xs) ≡ join (λ x. f (g x)) xs
join-map f g [] = refl
join-map {C = C} f g (x ∷ xs) = ap (λ (r : List C). f (g x) ++ r) (join-map f g xs)

pub sum-append : (xs ys : List ℕ) → sum (xs ++ ys) ≡ sum xs + sum ys
sum-append [] ys = omega arith
sum-append (x ∷ xs) ys = omega (arith, sum-append xs ys)

-- ---- starts

-- the sum of the first c + 1 numbers is the sum of the first c plus number c
pub sum-take : (ks : List ℕ) (c : ℕ) → c < length ks → sum (take (suc c) ks) ≡ sum (take c ks) + get_or ks c 0
sum-take [] c l = absurd (not-suc-le-zero l)
sum-take (k ∷ ks) zero l = omega arith
sum-take (k ∷ ks) (suc c) l = omega (arith, sum-take ks c (le_of_suc-le-suc l))

pub length-starts : (a : ℕ) (ks : List ℕ) → length (starts_from a ks) ≡ suc (length ks)
length-starts a [] = refl
length-starts a (k ∷ ks) = ap suc (length-starts (a + k) ks)

pub starts-at : (a : ℕ) (ks : List ℕ) (i d : ℕ) → i ≤ length ks → get_or (starts_from a ks) i d ≡ a + sum (take i ks)
starts-at a [] zero d l = omega arith
starts-at a [] (suc i) d l = absurd (not-suc-le-zero l)
starts-at a (k ∷ ks) zero d l = omega arith
starts-at a (k ∷ ks) (suc i) d l = starts-at (a + k) ks i d (le_of_suc-le-suc l) ∙ omega arith

-- the number of elements before list c in a join is the sum of the lengths of the lists before it
pub join_before : {A B : Type 0} (f : A → List B) (xs : List A) (c : ℕ)
    → length (join f (take c xs)) ≡ sum (take c (map (λ x. length (f x)) xs))
join_before f [] zero = refl
join_before f [] (suc c) = refl
join_before f (x ∷ xs) zero = refl
join_before f (x ∷ xs) (suc c) = omega (arith, length-append (f x) (join f (take c xs)), join_before f xs c)

-- ---- buffers

module _ {A : Type 0} where
  pub length-written : (xs old : List A) → length xs ≤ length old → length (written xs old) ≡ length old
  length-written xs old l = length-append xs (drop (length xs) old) ∙ omega (arith, length-drop (length xs) old)

  pub written_front : (xs old : List A) (i : ℕ) (d : A) → i < length xs → get_or (written xs old) i d ≡ get_or xs i d
  written_front xs old i d l = get_or-append xs (drop (length xs) old) d i l

  pub written-rest : (xs old : List A) (i : ℕ) (d : A) → length xs ≤ i → get_or (written xs old) i d ≡ get_or old i d
  written-rest xs old i d l =
      get_or-right xs (drop (length xs) old) i d l ∙ get_or-drop (length xs) old (i - length xs) d
      ∙ ap (λ (n : ℕ). get_or old n d) (omega arith)
