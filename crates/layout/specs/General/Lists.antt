-- List operations. A slice's contents are given as a list. Definitions only.
use Rattle.std.specs.Prelude.{ℕ, zero, suc, ◌+◌, ◌-◌, ◌<◌, Bool, true, false, not, ◌&&◌, ◌||◌, cond, List, [], ◌∷◌, ◌++◌, length, get_or, take, drop, eqb, leb, ltb}

-- the k numbers a, a + 1, ..
abbrev pub up_from : ℕ → ℕ → List ℕ
up_from a zero = []
up_from a (suc k) = a ∷ up_from (suc a) k

-- the numbers below k, in increasing order
abbrev pub below : ℕ → List ℕ
below k = up_from 0 k

abbrev pub sum : List ℕ → ℕ
sum [] = 0
sum (x ∷ xs) = x + sum xs

abbrev pub has : ℕ → List ℕ → Bool
has x [] = false
has x (y ∷ ys) = eqb x y || has x ys

abbrev pub distinct : List ℕ → Bool
distinct [] = true
distinct (x ∷ xs) = not (has x xs) && distinct xs

-- each number is below n
abbrev pub Below : ℕ → List ℕ → Type 0
Below n xs = (i : ℕ) → i < length xs → get_or xs i 0 < n

-- whether the numbers strictly increase
abbrev pub rises : List ℕ → Bool
rises [] = true
rises (x ∷ []) = true
rises (x ∷ y ∷ ys) = ltb x y && rises (y ∷ ys)

-- whether no number is below the one before it
abbrev pub never_falls : List ℕ → Bool
never_falls [] = true
never_falls (x ∷ []) = true
never_falls (x ∷ y ∷ ys) = leb x y && never_falls (y ∷ ys)

-- the first index of u in a list that contains it
abbrev pub place_of : ℕ → List ℕ → ℕ
place_of u [] = 0
place_of u (x ∷ xs) = let r = place_of u xs in cond (eqb u x) 0 (suc r)

module _ {A : Type 0} where
  abbrev pub all : (A → Bool) → List A → Bool
  all p [] = true
  all p (x ∷ xs) = p x && all p xs

  -- whether the lists have equal length and `alike` holds at every index
  abbrev pub same_by : (A → A → Bool) → List A → List A → Bool
  same_by alike [] [] = true
  same_by alike [] (y ∷ ys) = false
  same_by alike (x ∷ xs) [] = false
  same_by alike (x ∷ xs) (y ∷ ys) = alike x y && same_by alike xs ys

  abbrev pub keep : (A → Bool) → List A → List A
  keep p [] = []
  keep p (x ∷ xs) = let r = keep p xs in cond (p x) (x ∷ r) r

  -- the entries at indices a to b - 1
  abbrev pub part : ℕ → ℕ → List A → List A
  part a b xs = take (b - a) (drop a xs)

  -- the buffer `old` after xs is written to its start: the rest is unchanged
  abbrev pub written : List A → List A → List A
  written xs old = xs ++ drop (length xs) old

-- the same numbers in the same order
abbrev pub same_numbers : List ℕ → List ℕ → Bool
same_numbers xs ys = same_by eqb xs ys

module _ {A B : Type 0} where
  abbrev pub join : (A → List B) → List A → List B
  join f [] = []
  join f (x ∷ xs) = f x ++ join f xs

-- a fold over xs and vs in step, up to the end of the shorter one; w is the state
module _ {A B S : Type 0} where
  abbrev pub walk : (A → B → S → S) → List A → List B → S → S
  walk f [] vs w = w
  walk f (x ∷ xs) [] w = w
  walk f (x ∷ xs) (v ∷ vs) w = walk f xs vs (f x v w)

-- whether the list has each number below its length exactly once
abbrev pub is_permutation : List ℕ → Bool
is_permutation xs = all (λ x. ltb x (length xs)) xs && distinct xs

-- the index of v in an increasing list that contains it: the number of members below v
abbrev pub place_in : List ℕ → ℕ → ℕ
place_in vs v = length (keep (λ w. ltb w v) vs)

-- a, then a plus each running total of the list
abbrev pub starts_from : ℕ → List ℕ → List ℕ
starts_from a [] = a ∷ []
starts_from a (k ∷ ks) = a ∷ starts_from (a + k) ks
