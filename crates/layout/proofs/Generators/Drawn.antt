-- What the generator draws: columns with entries in some of the rows, in their order, and b, with finite values; and the state of a loop
-- that draws them.
use Prim.Native.Nat.{ℕ, zero, suc, ◌+◌, ◌%◌, ◌≤◌, ◌<◌, zero-le}
use native.Mathlib.Nat.{mod-lt, zero-lt-suc, not-suc-le-zero, le_of_suc-le-suc}
use native.Mathlib.Numerals.{add-one}
use native.Mathlib.Omega.{arith}
use mathlib.Core.Path.{◌≡◌, refl, sym, ap, ◌∙◌}
use mathlib.Core.Logic.{inl, inr}
use mathlib.Core.Bool.{Bool, true, false, cond}
use mathlib.Core.List.{List, [], ◌∷◌, ◌++◌, append_assoc, append-nil, map-append}
use lib.ListN.{length, get_or, set, take, drop, length-append, length-set, take-append-drop, drop_of_length-le}
use lib.Seq.{drop-cons, take-suc, get_or-set_other}
use lib.Dec.{T, eqb, eqb→eq}
use lib.IntN.{ℤ, pos, negsuc, ◌-ℤ◌}
use lib.Ieee.{Float, of_int, binary64}
use Rattle.layout.specs.General.Lists.{has, all, rises, join, below}
use Rattle.layout.specs.General.Floats.{zero64, finite, unit}
use Rattle.layout.specs.Cuts.Compact.{Entry, rows_of}
use Rattle.layout.specs.Calls.Generate.{draw, is_odd, drawn_value, drawn_entry, after_entry, drawn_column, after_column, drawn_columns, after_columns, drawn_side}
use Rattle.layout.proofs.Lists.Tests.{and_iff}
use Rattle.layout.proofs.Lists.Members.{all_of_both, all_set, has-cons, has-below, all-has}
use Rattle.layout.proofs.Lists.Rising.{rises-cons}
use Rattle.layout.proofs.Columns.Compressed.{values_of}

-- ---- values

-- a drawn value is finite
value-finite : (d : ℕ) → T (finite (drawn_value d))
unfolding of_int
value-finite d = (all-has (λ t. finite (of_int binary64 (pos t -ℤ pos 100))) (below 201)).0 tt (d % 201) ((has-below (d % 201) 201).1 (mod-lt d (zero-lt-suc 200)))

-- whether two integers are equal
abbrev same : ℤ → ℤ → Bool
same (pos a) (pos b) = eqb a b
same (pos a) (negsuc b) = false
same (negsuc a) (pos b) = false
same (negsuc a) (negsuc b) = eqb a b

same_says : (x y : ℤ) → T (same x y) → x ≡ y
same_says (pos a) (pos b) h = ap pos (eqb→eq a b h)
same_says (pos a) (negsuc b) h = absurd h
same_says (negsuc a) (pos b) h = absurd h
same_says (negsuc a) (negsuc b) h = ap negsuc (eqb→eq a b h)

-- a drawn value is the whole number (draw mod 201) - 100, and the number 0 is +0.0
pub value_exact : (d : ℕ) → unit (drawn_value d) ≡ pos (d % 201) -ℤ pos 100
unfolding of_int
value_exact d =
    same_says (unit (drawn_value d)) (pos (d % 201) -ℤ pos 100)
    ((all-has (λ t. same (unit (of_int binary64 (pos t -ℤ pos 100))) (pos t -ℤ pos 100)) (below 201)).0 tt (d % 201)
    ((has-below (d % 201) 201).1 (mod-lt d (zero-lt-suc 200))))

pub value-zero : (d : ℕ) → d % 201 ≡ 100 → drawn_value d ≡ zero64
unfolding of_int
value-zero d e = rw e

-- ---- a column over the rows rs, from the state s on

-- an entry or none, then the entries es
abbrev more : Bool → ℕ → Float → List Entry → List Entry
more b r x es = cond b (record { row = r; value = x } ∷ []) [] ++ es

-- a drawn column has entries in rows of rs only
pub column-has : (s : ℕ) (rs : List ℕ) (q : ℕ) → T (has q (rows_of (drawn_column s rs))) → T (has q rs)
column-has s [] q h = h
column-has s (r ∷ rs) q h =
    go (is_odd (draw s)) (drawn_value (draw (draw s))) (drawn_column (after_entry s) rs) (column-has (after_entry s) rs q) h
  where
    go : (b : Bool) (x : Float) (es : List Entry) → (T (has q (rows_of es)) → T (has q rs)) → T (has q (rows_of (more b r x es))) → T (has q (r ∷ rs))
    go true x es f k = elim ((has-cons q r (rows_of es)).0 k) [ inl e ↦ (has-cons q r rs).1 (inl e) | inr m ↦ (has-cons q r rs).1 (inr (f m)) ]
    go false x es f k = (has-cons q r rs).1 (inr (f k))

-- in increasing order if rs increases
pub column-rises : (s : ℕ) (rs : List ℕ) → T (rises rs) → T (rises (rows_of (drawn_column s rs)))
column-rises s [] h = tt
column-rises s (r ∷ rs) h =
    let (above, rest) = (rises-cons r rs).0 h in
    go (is_odd (draw s)) (drawn_value (draw (draw s))) (drawn_column (after_entry s) rs)
    (λ q k. above q (column-has (after_entry s) rs q k)) (column-rises (after_entry s) rs rest)
  where
    go : (b : Bool) (x : Float) (es : List Entry) → ((q : ℕ) → T (has q (rows_of es)) → r < q) → T (rises (rows_of es)) → T (rises (rows_of (more b r x es)))
    go true x es above k = (rises-cons r (rows_of es)).1 (above, k)
    go false x es above k = k

pub column-length : (s : ℕ) (rs : List ℕ) → length (drawn_column s rs) ≤ length rs
column-length s [] = zero-le
column-length s (r ∷ rs) =
    go (is_odd (draw s)) (drawn_value (draw (draw s))) (drawn_column (after_entry s) rs) (column-length (after_entry s) rs)
  where
    go : (b : Bool) (x : Float) (es : List Entry) → length es ≤ length rs → length (more b r x es) ≤ suc (length rs)
    go true x es h = omega arith
    go false x es h = omega arith

column-finite : (s : ℕ) (rs : List ℕ) → T (all finite (values_of (drawn_column s rs)))
column-finite s [] = tt
column-finite s (r ∷ rs) =
    go (is_odd (draw s)) (drawn_value (draw (draw s))) (drawn_column (after_entry s) rs)
    (value-finite (draw (draw s))) (column-finite (after_entry s) rs)
  where
    go : (b : Bool) (x : Float) (es : List Entry) → T (finite x) → T (all finite (values_of es)) → T (all finite (values_of (more b r x es)))
    go true x es h k = (and_iff (finite x) (all finite (values_of es))).1 (h, k)
    go false x es h k = k

-- ---- n columns

pub columns_count : (s : ℕ) (rs : List ℕ) (n : ℕ) → length (drawn_columns s rs n) ≡ n
columns_count s rs zero = refl
columns_count s rs (suc n) = ap suc (columns_count (after_column s rs) rs n)

-- each column is drawn, from some state
pub columns_drawn : (s : ℕ) (rs : List ℕ) (n c : ℕ) → c < n → (t : ℕ) × (get_or (drawn_columns s rs n) c [] ≡ drawn_column t rs)
columns_drawn s rs zero c l = absurd (not-suc-le-zero l)
columns_drawn s rs (suc n) zero l = (s, refl)
columns_drawn s rs (suc n) (suc c) l = columns_drawn (after_column s rs) rs n c (le_of_suc-le-suc l)

pub columns_finite : (s : ℕ) (rs : List ℕ) (n : ℕ) → T (all finite (values_of (join (λ c. c) (drawn_columns s rs n))))
columns_finite s rs zero = tt
columns_finite s rs (suc n) =
    let es = drawn_column s rs in
    let fs = join (λ c. c) (drawn_columns (after_column s rs) rs n) in
    rw (map-append (λ (e : Entry). e.value) es fs)
    (all_of_both finite (values_of es) (values_of fs) (column-finite s rs) (columns_finite (after_column s rs) rs n))

-- a column over appended rows is drawn over the first rows, then over the second
pub column-append : (s : ℕ) (xs ys : List ℕ) → drawn_column s (xs ++ ys) ≡ drawn_column s xs ++ drawn_column (after_column s xs) ys
column-append s [] ys = refl
column-append s (x ∷ xs) ys =
    ap (λ (es : List Entry). drawn_entry s x ++ es) (column-append (after_entry s) xs ys)
    ∙ sym (append_assoc (drawn_entry s x) (drawn_column (after_entry s) xs) (drawn_column (after_column (after_entry s) xs) ys))

pub after-append : (s : ℕ) (xs ys : List ℕ) → after_column s (xs ++ ys) ≡ after_column (after_column s xs) ys
after-append s [] ys = refl
after-append s (x ∷ xs) ys = after-append (after_entry s) xs ys

-- one more column
pub columns_more : (s : ℕ) (rs : List ℕ) (n : ℕ)
    → drawn_columns s rs (n + 1) ≡ drawn_columns s rs n ++ (drawn_column (after_columns s rs n) rs ∷ [])
columns_more s rs n = rw add-one (go s n)
  where
    go : (s n : ℕ) → drawn_columns s rs (suc n) ≡ drawn_columns s rs n ++ (drawn_column (after_columns s rs n) rs ∷ [])
    go s zero = refl
    go s (suc n) = ap (λ (cs : List (List Entry)). drawn_column s rs ∷ cs) (go (after_column s rs) n)

pub afters_more : (s : ℕ) (rs : List ℕ) (n : ℕ) → after_columns s rs (n + 1) ≡ after_column (after_columns s rs n) rs
afters_more s rs n = rw add-one (go s n)
  where
    go : (s n : ℕ) → after_columns s rs (suc n) ≡ after_column (after_columns s rs n) rs
    go s zero = refl
    go s (suc n) = go (after_column s rs) n

-- ---- b

pub side-length : (s : ℕ) (rs : List ℕ) (b : List Float) → length (drawn_side s rs b) ≡ length b
side-length s [] b = refl
side-length s (r ∷ rs) b = side-length (draw s) rs (set b r (drawn_value (draw s))) ∙ length-set b r (drawn_value (draw s))

-- b is unchanged in rows outside rs
pub side_other : (s : ℕ) (rs : List ℕ) (b : List Float) (q : ℕ) (d : Float) → (T (has q rs) → ⊥)
    → get_or (drawn_side s rs b) q d ≡ get_or b q d
side_other s [] b q d out = refl
side_other s (r ∷ rs) b q d out =
    side_other (draw s) rs (set b r (drawn_value (draw s))) q d (λ h. out ((has-cons q r rs).1 (inr h)))
    ∙ get_or-set_other b r q (drawn_value (draw s)) d (λ e. out ((has-cons q r rs).1 (inl e)))

pub side-finite : (s : ℕ) (rs : List ℕ) (b : List Float) → T (all finite b) → T (all finite (drawn_side s rs b))
side-finite s [] b h = h
side-finite s (r ∷ rs) b h =
    side-finite (draw s) rs (set b r (drawn_value (draw s))) (all_set finite b r (drawn_value (draw s)) h (value-finite (draw s)))

-- ---- what a loop over the rows has yet to draw at index i

module _ (rs : List ℕ) (i : ℕ) (l : i < length rs) where
  pub side-step : (s : ℕ) (b : List Float)
      → drawn_side s (drop i rs) b ≡ drawn_side (draw s) (drop (i + 1) rs) (set b (get_or rs i 0) (drawn_value (draw s)))
  side-step s b = rw (add-one, drop-cons rs i 0 l)

module _ (rs : List ℕ) (i : ℕ) (l : length rs ≤ i) where
  pub side-done : (s : ℕ) (b : List Float) → drawn_side s (drop i rs) b ≡ b
  side-done s b = rw (drop_of_length-le rs l)

-- ---- what a loop over the rows has drawn at index i

module _ (s : ℕ) (rs : List ℕ) (i : ℕ) where
  -- no more entries than in the whole column
  pub column-few : length (drawn_column s (take i rs)) ≤ length (drawn_column s rs)
  column-few =
      let all : length (drawn_column s rs) ≡ length (drawn_column s (take i rs)) + length (drawn_column (after_column s (take i rs)) (drop i rs)) =
      ap (λ (xs : List ℕ). length (drawn_column s xs)) (sym (take-append-drop i rs))
      ∙ ap length (column-append s (take i rs) (drop i rs))
      ∙ length-append (drawn_column s (take i rs)) (drawn_column (after_column s (take i rs)) (drop i rs)) in
      omega arith

module _ (s : ℕ) (rs : List ℕ) (i : ℕ) (l : i < length rs) where
  one_row : take (i + 1) rs ≡ take i rs ++ (get_or rs i 0 ∷ [])
  one_row = rw add-one (take-suc rs i 0 l)

  column-next : drawn_column s (take (i + 1) rs) ≡ drawn_column s (take i rs) ++ drawn_entry (after_column s (take i rs)) (get_or rs i 0)
  column-next =
      ap (drawn_column s) one_row ∙ column-append s (take i rs) (get_or rs i 0 ∷ [])
      ∙ ap (λ (es : List Entry). drawn_column s (take i rs) ++ es) (append-nil (drawn_entry (after_column s (take i rs)) (get_or rs i 0)))

  module _ (t : ℕ) (here : t ≡ after_column s (take i rs)) where
    -- an odd draw stores an entry, with the value of the state after it
    pub column_hit : is_odd (draw t) ≡ true
        → drawn_column s (take (i + 1) rs) ≡ drawn_column s (take i rs) ++ (record { row = get_or rs i 0; value = drawn_value (after_entry t) } ∷ [])
    column_hit e =
        let stored : drawn_entry t (get_or rs i 0) ≡ record { row = get_or rs i 0; value = drawn_value (after_entry t) } ∷ [] = rw e in
        column-next ∙ ap (λ (es : List Entry). drawn_column s (take i rs) ++ es) (ap (λ (u : ℕ). drawn_entry u (get_or rs i 0)) (sym here) ∙ stored)

    pub column_miss : is_odd (draw t) ≡ false → drawn_column s (take (i + 1) rs) ≡ drawn_column s (take i rs)
    column_miss e =
        let none : drawn_entry t (get_or rs i 0) ≡ [] = rw e in
        column-next ∙ ap (λ (es : List Entry). drawn_column s (take i rs) ++ es) (ap (λ (u : ℕ). drawn_entry u (get_or rs i 0)) (sym here) ∙ none)
        ∙ append-nil (drawn_column s (take i rs))

    pub after_next : after_column s (take (i + 1) rs) ≡ after_entry t
    after_next = ap (after_column s) one_row ∙ after-append s (take i rs) (get_or rs i 0 ∷ []) ∙ ap after_entry (sym here)
