-- Drawn columns written one by one, and a right side written to the front of an output.
use Prim.Native.Nat.{ℕ, zero, suc, ◌+◌, ◌-◌, ◌*◌, ◌≤◌, ◌<◌}
use native.Mathlib.Nat.{zero-add, add-zero, le_of_suc-le-suc, not-suc-le-zero}
use native.Mathlib.Omega.{arith}
use mathlib.Core.Path.{◌≡◌, refl, sym, ap, ◌∙◌}
use mathlib.Core.List.{List, [], ◌∷◌, ◌++◌, map, append-nil, map-append}
use lib.ListN.{length, set, take, drop, length-append, length-set, length-map, length-drop}
use lib.Seq.{length-take-le, take-append-add, take-append-le}
use lib.Ieee.{Float}
use Rattle.layout.specs.General.Lists.{sum, join, starts_from, written, Below}
use Rattle.layout.specs.Cuts.Compact.{Entry, rows_of, csc}
use Rattle.layout.specs.Calls.Generate.{draw, drawn_value, drawn_column, drawn_columns, after_column, after_columns, drawn_side}
use Rattle.layout.proofs.Lists.Starts.{join-append, sum-append, length-starts}
use Rattle.layout.proofs.Columns.Compressed.{values_of, starts-append}
use Rattle.layout.proofs.Generators.Drawn.{column-length, columns_more, columns_count, side-length}

-- ---- one more column

module _ (s : ℕ) (rs : List ℕ) (c : ℕ) where
  abbrev cs : List (List Entry)
  cs = drawn_columns s rs c

  abbrev new : List Entry
  new = drawn_column (after_columns s rs c) rs

  lengths_more : map length (drawn_columns s rs (c + 1)) ≡ map length (drawn_columns s rs c) ++ (length (drawn_column (after_columns s rs c) rs) ∷ [])
  lengths_more = ap (map length) (columns_more s rs c) ∙ map-append length cs (new ∷ [])

  pub entries_more : sum (map length (drawn_columns s rs (c + 1))) ≡ sum (map length (drawn_columns s rs c)) + length (drawn_column (after_columns s rs c) rs)
  entries_more = ap sum lengths_more ∙ sum-append (map length cs) (length new ∷ []) ∙ omega arith

  pub starts_more : (csc (drawn_columns s rs (c + 1))).starts ≡ (csc (drawn_columns s rs c)).starts ++ (sum (map length (drawn_columns s rs (c + 1))) ∷ [])
  starts_more =
      ap (starts_from 0) lengths_more ∙ starts-append 0 (map length cs) (length new ∷ [])
      ∙ ap (λ (k : ℕ). starts_from 0 (map length cs) ++ (k ∷ [])) (ap (λ (k : ℕ). k + length new) (zero-add (sum (map length cs))) ∙ sym entries_more)

  joined : join (λ (es : List Entry). es) (drawn_columns s rs (c + 1)) ≡ join (λ (es : List Entry). es) (drawn_columns s rs c) ++ drawn_column (after_columns s rs c) rs
  joined =
      ap (join (λ (es : List Entry). es)) (columns_more s rs c) ∙ join-append (λ (es : List Entry). es) cs (new ∷ [])
      ∙ ap (λ (es : List Entry). join (λ (fs : List Entry). fs) cs ++ es) (append-nil new)

  pub rows_more : (csc (drawn_columns s rs (c + 1))).rows ≡ (csc (drawn_columns s rs c)).rows ++ rows_of (drawn_column (after_columns s rs c) rs)
  rows_more = ap rows_of joined ∙ map-append (λ (e : Entry). e.row) (join (λ (es : List Entry). es) cs) new

  pub values_more : (csc (drawn_columns s rs (c + 1))).values ≡ (csc (drawn_columns s rs c)).values ++ values_of (drawn_column (after_columns s rs c) rs)
  values_more = ap values_of joined ∙ map-append (λ (e : Entry). e.value) (join (λ (es : List Entry). es) cs) new

-- ---- a right side at the front of an output

set_front : (xs ys : List Float) (i : ℕ) (x : Float) → i < length xs → set (xs ++ ys) i x ≡ set xs i x ++ ys
set_front [] ys i x l = absurd (not-suc-le-zero l)
set_front (y ∷ xs) ys zero x l = refl
set_front (y ∷ xs) ys (suc i) x l = ap (λ (zs : List Float). y ∷ zs) (set_front xs ys i x (le_of_suc-le-suc l))

side-append : (s : ℕ) (rs : List ℕ) (xs ys : List Float) → Below (length xs) rs → drawn_side s rs (xs ++ ys) ≡ drawn_side s rs xs ++ ys
side-append s [] xs ys h = refl
side-append s (r ∷ rs) xs ys h =
    ap (drawn_side (draw s) rs) (set_front xs ys r (drawn_value (draw s)) (h 0 (omega arith)))
    ∙ side-append (draw s) rs (set xs r (drawn_value (draw s))) ys
    (λ i l. omega (arith, h (suc i) (omega arith), length-set xs r (drawn_value (draw s))))

pub side_front : (s : ℕ) (rs : List ℕ) (xs old : List Float) → Below (length xs) rs → drawn_side s rs (written xs old) ≡ written (drawn_side s rs xs) old
side_front s rs xs old h =
    side-append s rs xs (drop (length xs) old) h
    ∙ ap (λ (k : ℕ). drawn_side s rs xs ++ drop k old) (sym (side-length s rs xs))

-- ---- the number of entries

-- at most one for each row of each column
pub entries-few : (s : ℕ) (rs : List ℕ) (c : ℕ) → sum (map length (drawn_columns s rs c)) ≤ c * length rs
entries-few s rs zero = omega arith
entries-few s rs (suc c) = omega (arith, column-length s rs, entries-few (after_column s rs) rs c)

module _ (s : ℕ) (rs : List ℕ) where
  entries-up : (c d : ℕ) → sum (map length (drawn_columns s rs c)) ≤ sum (map length (drawn_columns s rs (c + d)))
  entries-up c zero = rw (add-zero c) (omega arith)
  entries-up c (suc d) =
      let e : c + suc d ≡ c + d + 1 = omega arith in
      rw e (omega (arith, entries-up c d, entries_more s rs (c + d)))

  -- where the entries of n columns fit, so do those of the columns up to c, for c below n
  pub column_fits : (n c : ℕ) → c < n
      → sum (map length (drawn_columns s rs c)) + length (drawn_column (after_columns s rs c) rs) ≤ sum (map length (drawn_columns s rs n))
  column_fits n c l =
      let e : c + 1 + (n - (c + 1)) ≡ n = omega arith in
      let h = entries-up (c + 1) (n - (c + 1)) in
      let h' : sum (map length (drawn_columns s rs (c + 1))) ≤ sum (map length (drawn_columns s rs n)) = rw e at h in
      omega (arith, entries_more s rs c)

  pub starts-many : (c : ℕ) → length (csc (drawn_columns s rs c)).starts ≡ c + 1
  starts-many c = length-starts 0 (map length (drawn_columns s rs c)) ∙ omega (arith, length-map (drawn_columns s rs c) length, columns_count s rs c)

-- ---- the first start, stored before the columns are written

pub first_stored : (old : List ℕ) → 0 < length old → set old 0 0 ≡ written (0 ∷ []) (set old 0 0)
first_stored [] l = absurd (not-suc-le-zero l)
first_stored (x ∷ old) l = refl

-- writing the starts overwrites it
covers_first : (xs old : List ℕ) → 0 < length xs → written xs (set old 0 0) ≡ written xs old
covers_first [] old l = absurd (not-suc-le-zero l)
covers_first (x ∷ xs) [] l = refl
covers_first (x ∷ xs) (y ∷ old) l = refl

pub starts_cover : (s : ℕ) (rs : List ℕ) (c : ℕ) (old : List ℕ)
    → written (csc (drawn_columns s rs c)).starts (set old 0 0) ≡ written (csc (drawn_columns s rs c)).starts old
starts_cover s rs c old = covers_first (csc (drawn_columns s rs c)).starts old (omega (arith, starts-many s rs c))

-- ---- a table ws that a call is given from index a on, and whose rest is vs afterwards

module _ {A : Type 0} (ws vs : List A) (a : ℕ) where
  -- what was kept before a is kept, followed by the first k of vs
  pub kept-after : (k : ℕ) → a ≤ length ws → k ≤ length vs
      → take (a + k) (take a ws ++ (vs ++ drop (length ws - a) (drop a ws))) ≡ take a ws ++ take k vs
  kept-after k h l =
      let rest = drop (length ws - a) (drop a ws) in
      ap (λ (i : ℕ). take (i + k) (take a ws ++ (vs ++ rest))) (sym (length-take-le a ws h))
      ∙ take-append-add (take a ws) (vs ++ rest) k
      ∙ ap (λ (xs : List A). take a ws ++ xs) (take-append-le k vs rest l)

  pub kept-length : a ≤ length ws → length vs ≡ length ws - a
      → length (take a ws ++ (vs ++ drop (length ws - a) (drop a ws))) ≡ length ws
  kept-length h e =
      let rest = drop (length ws - a) (drop a ws) in
      omega (
        arith,
        length-append (take a ws) (vs ++ rest),
        length-append vs rest,
        length-take-le a ws h,
        length-drop (length ws - a) (drop a ws),
        length-drop a ws,
      )
