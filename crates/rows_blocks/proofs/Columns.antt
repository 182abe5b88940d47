-- A block written column by column, for any number written for a pair.
use Prim.Native.Nat.{ℕ, suc, ◌+◌, ◌≤◌, ◌<◌}
use native.Mathlib.Nat.{eq-or-lt_of_le, le_of_eq}
use native.Mathlib.Omega.{arith}
use mathlib.Core.Path.{◌≡◌, ap, ◌∙◌}
use mathlib.Core.Logic.{inl, inr}
use mathlib.Core.List.{List, [], ◌∷◌, ◌++◌, map, append-nil, map-append}
use lib.ListN.{length, get_or, length-append, length-map}
use lib.Dec.{T}
use Rattle.layout.specs.General.Lists.{below, join, rises}
use Rattle.layout.specs.General.Triangle.{triangle}
use Rattle.layout.specs.Rows.Blocks.{Pair, pair, pair_row}
use Rattle.layout.proofs.Lists.Members.{get_or_map, get_or-below, length-up_from}
use Rattle.layout.proofs.Lists.Rising.{rises-at}
use Rattle.layout.proofs.Numbers.Triangles.{pair_index-le}
use Rattle.layout.proofs.Lists.Starts.{join-append}
use Rattle.layout.proofs.Lists.Keeps.{below_more}
use Rattle.rows_blocks.specs.Columns.{column_pairs}

pub rises-le : (vs : List ℕ) (i j : ℕ) → T (rises vs) → i ≤ j → j < length vs → get_or vs i 0 ≤ get_or vs j 0
rises-le vs i j h l m = elim (eq-or-lt_of_le l) [
  | inl e ↦ le_of_eq (ap (λ (k : ℕ). get_or vs k 0) e)
  | inr q ↦ omega (arith, rises-at vs i j 0 h q m)
]

-- the index of a pair, as the code computes it
length-column_pairs : (vs : List ℕ) (j : ℕ) → length (column_pairs vs j) ≡ j + 1
length-column_pairs vs j = length-map (below (suc j)) (λ i. pair (get_or vs i 0) (get_or vs j 0)) ∙ length-up_from 0 (suc j) ∙ omega arith

module _ (f : Pair → ℕ) (vs : List ℕ) where
  -- ---- a column

  pub length-column : (j : ℕ) → length (map f (column_pairs vs j)) ≡ j + 1
  length-column j = length-map (column_pairs vs j) f ∙ length-column_pairs vs j

  pub column-at : (j i : ℕ) → i ≤ j → get_or (map f (column_pairs vs j)) i 0 ≡ f (pair (get_or vs i 0) (get_or vs j 0))
  column-at j i l =
      get_or_map f (column_pairs vs j) i (pair 0 0) 0 (omega (arith, length-column_pairs vs j))
      ∙ ap f (get_or_map (λ i. pair (get_or vs i 0) (get_or vs j 0)) (below (suc j)) i 0 (pair 0 0) (omega (arith, length-up_from 0 (suc j)))
      ∙ ap (λ (k : ℕ). pair (get_or vs k 0) (get_or vs j 0)) (get_or-below (suc j) i 0 (omega arith)))

  -- ---- the columns below j

  abbrev pub columns_below : ℕ → List ℕ
  columns_below j = map f (join (column_pairs vs) (below j))

  pub columns_more : (j : ℕ) → columns_below (j + 1) ≡ columns_below j ++ map f (column_pairs vs j)
  columns_more j =
      ap (map f) (ap (join (column_pairs vs)) (below_more j) ∙ join-append (column_pairs vs) (below j) (j ∷ [])
      ∙ ap (λ (r : List Pair). join (column_pairs vs) (below j) ++ r) (append-nil (column_pairs vs j)))
      ∙ map-append f (join (column_pairs vs) (below j)) (column_pairs vs j)

  pub length_more : (j : ℕ) → length (columns_below (j + 1)) ≡ length (columns_below j) + (j + 1)
  length_more j =
      ap length (columns_more j) ∙ length-append (columns_below j) (map f (column_pairs vs j))
      ∙ ap (λ (n : ℕ). length (columns_below j) + n) (length-column j)

-- the original row of entry i of column j
pub row-at : (base : ℕ) (vs : List ℕ) (j i : ℕ) → T (rises vs) → i ≤ j → j < length vs
    → get_or (map (pair_row base) (column_pairs vs j)) i 0 ≡ base + triangle (get_or vs j 0) + get_or vs i 0
row-at base vs j i h l m =
    column-at (pair_row base) vs j i l ∙ ap (λ (k : ℕ). base + k) (pair_index-le (get_or vs i 0) (get_or vs j 0) (rises-le vs i j h l m)) ∙ omega arith
