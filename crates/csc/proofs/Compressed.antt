-- Concatenated lists of columns in compressed form, and a matrix followed by further columns.
use Prim.Native.Nat.{ℕ, suc}
use native.Mathlib.Nat.{le_refl, le_of_eq}
use native.Mathlib.Omega.{arith}
use mathlib.Core.Path.{◌≡◌, sym, ap, ap₂, ◌∙◌}
use mathlib.Core.List.{List, ◌++◌, map, map-map, map-append}
use lib.ListN.{length}
use lib.Dec.{T}
use lib.Ieee.{Float}
use Rattle.layout.specs.General.Lists.{below, sum, join, starts_from}
use Rattle.layout.specs.Problems.Problem.{Csc}
use Rattle.layout.specs.Checks.{starts_right}
use Rattle.layout.specs.Cuts.Compact.{Entry, column, csc}
use Rattle.layout.proofs.Lists.Starts.{join-append}
use Rattle.layout.proofs.Columns.Columns.{RightStarts, starts-right, columns_sum}
use Rattle.layout.proofs.Columns.Compressed.{totals, starts-append, own-rows, own-values, own-starts}
use Rattle.csc.specs.Matrix.{ColumnsInside}

-- ---- concatenated columns

-- one field of the entries of concatenated columns
pub fields-append : {X : Type 0} (field : Entry → X) (cs ds : List (List Entry))
    → map field (join (λ c. c) (cs ++ ds)) ≡ map field (join (λ c. c) cs) ++ map field (join (λ c. c) ds)
fields-append field cs ds =
    ap (map field) (join-append (λ (c : List Entry). c) cs ds) ∙ map-append field (join (λ c. c) cs) (join (λ c. c) ds)

-- ---- the columns of a matrix

-- starts that pass check 2 lie within the rows
pub columns_inside : (n : ℕ) (M : Csc) → T (starts_right n M) → ColumnsInside n M.starts M.rows
columns_inside n M h =
    let right = starts-right n M h in
    (le_of_eq (sym right.count), λ c l. (right.rise c l, right.inside (suc c) l))

module _ (n : ℕ) (M : Csc) (right : RightStarts n M) where
  own-count : sum (map length (map (column M) (below n))) ≡ length M.values
  own-count = ap sum (map-map length (column M) (below n)) ∙ columns_sum n M right n (le_refl n) ∙ right.last ∙ right.even

  -- the starts of the matrix with columns ds after its own
  pub starts_beside : (ds : List (List Entry))
      → (csc (map (column M) (below n) ++ ds)).starts ≡ M.starts ++ totals (length M.values) (map length ds)
  starts_beside ds =
      ap (starts_from 0) (map-append length (map (column M) (below n)) ds)
      ∙ starts-append 0 (map length (map (column M) (below n))) (map length ds)
      ∙ ap₂ (λ (r : List ℕ) (s : ℕ). r ++ totals s (map length ds)) (own-starts n M right) (omega (arith, own-count))

  pub rows_beside : (ds : List (List Entry)) → (csc (map (column M) (below n) ++ ds)).rows ≡ M.rows ++ (csc ds).rows
  rows_beside ds =
      fields-append (λ (e : Entry). e.row) (map (column M) (below n)) ds ∙ ap (λ (r : List ℕ). r ++ (csc ds).rows) (own-rows n M right)

  pub values_beside : (ds : List (List Entry)) → (csc (map (column M) (below n) ++ ds)).values ≡ M.values ++ (csc ds).values
  values_beside ds =
      fields-append (λ (e : Entry). e.value) (map (column M) (below n)) ds ∙ ap (λ (r : List Float). r ++ (csc ds).values) (own-values n M right)
