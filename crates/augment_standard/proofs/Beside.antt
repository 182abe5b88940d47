-- For an A that passes check 2, `besideH` is the layout's standard matrix.
use Prim.Native.Nat.{ℕ, suc, ◌+◌}
use mathlib.Core.Path.{◌≡◌, refl, sym, ap, ◌∙◌}
use mathlib.Core.List.{List, [], ◌∷◌, ◌++◌, map}
use lib.ListN.{length}
use lib.Dec.{T}
use lib.Ieee.{Float}
use Rattle.layout.specs.General.Lists.{below}
use Rattle.layout.specs.General.Floats.{one64, minus_one64}
use Rattle.layout.specs.Problems.Problem.{Problem, Csc}
use Rattle.layout.specs.Rows.Blocks.{standard_rows}
use Rattle.layout.specs.Checks.{layout, starts_right}
use Rattle.layout.specs.Cuts.Compact.{column, csc}
use Rattle.layout.specs.Cuts.Standard.{block_columns, standard_a}
use Rattle.layout.proofs.Columns.Columns.{RightStarts, starts-right}
use Rattle.layout.proofs.Columns.Compressed.{totals}
use Rattle.csc.proofs.Compressed.{starts_beside, rows_beside, values_beside}
use Rattle.augment_standard.specs.Beside.{h_starts, h_rows, pair_values, beside_h}

columns_starts : (a r : ℕ) (os : List ℕ) → totals a (map length (block_columns r os)) ≡ h_starts a (length os)
columns_starts a r [] = refl
columns_starts a r (o ∷ os) = ap (λ (l : List ℕ). (a + 2) ∷ l) (columns_starts (a + 2) (suc r) os)

columns_rows : (r : ℕ) (os : List ℕ) → (csc (block_columns r os)).rows ≡ h_rows r os
columns_rows r [] = refl
columns_rows r (o ∷ os) = ap (λ (l : List ℕ). o ∷ r ∷ l) (columns_rows (suc r) os)

columns_values : (r : ℕ) (os : List ℕ) → (csc (block_columns r os)).values ≡ pair_values one64 minus_one64 (length os)
columns_values r [] = refl
columns_values r (o ∷ os) = ap (λ (l : List Float). one64 ∷ minus_one64 ∷ l) (columns_values (suc r) os)

beside_columns : (n : ℕ) (A : Csc) → T (starts_right n A) → (m : ℕ) (os : List ℕ)
    → beside_h A m os ≡ csc (map (column A) (below n) ++ block_columns m os)
beside_columns n A h m os = sym (λ i. record { starts = starts i; rows = rows i; values = values i })
  where
    right : RightStarts n A
    right = starts-right n A h

    starts : (csc (map (column A) (below n) ++ block_columns m os)).starts ≡ (beside_h A m os).starts
    starts = starts_beside n A right (block_columns m os) ∙ ap (λ (l : List ℕ). A.starts ++ l) (columns_starts (length A.values) m os)

    rows : (csc (map (column A) (below n) ++ block_columns m os)).rows ≡ (beside_h A m os).rows
    rows = rows_beside n A right (block_columns m os) ∙ ap (λ (l : List ℕ). A.rows ++ l) (columns_rows m os)

    values : (csc (map (column A) (below n) ++ block_columns m os)).values ≡ (beside_h A m os).values
    values = values_beside n A right (block_columns m os) ∙ ap (λ (l : List Float). A.values ++ l) (columns_values m os)

-- the tables written are those of the standard cut
pub beside_standard : (p : Problem) → T (starts_right p.n p.A) → beside_h p.A p.m (standard_rows (layout p)) ≡ standard_a p
beside_standard p h = beside_columns p.n p.A h p.m (standard_rows (layout p))
