-- A beside H, over zero beside -I, table by table. Definitions only.
use Rattle.std.specs.Prelude.{ℕ, zero, suc, ◌+◌, List, [], ◌∷◌, ◌++◌, length, Float}
use Rattle.layout.specs.General.Floats.{one64, minus_one64}
use Rattle.layout.specs.Problems.Problem.{Csc}

-- the ends of k columns of two entries each, after a entries
abbrev pub h_starts : ℕ → ℕ → List ℕ
h_starts a zero = []
h_starts a (suc k) = (a + 2) ∷ h_starts (a + 2) k

-- for each column its original row and its row of -I; the first row of -I is r
abbrev pub h_rows : ℕ → List ℕ → List ℕ
h_rows r [] = []
h_rows r (o ∷ os) = o ∷ r ∷ h_rows (suc r) os

-- the same two values for each of k columns
abbrev pub pair_values : Float → Float → ℕ → List Float
pair_values u v zero = []
pair_values u v (suc k) = u ∷ v ∷ pair_values u v k

abbrev pub beside_starts : List ℕ → ℕ → ℕ → List ℕ
beside_starts starts entries k = starts ++ h_starts entries k

abbrev pub beside_rows : List ℕ → ℕ → List ℕ → List ℕ
beside_rows rows m os = rows ++ h_rows m os

abbrev pub beside_values : List Float → ℕ → List Float
beside_values values k = values ++ pair_values one64 minus_one64 k

-- A, which has m rows, with a column of H over -I for each of the original rows os
abbrev pub beside_h : Csc → ℕ → List ℕ → Csc
beside_h A m os = record {
  starts = beside_starts A.starts (length A.values) (length os);
  rows = beside_rows A.rows m os;
  values = beside_values A.values (length os);
}
