-- A matrix from its three tables, for use in contracts. Definitions only.
use Rattle.std.specs.Prelude.{ℕ, suc, ◌≤◌, ◌<◌, List, [], length, get_or, Float}
use Rattle.layout.specs.Problems.Problem.{Csc}

abbrev pub matrix : List ℕ → List ℕ → List Float → Csc
matrix starts rows values = record { starts = starts; rows = rows; values = values }

-- a matrix without values, where only starts and rows matter
abbrev pub table : List ℕ → List ℕ → Csc
table starts rows = matrix starts rows []

-- whether the starts of the n columns never decrease and lie within the rows
abbrev pub ColumnsInside : ℕ → List ℕ → List ℕ → Type 0
ColumnsInside n starts rows =
    (suc n ≤ length starts) × ((c : ℕ) → c < n → (get_or starts c 0 ≤ get_or starts (suc c) 0) × (get_or starts (suc c) 0 ≤ length rows))
