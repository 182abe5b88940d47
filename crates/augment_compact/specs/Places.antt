-- The augmented rows of original rows, and the conditions on A's columns and on the run starts. Definitions only.
use Rattle.std.specs.Prelude.{ℕ, suc, ◌≤◌, ◌<◌, ◌≡◌, cond, List, [], ◌∷◌, length, get_or, set, T, ltb}
use Rattle.layout.specs.General.Lists.{never_falls}
use Rattle.layout.specs.Problems.Problem.{Csc}
use Rattle.layout.specs.Checks.{column_rows}
use Rattle.layout.specs.Cuts.Runs.{run_count}

-- the table from original row to augmented row, with the given codes written to it, the first for row r
abbrev pub row_table : ℕ → List ℕ → List ℕ → List ℕ
row_table r [] t = t
row_table r (c ∷ cs) t = row_table (suc r) cs (cond (ltb c 65536) (set t c r) t)

-- whether the rows of each column never decrease
abbrev pub ColumnsInOrder : ℕ → Csc → Type 0
ColumnsInOrder n M = (c : ℕ) → c < n → T (never_falls (column_rows M c))

-- whether a table begins with the column starts of the matrix with one entry for each run
abbrev pub RunsStart : ℕ → Csc → List ℕ → Type 0
RunsStart n M starts = (n < length starts) × ((c : ℕ) → c ≤ n → get_or starts c 0 ≡ run_count c M)
