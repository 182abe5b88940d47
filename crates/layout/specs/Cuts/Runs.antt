-- Runs of a column: consecutive entries with the same row index. Definitions only.
use Rattle.std.specs.Prelude.{ℕ, zero, suc, ◌+◌, cond, List, [], ◌∷◌, map, length, get_or, drop, eqb, Float}
use Rattle.std.specs.Float.{nan}
use Rattle.layout.specs.General.Lists.{part, below, sum, starts_from}
use Rattle.layout.specs.General.Floats.{left_sum}
use Rattle.layout.specs.Problems.Problem.{Csc}
use Rattle.layout.specs.Checks.{column_rows}
use Rattle.layout.specs.Cuts.Compact.{column, csc, summed}

-- the row index of each run, once
abbrev pub runs_from : ℕ → List ℕ → List ℕ
runs_from r [] = r ∷ []
runs_from r (s ∷ rs) =
    let together = runs_from r rs in
    let apart = r ∷ runs_from s rs in
    cond (eqb r s) together apart

abbrev pub runs : List ℕ → List ℕ
runs [] = []
runs (r ∷ rs) = runs_from r rs

-- ---- the run that contains index t

abbrev pub run_first : List ℕ → ℕ → ℕ
run_first rows zero = zero
run_first rows (suc t) =
    let earlier = run_first rows t in
    let here = suc t in
    cond (eqb (get_or rows t 0) (get_or rows (suc t) 0)) earlier here

-- the number of entries at the start of the list that equal r
abbrev pub alike : ℕ → List ℕ → ℕ
alike r [] = 0
alike r (s ∷ rs) =
    let more = suc (alike r rs) in
    cond (eqb r s) more 0

abbrev pub run_last : List ℕ → ℕ → ℕ
run_last rows t = t + alike (get_or rows t 0) (drop (suc t) rows)

-- the run's values, added from left to right
abbrev pub run_sum : List ℕ → List Float → ℕ → Float
run_sum rows values t =
    let first = run_first rows t in
    left_sum (get_or values first nan) (part (suc first) (suc (run_last rows t)) values)

-- ---- a matrix of n columns

-- the matrix with the entries of each run added
abbrev pub sums : ℕ → Csc → Csc
sums n M = csc (map (λ c. summed (column M c)) (below n))

-- of that matrix: each column's entry count, the column starts, and the total entry count
abbrev pub run_counts : ℕ → Csc → List ℕ
run_counts n M = map (λ c. length (runs (column_rows M c))) (below n)

abbrev pub starts_of_runs : ℕ → Csc → List ℕ
starts_of_runs n M = starts_from 0 (run_counts n M)

abbrev pub run_count : ℕ → Csc → ℕ
run_count n M = sum (run_counts n M)
