-- The packed upper triangle, column by column (svec order): the pair (i, j) with i ≤ j is at index j(j + 1)/2 + i.
use Rattle.std.specs.Prelude.{ℕ, suc, ◌+◌, ◌-◌, ◌*◌, ◌/◌, cond, length, leb}
use Rattle.layout.specs.General.Lists.{keep, below}

-- the number of pairs i ≤ j < k, which is also the index where column k starts
abbrev pub triangle : ℕ → ℕ
triangle k = k * suc k / 2

abbrev pub pair_index : ℕ → ℕ → ℕ
pair_index i j = cond (leb i j) (triangle j + i) (triangle i + j)

-- the column of index t, for t below triangle 256: the number of columns that lie wholly before t
abbrev pub index_column : ℕ → ℕ
index_column t = length (keep (λ j. leb (triangle (suc j)) t) (below 256))

abbrev pub index_row : ℕ → ℕ
index_row t = t - triangle (index_column t)
