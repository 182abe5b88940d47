-- Averages of z, taken with a table of the number of columns of H that have their entry in each row.
use Rattle.std.specs.Prelude.{ℕ, ◌≤◌, ◌<◌, ◌≡◌, cond, List, get_or, ltb, pos, Float}
use Rattle.std.specs.Float.{nan, binary64}
use Rattle.std.specs.Float.Ieee.{div, of_int}

-- the average of a sum v over k columns of H: v itself where k is below 2
abbrev pub shared : ℕ → Float → Float
shared k v = cond (ltb 1 k) (div binary64 v (of_int binary64 (pos k))) v

-- the averaged value at row o, with the count from the table
abbrev pub averaged_by : List ℕ → List Float → ℕ → Float
averaged_by counts ws o = shared (get_or counts o 0) (get_or ws o nan)

-- the first n counts are 0, and the remaining ones are unchanged
abbrev pub Clears : ℕ → List ℕ → List ℕ → Type 0
Clears n old new = (o : ℕ) → (o < n → get_or new o 0 ≡ 0) × (n ≤ o → get_or new o 0 ≡ get_or old o 0)
