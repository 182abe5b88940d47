-- Consecutive numbers written at the indices that a list gives.
use Rattle.std.specs.Prelude.{ℕ, suc, ◌<◌, ◌≡◌, not, List, [], ◌∷◌, length, get_or, set, eqb}
use Rattle.layout.specs.General.Lists.{has}

-- k at the first index in xs, k + 1 at the second, and so on; a later number overwrites an earlier one at the same index
abbrev pub scattered : ℕ → List ℕ → List ℕ → List ℕ
scattered k [] old = old
scattered k (x ∷ xs) old = scattered (suc k) xs (set old x k)

-- the table has `none` exactly at the indices that are not among those met
abbrev pub Placed : ℕ → List ℕ → List ℕ → Type 0
Placed none table met = (v : ℕ) → v < length table → eqb (get_or table v 0) none ≡ not (has v met)
