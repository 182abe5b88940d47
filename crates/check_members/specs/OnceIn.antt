-- Duplicate-free lists whose members are in another list.
use Rattle.std.specs.Prelude.{ℕ, suc, ◌≡◌, Bool, true, ◌&&◌, List, [], ◌∷◌, length, leb, ltb}
use Rattle.layout.specs.General.Lists.{has, all, keep, distinct}
use Rattle.utils.specs.Windows.{within, Marked}

-- whether us is duplicate-free with all numbers in ms
abbrev pub once_in : List ℕ → List ℕ → Bool
once_in ms us = distinct us && all (λ u. has u ms) us

-- whether us is duplicate-free with all numbers below n
abbrev pub once_below : ℕ → List ℕ → Bool
once_below n us = all (λ x. ltb x n) us && distinct us

-- whether us is duplicate-free with all numbers below n and in ms
abbrev pub once_below_in : ℕ → List ℕ → List ℕ → Bool
once_below_in n ms us = all (λ x. ltb x n) us && once_in ms us

-- whether the list is strictly increasing, from `least` at the lowest, with all numbers below n
abbrev pub rises_below : ℕ → ℕ → List ℕ → Bool
rises_below least n [] = true
rises_below least n (x ∷ xs) = leb least x && (ltb x n && rises_below (suc x) n xs)

-- the contract of unmarking: where the marks are those of ms, r says whether the words in the window are duplicate-free and in ms
abbrev pub Unmarks : ℕ → List Bool → List ℕ → Bool → Type 0
Unmarks low old ws r = (ms : List ℕ) → Marked low old ms → r ≡ once_in ms (keep (within low (length old)) ws)
