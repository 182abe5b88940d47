-- The test for a permutation, number by number.
use Rattle.std.specs.Prelude.{ℕ, ◌≡◌, List, T, ltb, length, take, drop}
use Rattle.layout.specs.General.Lists.{all, keep, distinct}

-- the numbers of ws before index k are below its length and duplicate-free
abbrev pub PassedTo : List ℕ → ℕ → Type 0
PassedTo ws k = T (distinct (keep (λ x. ltb x (length ws)) (take k ws))) × (all (λ x. ltb x (length ws)) ws ≡ all (λ x. ltb x (length ws)) (drop k ws))
