-- Whether the second list is a prefix of the first, and where the rows of map entries end.
use Rattle.std.specs.Prelude.{ℕ, ◌+◌, ◌*◌, ◌≤◌, ◌≡◌, Bool, true, false, ◌&&◌, List, [], ◌∷◌, ◌++◌, length, eqb}

abbrev pub begins : List ℕ → List ℕ → Bool
begins xs [] = true
begins [] (y ∷ ys) = false
begins (x ∷ xs) (y ∷ ys) = eqb x y && begins xs ys

-- if xs start with k entries of five words, and the rows of the last end at 262144 at most, they end at r
abbrev pub Tells : List ℕ → ℕ → ℕ → Type 0
Tells xs k r =
    (ws : List ℕ) (i p c f n : ℕ) → length ws + 5 ≡ k * 5 → begins xs (ws ++ (i ∷ p ∷ c ∷ f ∷ n ∷ [])) ≡ true → f + n ≤ 262144 → r ≡ f + n
