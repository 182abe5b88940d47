-- The lengths of the generated problem's eleven tables, given the number of entries of A, and those of the outputs for A and b.
use Rattle.std.specs.Prelude.{ℕ, suc, ◌+◌, ◌-◌, ◌*◌, ◌≡◌, List, [], ◌∷◌, get_or}
use Rattle.layout.specs.General.Triangle.{triangle}

abbrev pub lengths_of : ℕ → ℕ → ℕ → ℕ → List ℕ
lengths_of v w n k = suc n ∷ 0 ∷ 0 ∷ n ∷ suc n ∷ k ∷ k ∷ triangle v ∷ 3 ∷ 0 ∷ (3 + v + (v - w) * (w + 4)) ∷ []

-- of the lengths in rooms, one for each output, those of A's starts, rows and values and of b
abbrev pub RoomsOf : List ℕ → ℕ → ℕ → ℕ → ℕ → Type 0
RoomsOf rooms starts rows values b = (get_or rooms 4 0 ≡ starts) × (get_or rooms 5 0 ≡ rows) × (get_or rooms 6 0 ≡ values) × (get_or rooms 7 0 ≡ b)
