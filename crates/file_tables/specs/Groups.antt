-- Tables of the file that are written together. Definitions only.
use Rattle.std.specs.Prelude.{ℕ, List, [], ◌∷◌}
use Rattle.layout.specs.General.Bytes.{table_bytes}

-- the bytes of starts, rows, values and a vector: P and q, or A and b
abbrev pub matrix_bytes : List ℕ → List ℕ → List ℕ → List ℕ → List (List ℕ)
matrix_bytes starts rows values side = table_bytes 4 starts ∷ table_bytes 4 rows ∷ table_bytes 8 values ∷ table_bytes 8 side ∷ []

-- the bytes of cones, α and pattern words
abbrev pub layout_bytes : List ℕ → List ℕ → List ℕ → List (List ℕ)
layout_bytes cones alphas words = table_bytes 4 cones ∷ table_bytes 8 alphas ∷ table_bytes 4 words ∷ []
