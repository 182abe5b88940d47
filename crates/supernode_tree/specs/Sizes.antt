-- The sizes of blocks.
use Rattle.std.specs.Prelude.{ℕ, Bool, length, leb}
use Rattle.layout.specs.General.Triangle.{triangle}
use Rattle.layout.specs.Problems.Patterns.{Clique, block_size}

-- a clique's block has at most n vertices
abbrev pub block_at_most : ℕ → Clique → Bool
block_at_most n c = leb (block_size c) n

-- the rows of a clique's block, and how many of them are overlaps
abbrev pub dim_of : Clique → ℕ
dim_of c = triangle (block_size c)

abbrev pub overlaps_of : Clique → ℕ
overlaps_of c = triangle (length c.separator)
