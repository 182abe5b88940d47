-- The standard cut. Definitions only.
use Rattle.std.specs.Prelude.{ℕ, suc, List, [], ◌∷◌, ◌++◌, map, replicate, Float}
use Rattle.layout.specs.General.Lists.{below, join}
use Rattle.layout.specs.General.Floats.{zero64, one64, minus_one64}
use Rattle.layout.specs.Problems.Problem.{Problem, Csc}
use Rattle.layout.specs.Problems.Patterns.{clique_at, clique_count, block_size}
use Rattle.layout.specs.Rows.Blocks.{Part, whole, cut, standard_rows, block_row_count}
use Rattle.layout.specs.Checks.{layout}
use Rattle.layout.specs.Cuts.Compact.{Entry, column, csc, extended_p, cone_words, psd_words}

-- a column of H over -I: 1 at the original row o, -1 at row r, which is m + k for column k
abbrev pub block_column : ℕ → ℕ → List Entry
block_column o r = record { row = o; value = one64 } ∷ record { row = r; value = minus_one64 } ∷ []

abbrev pub block_columns : ℕ → List ℕ → List (List Entry)
block_columns r [] = []
block_columns r (o ∷ os) = block_column o r ∷ block_columns (suc r) os

abbrev pub standard_a : Problem → Csc
standard_a p = csc (map (column p.A) (below p.n) ++ block_columns p.m (standard_rows (layout p)))

abbrev pub standard_b : Problem → List Float
standard_b p = p.b ++ replicate (block_row_count (layout p)) zero64

abbrev pub standard_p : Problem → Csc
standard_p p = extended_p (block_row_count (layout p)) p.P

abbrev pub standard_q : Problem → List Float
standard_q p = p.q ++ replicate (block_row_count (layout p)) zero64

-- the cone records: Zero(m), then the cones in order, cliques from first to last
abbrev pub standard_part : Part → List ℕ
standard_part (whole i c row) = cone_words c
standard_part (cut i row k p) = join (λ c. psd_words (block_size (clique_at p c))) (below (clique_count p))

abbrev pub standard_cones : Problem → List ℕ
standard_cones p = 0 ∷ p.m ∷ 0 ∷ join standard_part (layout p)
