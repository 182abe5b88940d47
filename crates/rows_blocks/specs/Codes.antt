-- The rows of one pattern as a table of numbers.
use Rattle.std.specs.Prelude.{ℕ, List, map}
use Rattle.layout.specs.General.Lists.{below, join}
use Rattle.layout.specs.Problems.Patterns.{Pattern, clique_count}
use Rattle.layout.specs.Rows.Blocks.{block, pair_row}

-- the standard route's rows of a pattern: the original row of each block entry, cliques from first to last
abbrev pub standard_pattern_rows : Pattern → ℕ → List ℕ
standard_pattern_rows p base = join (λ c. map (pair_row base) (block p c)) (below (clique_count p))
