-- The order of blocks on the two routes: within a pattern, cliques go from first to last on the standard route and from last to first
-- on the compact route. Definitions only.
use Rattle.std.specs.Prelude.{ℕ, List, [], ◌∷◌, ◌++◌, map, reverse, take, drop}
use Rattle.layout.specs.General.Lists.{sum}
use Rattle.layout.specs.General.Triangle.{triangle}
use Rattle.layout.specs.Problems.Cones.{row_count}
use Rattle.layout.specs.Problems.Patterns.{block_size}
use Rattle.layout.specs.Rows.Blocks.{Part, whole, cut}

-- the row count of each block of a part, cliques from first to last; an undecomposed cone is one block
abbrev pub block_lengths : Part → List ℕ
block_lengths (whole i c row) = row_count c ∷ []
block_lengths (cut i row k p) = map (λ c. triangle (block_size c)) p.cliques

module _ {A : Type 0} where
  -- the values, split into blocks of the lengths ks, with the blocks in reverse order
  abbrev pub last_first : List ℕ → List A → List A
  last_first [] vs = []
  last_first (k ∷ ks) vs = last_first ks (drop k vs) ++ take k vs

  -- the same for consecutive groups of blocks: the blocks are reversed within each group
  abbrev pub groups_last_first : List (List ℕ) → List A → List A
  groups_last_first [] vs = []
  groups_last_first (ks ∷ kss) vs = last_first ks vs ++ groups_last_first kss (drop (sum ks) vs)

  -- values, one for each block row, reordered from the standard order to the compact one
  abbrev pub compact_order : List Part → List A → List A
  compact_order ps vs = groups_last_first (map block_lengths ps) vs

  -- and from the compact order to the standard one
  abbrev pub standard_order : List Part → List A → List A
  standard_order ps vs = groups_last_first (map (λ x. reverse (block_lengths x)) ps) vs
