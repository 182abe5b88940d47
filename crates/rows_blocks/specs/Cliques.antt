-- The clique at an offset of a pattern's words, and its block.
use Rattle.std.specs.Prelude.{ℕ, ◌<◌, ◌≡◌, true, List, map, length, get_or, drop}
use Rattle.layout.specs.Problems.Patterns.{members, read_clique}
use Rattle.layout.specs.Rows.Blocks.{pairs, pair_row}
use Rattle.supernode_tree.specs.Reads.{is_whole, clique_here}
use Rattle.rows_blocks.specs.Vertices.{Sortable, sorted_of}

-- the sorted original vertices of the clique at an offset
unfoldable pub vertices_here : List ℕ → List ℕ → ℕ → List ℕ
vertices_here ws ordering at = sorted_of ordering (members (clique_here ws at))

-- the original rows of its block
unfoldable pub rows_here : ℕ → List ℕ → List ℕ → ℕ → List ℕ
rows_here base ws ordering at = map (pair_row base) (pairs (vertices_here ws ordering at))

-- the clique at an offset is complete, and its members can be sorted
pub record SortableClique (ws ordering : List ℕ) (at : ℕ) : Type 0 where
  pub found : is_whole (read_clique (drop at ws)) ≡ true
  pub sortable : Sortable ordering (members (clique_here ws at))

-- such a clique is at each of the offsets os
abbrev pub SortableCliques : List ℕ → List ℕ → List ℕ → Type 0
SortableCliques ws ordering os = (c : ℕ) → c < length os → SortableClique ws ordering (get_or os c 0)
