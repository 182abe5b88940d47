-- A pattern's cliques found by their offsets, and the first row of each block.
use Rattle.std.specs.Prelude.{ℕ, suc, ◌+◌, ◌≤◌, ◌<◌, ◌≡◌, true, cond, List, map, reverse, length, get_or, drop, eqb}
use Rattle.layout.specs.General.Lists.{sum, below, join, written}
use Rattle.layout.specs.General.Triangle.{triangle}
use Rattle.layout.specs.Problems.Patterns.{read_clique, block_size}
use Rattle.layout.specs.Rows.Blocks.{pairs}
use Rattle.supernode_tree.specs.Reads.{is_whole, clique_here}
use Rattle.rows_blocks.specs.Cliques.{vertices_here, rows_here, SortableCliques}
use Rattle.rows_parent.specs.Places.{tie_code}

-- whether each offset is the start of a complete clique
abbrev pub AllFound : List ℕ → List ℕ → Type 0
AllFound ws os = (c : ℕ) → c < length os → is_whole (read_clique (drop (get_or os c 0) ws)) ≡ true

-- the number of rows of the block of the clique at an offset
abbrev pub size_here : List ℕ → ℕ → ℕ
size_here ws at = triangle (block_size (clique_here ws at))

-- whether `starts` holds the first row of each block, where a block comes after those of all later cliques
abbrev pub FirstRows : List ℕ → List ℕ → ℕ → List ℕ → Type 0
FirstRows ws os first starts = (c : ℕ) → c < length os → get_or starts c 0 ≡ first + sum (map (size_here ws) (drop (suc c) os))

-- the codes of the clique at offset `at`, whose parent is the clique at offset `parent`
unfoldable pub tied_here : ℕ → ℕ → List ℕ → List ℕ → ℕ → ℕ → List ℕ
tied_here base start ws ordering parent at = map (tie_code (vertices_here ws ordering parent) base start) (pairs (vertices_here ws ordering at))

-- the codes of clique c; the last one has no parent
unfoldable pub codes_here : ℕ → List ℕ → List ℕ → List ℕ → List ℕ → ℕ → List ℕ
codes_here base ws ordering os starts c =
    let at = get_or os c 0 in
    let parent = (clique_here ws at).parent in
    cond (eqb (suc c) (length os)) (rows_here base ws ordering at) (tied_here base (get_or starts parent 0) ws ordering (get_or os parent 0) at)

-- each offset is that of a valid clique, all cliques but the last have a parent, and no block starts above row 262,144
pub record Tied (ws ordering os starts : List ℕ) : Type 0 where
  pub standing : SortableCliques ws ordering os
  pub parents : (c : ℕ) → suc c < length os → (clique_here ws (get_or os c 0)).parent < length os
  pub starting : length os ≤ length starts
  pub low : (c : ℕ) → c < length os → get_or starts c 0 ≤ 262144

-- the codes of all cliques, from last to first
abbrev pub codes_down : ℕ → List ℕ → List ℕ → List ℕ → List ℕ → List ℕ
codes_down base ws ordering os starts = join (codes_here base ws ordering os starts) (reverse (below (length os)))

-- for every table of first rows: the cliques meet `Tied`, and the output has room for their codes
abbrev pub CliquesTied : ℕ → ℕ → List ℕ → List ℕ → List ℕ → ℕ → Type 0
CliquesTied base first ws ordering os room =
    (starts : List ℕ) → length os ≤ length starts → FirstRows ws os first starts
    → Tied ws ordering os starts × (length (codes_down base ws ordering os starts) ≤ room)

-- the r codes were written, computed with some table of first rows
pub record Coded (base first : ℕ) (ws ordering os : List ℕ) (r : ℕ) (old new : List ℕ) : Type 0 where
  pub starts : List ℕ
  pub room : length os ≤ length starts
  pub rows : FirstRows ws os first starts
  pub count : r ≡ length (codes_down base ws ordering os starts)
  pub wrote : new ≡ written (codes_down base ws ordering os starts) old
