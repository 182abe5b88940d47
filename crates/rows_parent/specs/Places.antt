-- The places of a block's vertices in the parent's block, and the codes of the block's entries.
use Rattle.std.specs.Prelude.{ℕ, suc, ◌+◌, ◌-◌, ◌≤◌, ◌<◌, ◌≡◌, cond, ◌&&◌, List, get_or, T, eqb}
use Rattle.layout.specs.General.Lists.{has, place_in}
use Rattle.layout.specs.General.Triangle.{pair_index}
use Rattle.layout.specs.Rows.Blocks.{Pair, pair}
use Rattle.rows_blocks.specs.Vertices.{vertex_marked}

-- a table indexed by vertex: one more than its place in vs for each vertex of vs, and 0 for every other vertex
pub record Places (vs places : List ℕ) : Type 0 where
  pub held : (v : ℕ) → T (has v vs) → get_or places v 0 ≡ suc (place_in vs v)
  pub others : (v : ℕ) → (T (has v vs) → ⊥) → get_or places v 0 ≡ 0

-- places are at most 256, and rise with the vertex
pub record Climbing (places : List ℕ) : Type 0 where
  pub few : (v : ℕ) → get_or places v 0 ≤ 256
  pub climbs : (v w : ℕ) → v ≤ w → 0 < get_or places v 0 → 0 < get_or places w 0 → get_or places v 0 ≤ get_or places w 0

-- the code of a pair: 65536 plus its row in the parent's block, whose first row is start, where the parent has both vertices; else its original row
abbrev pub tie_code : List ℕ → ℕ → ℕ → Pair → ℕ
tie_code parent base start (pair i j) =
    cond (has i parent && has j parent) (65536 + (start + pair_index (place_in parent i) (place_in parent j))) (base + pair_index i j)

-- the code of a pair, computed from the table of places
abbrev pub place_code : List ℕ → ℕ → ℕ → Pair → ℕ
place_code places base start (pair i j) =
    cond (vertex_marked places i && vertex_marked places j)
    (65536 + (start + pair_index (get_or places i 0 - 1) (get_or places j 0 - 1)))
    (base + pair_index i j)

-- the code of an entry whose column's vertex has a place: an offset from tied where its row's vertex has one too, else from row
abbrev pub tied_entry : List ℕ → ℕ → ℕ → Pair → ℕ
tied_entry places row tied (pair i j) = cond (eqb (get_or places i 0) 0) (row + i) (tied + (get_or places i 0 - 1))
