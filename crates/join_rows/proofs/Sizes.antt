-- The blocks of a pattern in the compact route's order: how many there are and how many rows they have; and the cone map, which has the first row
-- of each block.
use Prim.Native.Nat.{ℕ, ◌+◌}
use native.Mathlib.Omega.{arith}
use mathlib.Core.Path.{◌≡◌, refl, sym, ap, ap₂, subst, ◌∙◌}
use mathlib.Core.Bool.{Bool}
use mathlib.Core.List.{List, [], ◌∷◌, ◌++◌, map, map-append, map-map, reverse}
use lib.ListN.{length, length-map, length-reverse}
use Rattle.layout.specs.General.Lists.{below, sum}
use Rattle.layout.specs.General.Triangle.{triangle}
use Rattle.layout.specs.Problems.Patterns.{Pattern, Clique, no_clique, block_size, clique_at, clique_count}
use Rattle.layout.specs.Rows.Blocks.{Part, whole, cut, block_rows, part_rows, block_row_count}
use Rattle.layout.specs.Cuts.Compact.{block_entry, map_part, map_from, cone_map, map_words}
use Rattle.layout.proofs.Lists.Members.{length-below}
use Rattle.layout.proofs.Lists.Joins.{map-drop, sum-down}
use Rattle.layout.proofs.Rows.ConeMap.{entry_rows, map_follows}
use Rattle.reverse_standard.specs.Routes.{Starts}
use Rattle.reverse_standard.proofs.Starts.{starts-told}
use Rattle.join_blocks.specs.Joins.{down_sizes}
use Rattle.join_rows.specs.Joined.{part_sizes, block_sizes}

pub sizes-count : (p : Pattern) → length (down_sizes p) ≡ clique_count p
sizes-count p =
    length-map (reverse (below (clique_count p))) (λ c. triangle (block_size (clique_at p c))) ∙ length-reverse (below (clique_count p)) ∙ length-below (clique_count p)

pub sizes-sum : (p : Pattern) → sum (down_sizes p) ≡ block_rows p
sizes-sum p =
    sum-down (λ c. triangle (block_size (clique_at p c))) (clique_count p)
    ∙ sym (ap sum (map-drop (λ (q : Clique). triangle (block_size q)) no_clique p.cliques 0 (clique_count p) (omega arith)))

-- the row counts in the map are the block sizes
entry_rows_lem : (first : ℕ) (ps : List Part) → map entry_rows (map_from first ps) ≡ block_sizes ps
entry_rows_lem first [] = refl
entry_rows_lem first (whole i c row ∷ ps) =
    map-append entry_rows (map_part first (whole i c row)) (map_from (first + part_rows (whole i c row)) ps)
    ∙ ap (λ (ns : List ℕ). part_sizes (whole i c row) ++ ns) (entry_rows_lem (first + part_rows (whole i c row)) ps)
entry_rows_lem first (cut i row k p ∷ ps) =
    map-append entry_rows (map_part first (cut i row k p)) (map_from (first + block_rows p) ps)
    ∙ ap₂ ◌++◌ (map-map entry_rows (block_entry i k p first) (reverse (below (clique_count p)))) (entry_rows_lem (first + block_rows p) ps)

-- the words of the map have the first row of each block
pub map_tells : (standard : Bool) (ps : List Part) → Starts standard (map_words (cone_map ps)) 0 0 (block_sizes ps)
map_tells standard ps =
    subst (Starts standard (map_words (cone_map ps)) 0 0) (entry_rows_lem 0 ps) (starts-told standard (cone_map ps) (0 + block_row_count ps) (map_follows 0 ps))
