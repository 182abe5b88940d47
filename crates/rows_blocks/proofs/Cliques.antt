-- The sorted vertices of the clique at an offset, and its rows.
use Prim.Native.Nat.{ℕ, suc, ◌+◌, ◌≤◌}
use native.Mathlib.Omega.{arith}
use mathlib.Core.Path.{◌≡◌, ◌∙◌}
use mathlib.Core.List.{List}
use lib.ListN.{length, get_or, length-map}
use lib.Dec.{T}
use Rattle.layout.specs.General.Lists.{has, below, rises, Below}
use Rattle.layout.specs.General.Triangle.{triangle}
use Rattle.layout.specs.Problems.Patterns.{members}
use Rattle.layout.specs.Rows.Blocks.{pairs, pair_row}
use Rattle.layout.proofs.Lists.Members.{has-keep, has_get_or, has-below, length-up_from}
use Rattle.layout.proofs.Lists.Distinct.{length-keep}
use Rattle.layout.proofs.Lists.Rising.{rises-keep, rises-up_from}
use Rattle.layout.proofs.Numbers.Triangles.{triangle_mono}
use Rattle.layout.proofs.Patterns.Pairs.{length_pairs}
use Rattle.rows_blocks.specs.Vertices.{originals_of}
use Rattle.rows_blocks.specs.Columns.{ColumnsFit}
use Rattle.rows_blocks.specs.Cliques.{vertices_here, rows_here}
use Rattle.supernode_tree.specs.Reads.{clique_here}

module _ (ws ordering : List ℕ) (at : ℕ) where
  pub vertices_rise : T (rises (vertices_here ws ordering at))
  unfolding vertices_here
  vertices_rise =
      rises-keep (λ w. has w (originals_of ordering (members (clique_here ws at)))) (below (length ordering)) (rises-up_from 0 (length ordering))

  pub vertices-few : length (vertices_here ws ordering at) ≤ length ordering
  unfolding vertices_here
  vertices-few =
      omega (arith, length-keep (λ w. has w (originals_of ordering (members (clique_here ws at)))) (below (length ordering)), length-up_from 0 (length ordering))

  pub vertices-below : Below (length ordering) (vertices_here ws ordering at)
  unfolding vertices_here
  vertices-below k l =
      let vs = vertices_here ws ordering at in
      (has-below (get_or vs k 0) (length ordering)).0
      ((has-keep (λ w. has w (originals_of ordering (members (clique_here ws at)))) (get_or vs k 0) (below (length ordering))).0 (has_get_or vs k 0 l)).0

  pub vertices_fit : (base n : ℕ) → base + triangle (length ordering) ≤ n → ColumnsFit base (vertices_here ws ordering at) n
  vertices_fit base n h k l =
      omega (arith, triangle_mono (suc (get_or (vertices_here ws ordering at) k 0)) (length ordering) (vertices-below k l))

  pub length-rows : (base : ℕ) → length (rows_here base ws ordering at) ≡ triangle (length (vertices_here ws ordering at))
  unfolding rows_here
  length-rows base = length-map (pairs (vertices_here ws ordering at)) (pair_row base) ∙ length_pairs (vertices_here ws ordering at)
