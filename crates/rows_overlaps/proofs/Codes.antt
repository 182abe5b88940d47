-- The codes of one clique and of all cliques, found by their offsets.
use Prim.Native.Nat.{ℕ, suc, ◌+◌, ◌≤◌, ◌<◌}
use native.Mathlib.Omega.{arith}
use mathlib.Core.Path.{◌≡◌, ap, fun_ext, ◌∙◌}
use mathlib.Core.List.{List, ◌++◌, map, reverse}
use lib.ListN.{length, get_or, drop, length-map}
use borrow.Author.Tests.{eq-eqb, ne_eqb}
use Rattle.layout.specs.General.Lists.{below, join}
use Rattle.layout.specs.General.Triangle.{triangle}
use Rattle.layout.specs.Rows.Blocks.{Pair, pairs}
use Rattle.layout.proofs.Lists.Members.{length-up_from, get_or-below}
use Rattle.layout.proofs.Patterns.Pairs.{length_pairs}
use Rattle.rows_blocks.specs.Cliques.{vertices_here, rows_here}
use Rattle.rows_blocks.proofs.Cliques.{vertices_rise}
use Rattle.rows_blocks.proofs.Orders.{down_more, down-room}
use Rattle.rows_parent.specs.Places.{Places, tie_code, place_code}
use Rattle.rows_overlaps.specs.Tables.{tied_here, codes_here}
use Rattle.rows_parent.proofs.Places.{code_places}
use Rattle.supernode_tree.specs.Reads.{clique_here}

module _ (base start : ℕ) (ws ordering : List ℕ) (parent at : ℕ) where
  pub length_tied : length (tied_here base start ws ordering parent at) ≡ triangle (length (vertices_here ws ordering at))
  unfolding tied_here
  length_tied =
      length-map (pairs (vertices_here ws ordering at)) (tie_code (vertices_here ws ordering parent) base start) ∙ length_pairs (vertices_here ws ordering at)

  -- codes computed with a table of each vertex's position in the parent's clique
  pub tied_places : (places : List ℕ) → Places (vertices_here ws ordering parent) places
      → map (place_code places base start) (pairs (vertices_here ws ordering at)) ≡ tied_here base start ws ordering parent at
  unfolding tied_here
  tied_places places h =
      ap (λ (f : Pair → ℕ). map f (pairs (vertices_here ws ordering at)))
      (fun_ext (code_places (vertices_here ws ordering parent) places (vertices_rise ws ordering parent) h base start))

module _ (base : ℕ) (ws ordering os starts : List ℕ) (c : ℕ) where
  -- the codes of the last clique
  pub codes_last : c + 1 ≡ length os → codes_here base ws ordering os starts c ≡ rows_here base ws ordering (get_or os c 0)
  unfolding codes_here
  codes_last e = rw (eq-eqb (suc c) (length os) (omega arith))

  -- the codes of a clique with a parent
  pub codes_tied : (parent : ℕ) → parent ≡ (clique_here ws (get_or os c 0)).parent → (c + 1 ≡ length os → ⊥)
      → codes_here base ws ordering os starts c ≡ tied_here base (get_or starts parent 0) ws ordering (get_or os parent 0) (get_or os c 0)
  unfolding codes_here
  codes_tied parent e n = rw (e, ne_eqb (suc c) (length os) (λ q. n (omega arith)))

-- ---- joining over numbers from last to first, where those from n on are done

module _ (f : ℕ → List ℕ) (k n : ℕ) (l : n < k) where
  pub numbers_more : join f (reverse (drop n (below k))) ≡ join f (reverse (drop (n + 1) (below k))) ++ f n
  numbers_more =
      down_more f 0 (below k) n (omega (arith, length-up_from 0 k))
      ∙ ap (λ (m : ℕ). join f (reverse (drop (n + 1) (below k))) ++ f m) (get_or-below k n 0 l)

  pub numbers_room : length (join f (reverse (drop (n + 1) (below k)))) + length (f n) ≤ length (join f (reverse (below k)))
  numbers_room =
      omega (arith, down-room f 0 (below k) n (omega (arith, length-up_from 0 k)), ap (λ (m : ℕ). length (f m)) (get_or-below k n 0 l))
