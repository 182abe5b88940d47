-- The rows of a pattern's blocks lie in its cone.
use Prim.Native.Nat.{ℕ, ◌≤◌, ◌<◌}
use native.Mathlib.Omega.{arith}
use mathlib.Core.Path.{◌≡◌, ap, ◌∙◌}
use mathlib.Core.Bool.{true}
use mathlib.Core.List.{List, map}
use lib.ListN.{length, get_or}
use lib.Dec.{T, eqb}
use Rattle.layout.specs.General.Lists.{has, below, join}
use Rattle.layout.specs.General.Triangle.{triangle}
use Rattle.layout.specs.Problems.Patterns.{Pattern, clique_at, clique_count, members}
use Rattle.layout.specs.Rows.Blocks.{pair, pair_row, block}
use Rattle.layout.specs.Joinings.Reverse.{column_count}
use Rattle.layout.proofs.Lists.Tests.{eqb_iff}
use Rattle.layout.proofs.Lists.Members.{has-at, has_get_or, has_join, has-map}
use Rattle.layout.proofs.Lists.Rising.{keep-none}
use Rattle.layout.proofs.Numbers.Triangles.{triangle-column, pair_index-le}
use Rattle.layout.proofs.Patterns.Originals.{sorted_rises, sorted-bounded}
use Rattle.layout.proofs.Patterns.Cliques.{clique_vertices}
use Rattle.layout.proofs.Patterns.Pairs.{pair_entry}
use Rattle.join_blocks.specs.Joins.{own_rows}

module _ (p : Pattern) where
  abbrev pub pair_rows : ℕ → List ℕ → List ℕ
  pair_rows base cs = join (λ c. map (pair_row base) (block p c)) cs

  -- each row of the blocks of some cliques lies in the cone
  pub rows_inside : (cs : List ℕ) (k : ℕ) → k < length (pair_rows 0 cs) → get_or (pair_rows 0 cs) k 0 < triangle p.vertex_count
  rows_inside cs k l =
      let o = get_or (pair_rows 0 cs) k 0 in
      let (n, _, here) = (has_join 0 (λ c. map (pair_row 0) (block p c)) o cs).0 (has_get_or (pair_rows 0 cs) k 0 l) in
      at-clique o (get_or cs n 0) here
    where
      at-clique : (o c : ℕ) → T (has o (map (pair_row 0) (block p c))) → o < triangle p.vertex_count
      at-clique o c here =
          let (t, l, e) = (has-map (pair 0 0) (pair_row 0) o (block p c)).0 here in
          let (i, j, hi, hj, le, q, _) = pair_entry (clique_vertices p c) t (pair 0 0) (sorted_rises p (members (clique_at p c))) l in
          omega (
            arith,
            e ∙ ap (pair_row 0) q,
            pair_index-le i j le,
            triangle-column i j p.vertex_count le (sorted-bounded p (members (clique_at p c)) j hj),
          )

  -- no column of H is in a row past the end of the cone
  pub no_column : (o : ℕ) → triangle p.vertex_count ≤ o → column_count (own_rows true p) o ≡ 0
  no_column o h =
      let os = pair_rows 0 (below (clique_count p)) in
      ap length (keep-none (eqb o) os (λ x k t. let (i, l, e) = (has-at 0 x os).0 k in omega (arith, rows_inside (below (clique_count p)) i l, (eqb_iff o x).0 t)))
