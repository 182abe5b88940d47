-- A block has one row for each original row that it contains, and none for any other. So the number of augmented rows that add to an
-- original row is the number of blocks that contain it.
use Prim.Native.Nat.{ℕ, ◌+◌, ◌<◌}
use native.Mathlib.Omega.{arith}
use mathlib.Core.Path.{◌≡◌, refl, sym, ap, ap₂, ◌∙◌}
use mathlib.Core.Logic.{◌⊎◌, inl, inr}
use mathlib.Core.Bool.{Bool, true, false, cond}
use mathlib.Core.List.{List, [], ◌∷◌, map, reverse}
use lib.ListN.{length, get_or}
use lib.Dec.{T, eqb}
use Rattle.layout.specs.General.Lists.{below, up_from, sum, place_in}
use Rattle.layout.specs.General.Triangle.{pair_index}
use Rattle.layout.specs.Problems.Cones.{row_count}
use Rattle.layout.specs.Problems.Patterns.{Pattern, clique_at, clique_count, members}
use Rattle.layout.specs.Rows.Blocks.{Part, whole, cut, kept, owned, overlap, Pair, pair, block, pair_row, parent_row, in_separator, row_of, pattern_rows, rows_from, compact_rows, block_rows}
use Rattle.layout.specs.Equations.Rounding.{adds, blocks_at, holds_row, blocks_in}
use Rattle.layout.proofs.Lists.Tests.{tested, eqb_iff, cond_passed, cond_failed}
use Rattle.layout.proofs.Lists.Members.{has-map}
use Rattle.layout.proofs.Numbers.Triangles.{triangle_injective, pair_index-le}
use Rattle.layout.proofs.Patterns.Originals.{sorted_rises}
use Rattle.layout.proofs.Patterns.Cliques.{clique_vertices}
use Rattle.layout.proofs.Patterns.Pairs.{pair_entry}
use Rattle.layout.proofs.Lists.Joins.{map_same, sum-down}
use Rattle.layout.proofs.Lists.Counting.{count_if, count-append, count-sum, count_nowhere, count-once, count_same, count_map, count-join}
use Rattle.layout.proofs.Rows.Rows.{clique_rows}

-- a pair's augmented row adds to the pair's original row, whether owned or an overlap
row-adds : (o : ℕ) (p : Pattern) (base first c : ℕ) (x : Pair) → adds o (row_of p base first c x) ≡ eqb (pair_row base x) o
row-adds o p base first c (pair i j) = go (in_separator p c (pair i j))
  where
    go : (b : Bool)
        → adds o (cond b (overlap (base + pair_index i j) (parent_row p first (clique_at p c).parent (pair i j))) (owned (base + pair_index i j)))
        ≡ eqb (base + pair_index i j) o
    go true = refl
    go false = refl

module _ (o : ℕ) (p : Pattern) (base first c : ℕ) where
  abbrev there : Pair → Bool
  there x = eqb (pair_row base x) o

  -- two entries of a block with the same original row have the same index
  one_place : (t u : ℕ) → t < length (block p c) → u < length (block p c)
      → pair_row base (get_or (block p c) t (pair 0 0)) ≡ pair_row base (get_or (block p c) u (pair 0 0)) → t ≡ u
  one_place t u l m e =
      let vs = clique_vertices p c in
      let rising = sorted_rises p (members (clique_at p c)) in
      let (v, w, _, _, le, at, place) = pair_entry vs t (pair 0 0) rising l in
      let (v', w', _, _, le', at', place') = pair_entry vs u (pair 0 0) rising m in
      let rows : base + pair_index v w ≡ base + pair_index v' w' = ap (pair_row base) (sym at) ∙ e ∙ ap (pair_row base) at' in
      let (ev, ew) = triangle_injective v w v' w' le le' (omega (arith, rows, pair_index-le v w le, pair_index-le v' w' le')) in
      place ∙ ap₂ (λ (i j : ℕ). pair_index (place_in vs i) (place_in vs j)) ev ew ∙ sym place'

  one_row : count_if there (block p c) ≡ cond (holds_row o p base c) 1 0
  one_row = go (tested (holds_row o p base c))
    where
      go : T (holds_row o p base c) ⊎ (T (holds_row o p base c) → ⊥) → count_if there (block p c) ≡ cond (holds_row o p base c) 1 0
      go (inl h) =
          let (t, l, e) = (has-map (pair 0 0) (pair_row base) o (block p c)).0 h in
          count-once there (pair 0 0) (block p c) t l ((eqb_iff (pair_row base (get_or (block p c) t (pair 0 0))) o).1 (sym e))
          (λ u m k. one_place u t m l ((eqb_iff (pair_row base (get_or (block p c) u (pair 0 0))) o).0 k ∙ e))
          ∙ sym (cond_passed (holds_row o p base c) 1 0 h)
      go (inr n) =
          count_nowhere there (pair 0 0) (block p c)
          (λ u m k. n ((has-map (pair 0 0) (pair_row base) o (block p c)).1
          (u, m, sym ((eqb_iff (pair_row base (get_or (block p c) u (pair 0 0))) o).0 k))))
          ∙ sym (cond_failed (holds_row o p base c) 1 0 n)

  clique-rows : count_if (adds o) (clique_rows p base first c) ≡ cond (holds_row o p base c) 1 0
  clique-rows =
      count_map (adds o) (row_of p base first c) (block p c)
      ∙ count_same (λ x. adds o (row_of p base first c x)) there (block p c) (row-adds o p base first c)
      ∙ one_row

pattern_blocks : (o : ℕ) (p : Pattern) (base first : ℕ)
    → count_if (adds o) (pattern_rows p base first) ≡ count_if (holds_row o p base) (below (clique_count p))
pattern_blocks o p base first =
    count-join (adds o) (clique_rows p base first) (reverse (below (clique_count p)))
    ∙ sum-down (λ c. count_if (adds o) (clique_rows p base first c)) (clique_count p)
    ∙ ap sum (map_same (λ c. count_if (adds o) (clique_rows p base first c)) (λ c. cond (holds_row o p base c) 1 0)
    (below (clique_count p)) (λ c h. clique-rows o p base first c))
    ∙ sym (count-sum (holds_row o p base) (below (clique_count p)))

kept-rows : (o : ℕ) (xs : List ℕ) → count_if (adds o) (map kept xs) ≡ 0
kept-rows o [] = refl
kept-rows o (x ∷ xs) = kept-rows o xs

rows-blocks : (o first : ℕ) (ps : List Part) → count_if (adds o) (rows_from first ps) ≡ sum (map (blocks_in o) ps)
rows-blocks o first [] = refl
rows-blocks o first (whole i c row ∷ ps) =
    omega (
      arith,
      count-append (adds o) (map kept (up_from row (row_count c))) (rows_from (first + row_count c) ps),
      kept-rows o (up_from row (row_count c)),
      rows-blocks o (first + row_count c) ps,
    )
rows-blocks o first (cut i row k p ∷ ps) =
    omega (
      arith,
      count-append (adds o) (pattern_rows p row first) (rows_from (first + block_rows p) ps),
      pattern_blocks o p row first,
      rows-blocks o (first + block_rows p) ps,
    )

-- the number of rows that add to o is the number of blocks that contain it
pub blocks_counted : (o : ℕ) (ps : List Part) → blocks_at o (compact_rows ps) ≡ sum (map (blocks_in o) ps)
blocks_counted o ps = rows-blocks o 0 ps
