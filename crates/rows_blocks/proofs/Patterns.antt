-- The cliques of a pattern that passed the checks can be sorted, and its blocks follow from the ordering.
use Prim.Native.Nat.{ℕ, zero, suc, ◌≤◌, ◌<◌}
use native.Mathlib.Omega.{arith}
use mathlib.Core.Path.{◌≡◌, refl, ap, sym, ◌∙◌}
use mathlib.Core.List.{List, [], ◌∷◌, ◌++◌, map, reverse, append-nil}
use lib.ListN.{length, get_or, length-map}
use Rattle.layout.specs.General.Lists.{has, keep, below, join, Below}
use Rattle.layout.specs.Problems.Patterns.{Pattern, clique_at, clique_count, members}
use Rattle.layout.specs.Rows.Blocks.{Pair, pair, original_row, pair_row, sorted, block, row_of, pattern_rows, block_rows, cut}
use Rattle.layout.specs.Checks.{RightPattern}
use Rattle.layout.proofs.Lists.Members.{has_get_or}
use Rattle.layout.proofs.Lists.Distinct.{permutation-has}
use Rattle.layout.proofs.Lists.Joins.{reverse-below, map-join}
use Rattle.layout.proofs.Patterns.Originals.{Vertices, originals-distinct}
use Rattle.layout.proofs.Patterns.Cliques.{clique-vertices, clique-distinct}
use Rattle.layout.proofs.Rows.Rows.{row-original, rows-count}
use Rattle.layout.proofs.Columns.Sizes.{standard_count}
use Rattle.rows_blocks.specs.Vertices.{Sortable, sorted_of}
use Rattle.rows_blocks.specs.Codes.{standard_pattern_rows}

-- ---- joined lists

-- joining equal lists from last to first gives equal results
pub down_same : {B : Type 0} (f g : ℕ → List B) (k : ℕ) → ((c : ℕ) → c < k → f c ≡ g c) → join f (reverse (below k)) ≡ join g (reverse (below k))
down_same f g zero h = refl
down_same {B} f g (suc k) h =
    ap (join f) (reverse-below k)
    ∙ rw (h k (omega arith)) (ap (λ (r : List B). g k ++ r) (down_same f g k (λ c l. h c (omega arith))))
    ∙ ap (join g) (sym (reverse-below k))

module _ (p : Pattern) (ok : RightPattern p) where
  ordering-below : Below (length p.ordering) p.ordering
  ordering-below k l = (permutation-has p.ordering ok.ordered.permutation (get_or p.ordering k 0)).0 (has_get_or p.ordering k 0 l)

  pub clique-sortable : p.vertex_count ≤ 256 → (c : ℕ) → c < clique_count p → Sortable p.ordering (members (clique_at p c))
  clique-sortable few c l =
      let us = members (clique_at p c) in
      let vertices : Vertices p us = clique-vertices p ok c l in
      let count = ok.ordered.vertices in
      record {
        few = omega arith;
        ordered = ordering-below;
        inner = λ k m. omega (arith, vertices (get_or us k 0) (has_get_or us k 0 m));
        once = originals-distinct p ok.ordered us vertices (clique-distinct p ok c l);
      }

  -- sorting by the ordering is sorting by the pattern
  pub sorted-by : (us : List ℕ) → sorted_of p.ordering us ≡ sorted p us
  sorted-by us = ap (λ (n : ℕ). keep (λ w. has w (map (λ u. get_or p.ordering u 0) us)) (below n)) ok.ordered.vertices

  -- ---- the number of rows

  pub standard_rows-count : (base : ℕ) → length (standard_pattern_rows p base) ≡ block_rows p
  standard_rows-count base =
      ap length (sym (append-nil (standard_pattern_rows p base))) ∙ standard_count base (cut 0 base 0 p ∷ []) (refl, ok, tt) ∙ omega arith

  -- the original rows of a pattern's compact rows are those of its blocks' pairs
  pub original-rows : (base first : ℕ)
      → map original_row (pattern_rows p base first) ≡ join (λ c. map (pair_row base) (block p c)) (reverse (below (clique_count p)))
  original-rows base first =
      map-join original_row (λ c. map (row_of p base first c) (block p c)) (reverse (below (clique_count p)))
      ∙ down_same (λ c. map original_row (map (row_of p base first c) (block p c))) (λ c. map (pair_row base) (block p c)) (clique_count p)
      (λ c l. original-block c (block p c))
    where
      original-block : (c : ℕ) (xs : List Pair) → map original_row (map (row_of p base first c) xs) ≡ map (pair_row base) xs
      original-block c [] = refl
      original-block c (pair i j ∷ xs) = rw (row-original p base first c i j, original-block c xs)

  pub original-rows-count : (base first : ℕ) → length (map original_row (pattern_rows p base first)) ≡ block_rows p
  original-rows-count base first = length-map (pattern_rows p base first) original_row ∙ rows-count p ok base first
