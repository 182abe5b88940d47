-- The codes computed by offsets are the codes of the pattern's compact rows.
use Prim.Native.Nat.{ℕ, suc, ◌+◌, ◌-◌, ◌≤◌, ◌<◌}
use native.Mathlib.Decide.{ℕ_discrete}
use native.Mathlib.Omega.{arith}
use mathlib.Core.Path.{◌≡◌, refl, ap, ap₂, sym, subst, ◌∙◌}
use mathlib.Core.Logic.{inl, inr}
use mathlib.Core.Bool.{Bool, true, false, cond}
use mathlib.Core.List.{List, map, map-map, reverse}
use lib.ListN.{length, get_or, drop, length-map}
use lib.Dec.{T}
use Rattle.layout.specs.General.Lists.{has, below, join, sum, up_from}
use Rattle.layout.specs.General.Triangle.{triangle, pair_index}
use Rattle.layout.specs.Problems.Patterns.{Pattern, Clique, clique_at, clique_count, members, block_size, no_clique}
use Rattle.layout.specs.Rows.Blocks.{Pair, pair, pairs, owned, overlap, originals, block, row_of, parent_row, in_separator, first_row, pair_row, pattern_rows, block_rows}
use Rattle.layout.specs.Checks.{RightPattern}
use Rattle.layout.specs.Problems.CliqueTree.{parent_of}
use Rattle.layout.proofs.Lists.Tests.{and_iff, cond_failed}
use Rattle.layout.proofs.Lists.Members.{has-below, has-up_from, has_get_or}
use Rattle.layout.proofs.Lists.Joins.{map_same, map-drop, sum_drop, join_same, map-join}
use Rattle.layout.proofs.Patterns.Tree.{in_iff, parent-later, last_separator, snode_apart}
use Rattle.layout.proofs.Patterns.Originals.{original_injective, has-originals, has-sorted}
use Rattle.layout.proofs.Patterns.Cliques.{clique_vertices, clique-vertices, pair_in_parent}
use Rattle.layout.proofs.Rows.Rows.{rows-count}
use Rattle.rows_blocks.specs.Columns.{column_pairs}
use Rattle.rows_codes.specs.Codes.{cut_code}
use Rattle.rows_blocks.proofs.Patterns.{down_same}
use Rattle.rows_blocks.proofs.Offsets.{StandAt, here, stands, vertices-clique, rows-block}
use Rattle.rows_parent.specs.Places.{tie_code}
use Rattle.rows_overlaps.specs.Tables.{AllFound, size_here, FirstRows, Tied, tied_here, codes_here}
use Rattle.rows_overlaps.proofs.Codes.{codes_last, codes_tied}

-- functions that agree on pairs of members give the same numbers for all pairs of a list
pairs_same : (f g : Pair → ℕ) (vs : List ℕ) → ((v w : ℕ) → T (has v vs) → T (has w vs) → f (pair v w) ≡ g (pair v w)) → map f (pairs vs) ≡ map g (pairs vs)
pairs_same f g vs h =
    map-join f (column_pairs vs) (below (length vs))
    ∙ join_same (λ j. map f (column_pairs vs j)) (λ j. map g (column_pairs vs j)) (below (length vs))
    (λ j k. column j ((has-below j (length vs)).0 k))
    ∙ sym (map-join g (column_pairs vs) (below (length vs)))
  where
    column : (j : ℕ) → j < length vs → map f (column_pairs vs j) ≡ map g (column_pairs vs j)
    column j l =
        let at : ℕ → Pair = λ i. pair (get_or vs i 0) (get_or vs j 0) in
        map-map f at (below (suc j))
        ∙ map_same (λ i. f (at i)) (λ i. g (at i)) (below (suc j))
        (λ i k. h (get_or vs i 0) (get_or vs j 0) (has_get_or vs i 0 (omega (arith, (has-below i (suc j)).0 k))) (has_get_or vs j 0 l))
        ∙ sym (map-map g at (below (suc j)))

-- tests that imply each other are equal
same_test : (a b : Bool) → (T a → T b) → (T b → T a) → a ≡ b
same_test true true f g = refl
same_test true false f g = absurd (f tt)
same_test false true f g = absurd (g tt)
same_test false false f g = refl

module _ (p : Pattern) (ok : RightPattern p) where
  -- the code of an entry: an overlap's if its pair lies in the separator, otherwise its original row
  cut_code_lem : (base first c i j : ℕ)
      → cut_code (row_of p base first c (pair i j)) ≡ cond (in_separator p c (pair i j)) (65536 + parent_row p first (parent_of p c) (pair i j)) (base + pair_index i j)
  cut_code_lem base first c i j = go (in_separator p c (pair i j))
    where
      go : (b : Bool) → cut_code (cond b (overlap (base + pair_index i j) (parent_row p first (parent_of p c) (pair i j))) (owned (base + pair_index i j)))
          ≡ cond b (65536 + parent_row p first (parent_of p c) (pair i j)) (base + pair_index i j)
      go true = refl
      go false = refl

  -- a vertex of a clique is in the parent's clique exactly if it is in the separator
  in_parent : (c w : ℕ) → suc c < clique_count p → T (has w (clique_vertices p c))
      → has w (clique_vertices p (parent_of p c)) ≡ has w (originals p (clique_at p c).separator)
  in_parent c w l h = same_test (has w (clique_vertices p d)) (has w (originals p us)) down up
    where
      us : List ℕ
      us = (clique_at p c).separator

      d : ℕ
      d = parent_of p c

      lc : c < clique_count p
      lc = omega arith

      up : T (has w (originals p (clique_at p c).separator)) → T (has w (clique_vertices p (parent_of p c)))
      up k = (pair_in_parent p ok c w w lc ((and_iff (has w (originals p (clique_at p c).separator)) (has w (originals p (clique_at p c).separator))).1 (k, k))).2.0

      down : T (has w (clique_vertices p (parent_of p c))) → T (has w (originals p (clique_at p c).separator))
      down k =
          let (later, inside) = parent-later p ok.tree c l in
          let vc = clique-vertices p ok c lc in
          let vd = clique-vertices p ok (parent_of p c) inside in
          let (u, hu, eu) = (has-originals p (members (clique_at p c)) w).0 ((has-sorted p ok.ordered (members (clique_at p c)) vc w).0 h) in
          let (v, hv, ev) = (has-originals p (members (clique_at p (parent_of p c))) w).0 ((has-sorted p ok.ordered (members (clique_at p (parent_of p c))) vd w).0 k) in
          let same : u ≡ v = original_injective p ok.ordered u v (vc u hu) (vd v hv) (sym eu ∙ ev) in
          elim ((in_iff p c u).0 hu) [
            | inl s ↦ absurd (snode_apart p ok.tree ok.cliques c (parent_of p c) u later inside s (subst (λ (x : ℕ). T (has x (members (clique_at p (parent_of p c))))) (sym same) hv))
            | inr s ↦ (has-originals p (clique_at p c).separator w).1 (u, s, eu)
          ]

  -- the codes of a clique with a parent
  tied_codes : (base first c : ℕ) → suc c < clique_count p
      → map (tie_code (clique_vertices p (parent_of p c)) base (first_row p first (parent_of p c))) (block p c) ≡ map cut_code (map (row_of p base first c) (block p c))
  tied_codes base first c l =
      pairs_same (tie_code (clique_vertices p (parent_of p c)) base (first_row p first (parent_of p c))) (λ x. cut_code (row_of p base first c x)) (clique_vertices p c)
      (λ v w hv hw. rw (in_parent c v l hv, in_parent c w l hw) (sym (cut_code_lem base first c v w)))
      ∙ sym (map-map cut_code (row_of p base first c) (block p c))

  -- the last clique owns all its entries
  own_codes : (base first c : ℕ) → suc c ≡ clique_count p → map (pair_row base) (block p c) ≡ map cut_code (map (row_of p base first c) (block p c))
  own_codes base first c e =
      pairs_same (pair_row base) (λ x. cut_code (row_of p base first c x)) (clique_vertices p c)
      (λ v w hv hw. sym (cut_code_lem base first c v w ∙ none v w))
      ∙ sym (map-map cut_code (row_of p base first c) (block p c))
    where
      none : (v w : ℕ) → cond (in_separator p c (pair v w)) (65536 + parent_row p first (parent_of p c) (pair v w)) (base + pair_index v w) ≡ base + pair_index v w
      none v w = cond_failed (in_separator p c (pair v w)) _ _ (λ h.
          let (a, b) = (and_iff (has v (originals p (clique_at p c).separator)) (has w (originals p (clique_at p c).separator))).0 h in
          let (u, hu, eu) = (has-originals p (clique_at p c).separator v).0 a in
          last_separator p ok.tree c u e hu)

  -- ---- with offsets

  module _ (ws os : List ℕ) (many : length os ≡ clique_count p) (st : StandAt ws p.cliques os) where
    pub all_found : AllFound ws os
    all_found c l = (st c (omega arith)).0

    sizes-from : (n : ℕ) → n ≤ clique_count p → sum (map (size_here ws) (drop n os)) ≡ sum (map (λ c. triangle (block_size c)) (drop n p.cliques))
    sizes-from n l =
        let k : ℕ = clique_count p - n in
        ap sum (map-drop (size_here ws) 0 os n k (omega arith)
        ∙ map_same (λ i. size_here ws (get_or os i 0)) (λ i. triangle (block_size (clique_at p i))) (up_from n k)
        (λ i h. ap (λ (q : Clique). triangle (block_size q)) (here p ok ws os st i (omega (arith, (has-up_from i n k).0 h))))
        ∙ sym (map-drop (λ c. triangle (block_size c)) no_clique p.cliques n k (omega arith)))

    pub sizes-sum : sum (map (size_here ws) os) ≡ block_rows p
    sizes-sum = sizes-from 0 (omega arith)

    module _ (first : ℕ) (starts : List ℕ) (room : length os ≤ length starts) (rows : FirstRows ws os first starts) where
      start_row : (c : ℕ) → c < clique_count p → get_or starts c 0 ≡ first_row p first c
      start_row c l = rows c (omega arith) ∙ ap (λ (n : ℕ). first + n) (sizes-from (suc c) (omega arith))

      pub cliques_tied : p.vertex_count ≤ 256 → first + block_rows p ≤ 262144 → Tied ws p.ordering os starts
      cliques_tied few low = record {
        standing = λ c l. stands p ok ws os st few c (omega arith);
        parents = λ c l. rw (here p ok ws os st c (omega arith), many) (parent-later p ok.tree c (omega arith)).1;
        starting = room;
        low = λ c l. omega (arith, start_row c (omega arith), sum_drop (λ (q : Clique). triangle (block_size q)) p.cliques 0 (suc c) (omega arith));
      }

      clique_codes : (base c : ℕ) → c < clique_count p → codes_here base ws p.ordering os starts c ≡ map cut_code (map (row_of p base first c) (block p c))
      unfolding tied_here
      clique_codes base c l = go (ℕ_discrete (c + 1) (length os))
        where
          go : Dec (c + 1 ≡ length os) → codes_here base ws p.ordering os starts c ≡ map cut_code (map (row_of p base first c) (block p c))
          go (yes e) =
              codes_last base ws p.ordering os starts c e ∙ rows-block p ok ws os st base c l ∙ own_codes base first c (omega arith)
          go (no n) =
              let m : suc c < clique_count p = omega (arith, n) in
              let (later, inside) = parent-later p ok.tree c m in
              codes_tied base ws p.ordering os starts c (parent_of p c) (sym (ap (λ (q : Clique). q.parent) (here p ok ws os st c l))) n
              ∙ ap₂ (λ (vs us : List ℕ). map (tie_code vs base (get_or starts (parent_of p c) 0)) (pairs us)) (vertices-clique p ok ws os st (parent_of p c) inside) (vertices-clique p ok ws os st c l)
              ∙ ap (λ (s : ℕ). map (tie_code (clique_vertices p (parent_of p c)) base s) (block p c)) (start_row (parent_of p c) inside)
              ∙ tied_codes base first c m

      pub pattern_codes : (base : ℕ) → join (codes_here base ws p.ordering os starts) (reverse (below (length os))) ≡ map cut_code (pattern_rows p base first)
      pattern_codes base =
          ap (λ (n : ℕ). join (codes_here base ws p.ordering os starts) (reverse (below n))) many
          ∙ down_same (codes_here base ws p.ordering os starts) (λ c. map cut_code (map (row_of p base first c) (block p c))) (clique_count p) (clique_codes base)
          ∙ sym (map-join cut_code (λ c. map (row_of p base first c) (block p c)) (reverse (below (clique_count p))))

  pub cut-rows-count : (base first : ℕ) → length (map cut_code (pattern_rows p base first)) ≡ block_rows p
  cut-rows-count base first = length-map (pattern_rows p base first) cut_code ∙ rows-count p ok base first
