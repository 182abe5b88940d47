-- The rows of a pattern's blocks: the row of each pair of a clique, and that an overlap is tied to an earlier row, which has
-- the same pair.
use Prim.Native.Nat.{ℕ, suc, ◌+◌, ◌-◌, ◌≤◌, ◌<◌}
use native.Mathlib.Nat.{eq-or-lt_of_le, le_of_eq}
use native.Mathlib.Omega.{arith}
use mathlib.Core.Path.{◌≡◌, sym, ap, ap₂, subst, subst₂, ◌∙◌}
use mathlib.Core.Logic.{◌↔◌, ◌⊎◌, inl, inr}
use mathlib.Core.Bool.{Bool, true, false, not}
use mathlib.Core.List.{List, map, reverse}
use lib.ListN.{length, get_or, drop, length-map}
use lib.Seq.{drop-cons}
use lib.Dec.{T}
use Rattle.layout.specs.General.Lists.{has, sum, join, up_from, below, place_in}
use Rattle.layout.specs.General.Triangle.{triangle, pair_index}
use Rattle.layout.specs.Problems.Patterns.{Pattern, Clique, clique_at, clique_count, members, block_size, no_clique}
use Rattle.layout.specs.Rows.Blocks.{Pair, pair, Row, kept, owned, overlap, original_row, block, in_separator, row_of, pattern_rows, block_rows, first_row, parent_row}
use Rattle.layout.specs.Problems.CliqueTree.{parent_of}
use Rattle.layout.specs.Checks.{RightPattern}
use Rattle.layout.proofs.Lists.Tests.{not_iff, tested, cond_passed, cond_failed}
use Rattle.layout.proofs.Lists.Members.{get_or_map, has-map, has-up_from}
use Rattle.layout.proofs.Numbers.Triangles.{triangle-column, triangle_injective, pair_index-le}
use Rattle.layout.proofs.Patterns.Originals.{sorted_rises, sorted-bounded}
use Rattle.layout.proofs.Patterns.Cliques.{clique_vertices, HoldsPair, OwnsPair, block-side, pair_in_parent, pair_owner_once, pair_owner_above}
use Rattle.layout.proofs.Patterns.Pairs.{length_pairs, pair-at, pair_entry}
use Rattle.layout.proofs.Lists.Joins.{map_same, map-drop, sum_drop, down-at, down-part, length-down}

-- the rows of clique c's block
abbrev pub clique_rows : Pattern → ℕ → ℕ → ℕ → List Row
clique_rows p base first c = map (row_of p base first c) (block p c)

-- the row of the pair (i, j) in clique c's block, counted from the pattern's first row
abbrev block_row : Pattern → ℕ → ℕ → ℕ → ℕ
block_row p c i j = parent_row p 0 c (pair i j)

-- ---- one row

-- a pair in the clique's separator has an overlap row
row_of_overlap : (p : Pattern) (base first c i j : ℕ) → T (in_separator p c (pair i j))
    → row_of p base first c (pair i j) ≡ overlap (base + pair_index i j) (parent_row p first (parent_of p c) (pair i j))
row_of_overlap p base first c i j h = cond_passed (in_separator p c (pair i j)) _ _ h

-- any other pair of the clique has an owned row
row_of_owned : (p : Pattern) (base first c i j : ℕ) → T (not (in_separator p c (pair i j)))
    → row_of p base first c (pair i j) ≡ owned (base + pair_index i j)
row_of_owned p base first c i j h = cond_failed (in_separator p c (pair i j)) _ _ ((not_iff (in_separator p c (pair i j))).0 h)

-- a row's original row is that of its pair
pub row-original : (p : Pattern) (base first c i j : ℕ) → original_row (row_of p base first c (pair i j)) ≡ base + pair_index i j
row-original p base first c i j = elim (tested (in_separator p c (pair i j))) [
  | inl h ↦ ap original_row (row_of_overlap p base first c i j h)
  | inr h ↦ ap original_row (row_of_owned p base first c i j ((not_iff (in_separator p c (pair i j))).1 h))
]

abbrev is_owned : Row → Bool
is_owned (kept o) = false
is_owned (owned o) = true
is_owned (overlap o r) = false

-- only a pair that the clique owns has an owned row
owned-row : (p : Pattern) (base first c i j o : ℕ) → row_of p base first c (pair i j) ≡ owned o
    → T (not (in_separator p c (pair i j)))
owned-row p base first c i j o e = (not_iff (in_separator p c (pair i j))).1
    (λ h. subst (λ (x : Row). T (is_owned x)) (sym e ∙ row_of_overlap p base first c i j h) tt)

-- the row that an overlap is tied to
abbrev tie : Row → ℕ
tie (kept o) = 0
tie (owned o) = 0
tie (overlap o r) = r

-- only a pair in the clique's separator has an overlap row, tied to the pair's row in the parent's block
overlap-row : (p : Pattern) (base first c i j o q : ℕ) → row_of p base first c (pair i j) ≡ overlap o q
    → T (in_separator p c (pair i j)) × (q ≡ parent_row p first (parent_of p c) (pair i j))
overlap-row p base first c i j o q e = elim (tested (in_separator p c (pair i j))) [
  | inl h ↦ (h, ap tie (sym e ∙ row_of_overlap p base first c i j h))
  | inr h ↦ absurd (subst (λ (x : Row). T (is_owned x))
      (sym (row_of_owned p base first c i j ((not_iff (in_separator p c (pair i j))).1 h)) ∙ e) tt)
]

-- ---- all rows

module _ (p : Pattern) (ok : RightPattern p) where
  pub block-length : (c : ℕ) → c < clique_count p → length (block p c) ≡ triangle (block_size (clique_at p c))
  block-length c l = length_pairs (clique_vertices p c) ∙ ap triangle (block-side p ok c l)

  -- the rows of a later clique come before those of an earlier one
  row_before : (c d i j : ℕ) → c < d → d < clique_count p → HoldsPair p d i j → i ≤ j → block_row p d i j < first_row p 0 c
  row_before c d i j l m h le =
      let vs = clique_vertices p d in
      let size : Clique → ℕ = λ q. triangle (block_size q) in
      let (lt, _) = pair-at vs i j (pair 0 0) (sorted_rises p (members (clique_at p d))) h.0 h.1 le in
      let here : sum (map size (drop d p.cliques)) ≡ size (clique_at p d) + sum (map size (drop (suc d) p.cliques)) =
      ap (λ (r : List Clique). sum (map size r)) (drop-cons p.cliques d no_clique m) in
      omega (arith, block-length d m, sum_drop size p.cliques (suc c) d l)

  row_order : (c d i j : ℕ) → c ≤ d → d < clique_count p → HoldsPair p d i j → i ≤ j → block_row p d i j ≤ block_row p c i j
  row_order c d i j l m h le = elim (eq-or-lt_of_le l) [
    | inl e ↦ le_of_eq (ap (λ (b : ℕ). block_row p b i j) (sym e))
    | inr q ↦ omega (arith, row_before c d i j q m h le)
  ]

  module _ (base first : ℕ) where
    rows-length : (c : ℕ) → c < clique_count p → length (clique_rows p base first c) ≡ triangle (block_size (clique_at p c))
    rows-length c l = length-map (block p c) (row_of p base first c) ∙ block-length c l

    -- the number of rows of the cliques from a on, by block sizes and by the lengths of `cliqueRows`
    rows-from : (a n : ℕ) → a + n ≡ clique_count p
        → sum (map (λ q. triangle (block_size q)) (drop a p.cliques))
        ≡ sum (map (λ d. length (clique_rows p base first d)) (up_from a n))
    rows-from a n e =
        ap sum (map-drop (λ q. triangle (block_size q)) no_clique p.cliques a n e
        ∙ map_same (λ d. triangle (block_size (clique_at p d))) (λ d. length (clique_rows p base first d)) (up_from a n)
        (λ d h. sym (rows-length d (omega (arith, (has-up_from d a n).0 h)))))

    pub rows-count : length (pattern_rows p base first) ≡ block_rows p
    rows-count =
        length-down (clique_rows p base first) (clique_count p)
        ∙ sym (rows-from 0 (clique_count p) (omega arith))

    -- row t of clique c's block is the row of the block's pair t
    row-at : (c t : ℕ) (x : Row) (d : Pair) → c < clique_count p → t < triangle (block_size (clique_at p c))
        → get_or (pattern_rows p base first) (first_row p 0 c + t) x ≡ row_of p base first c (get_or (block p c) t d)
    row-at c t x d l m =
        let n : ℕ = clique_count p - suc c in
        let e : suc c + n ≡ clique_count p = omega arith in
        ap₂ (λ (k s : ℕ). get_or (join (clique_rows p base first) (reverse (below k))) s x)
        (sym e) (omega (arith, rows-from (suc c) n e))
        ∙ down-at (clique_rows p base first) x c n t (omega (arith, rows-length c l))
        ∙ get_or_map (row_of p base first c) (block p c) t d x (omega (arith, block-length c l))

    -- the row of the pair (i, j) of clique c is at index `block_row p c i j`
    pair_row : (c i j : ℕ) (x : Row) → c < clique_count p → HoldsPair p c i j → i ≤ j
        → get_or (pattern_rows p base first) (block_row p c i j) x ≡ row_of p base first c (pair i j)
    pair_row c i j x l h le =
        let vs = clique_vertices p c in
        let (lt, e) = pair-at vs i j (pair 0 0) (sorted_rises p (members (clique_at p c))) h.0 h.1 le in
        row-at c (pair_index (place_in vs i) (place_in vs j)) x (pair 0 0) l (omega (arith, block-length c l))
        ∙ ap (row_of p base first c) e

    -- every row is the row of a pair that its clique holds
    row_entry : (r : ℕ) (x : Row) → r < block_rows p
        → (c : ℕ) × (i : ℕ) × (j : ℕ) × (c < clique_count p) × HoldsPair p c i j × (i ≤ j) × (r ≡ block_row p c i j)
        × (get_or (pattern_rows p base first) r x ≡ row_of p base first c (pair i j))
    row_entry r x l =
        let (c, n, t, e, lt, q) = down-part (clique_rows p base first) (clique_count p) r (omega (arith, rows-count)) in
        in_clique c n t e lt q
      where
        Entry : Type 0
        Entry = (c : ℕ) × (i : ℕ) × (j : ℕ) × (c < clique_count p) × HoldsPair p c i j × (i ≤ j) × (r ≡ block_row p c i j)
            × (get_or (pattern_rows p base first) r x ≡ row_of p base first c (pair i j))

        stands : (c i j : ℕ) → c < clique_count p → HoldsPair p c i j → i ≤ j → r ≡ block_row p c i j → Entry
        stands c i j lc h le e =
            (c, i, j, lc, h, le, e, ap (λ (y : ℕ). get_or (pattern_rows p base first) y x) e ∙ pair_row c i j x lc h le)

        in_clique : (c n t : ℕ) → suc c + n ≡ clique_count p → t < length (clique_rows p base first c)
            → r ≡ sum (map (λ d. length (clique_rows p base first d)) (up_from (suc c) n)) + t → Entry
        in_clique c n t e lt q =
            let lc : c < clique_count p = omega arith in
            let lb : t < length (block p c) = omega (arith, rows-length c lc, block-length c lc) in
            let rising = sorted_rises p (members (clique_at p c)) in
            let (i, j, hi, hj, le, _, place) = pair_entry (clique_vertices p c) t (pair 0 0) rising lb in
            stands c i j lc (hi, hj) le (omega (arith, rows-from (suc c) n e))

    -- the original row of every row is a row of the pattern's cone
    pub row_inside : (r : ℕ) (x : Row) → r < block_rows p
        → (base ≤ original_row (get_or (pattern_rows p base first) r x))
        × (original_row (get_or (pattern_rows p base first) r x) < base + triangle p.vertex_count)
    row_inside r x l =
        let (c, i, j, lc, h, le, er, gr) = row_entry r x l in
        bounded i j le (sorted-bounded p (members (clique_at p c)) j h.1) (ap original_row gr ∙ row-original p base first c i j)
      where
        bounded : (i j : ℕ) → i ≤ j → j < p.vertex_count
            → original_row (get_or (pattern_rows p base first) r x) ≡ base + pair_index i j
            → (base ≤ original_row (get_or (pattern_rows p base first) r x))
            × (original_row (get_or (pattern_rows p base first) r x) < base + triangle p.vertex_count)
        bounded i j le lt e = omega (arith, pair_index-le i j le, triangle-column i j p.vertex_count le lt)

    row_below : (c i j : ℕ) → c < clique_count p → HoldsPair p c i j → i ≤ j → block_row p c i j < length (pattern_rows p base first)
    row_below c i j l h le =
        let vs = clique_vertices p c in
        let size : Clique → ℕ = λ q. triangle (block_size q) in
        let (lt, _) = pair-at vs i j (pair 0 0) (sorted_rises p (members (clique_at p c))) h.0 h.1 le in
        let here : sum (map size (drop c p.cliques)) ≡ size (clique_at p c) + sum (map size (drop (suc c) p.cliques)) =
        ap (λ (r : List Clique). sum (map size r)) (drop-cons p.cliques c no_clique l) in
        omega (arith, block-length c l, sum_drop size p.cliques 0 c (omega arith), rows-count)

    -- the original rows that occur are those of the pairs that some clique holds
    pub covered_pairs : (r : ℕ) → T (has r (map original_row (pattern_rows p base first)))
        ↔ ((c : ℕ) × (i : ℕ) × (j : ℕ) × (c < clique_count p) × HoldsPair p c i j × (i ≤ j) × (r ≡ base + pair_index i j))
    covered_pairs r = (
      λ h.
          let (t, l, e) = (has-map (kept 0) original_row r (pattern_rows p base first)).0 h in
          let (c, i, j, lc, held, le, _, at) = row_entry t (kept 0) (omega (arith, rows-count)) in
          (c, i, j, lc, held, le, e ∙ ap original_row at ∙ row-original p base first c i j),
      λ h.
          let (c, i, j, lc, held, le, e) = h in
          (has-map (kept 0) original_row r (pattern_rows p base first)).1 (
            block_row p c i j,
            row_below c i j lc held le,
            e ∙ sym (ap original_row (pair_row c i j (kept 0) lc held le) ∙ row-original p base first c i j),
          ),
    )

    -- every row is owned or an overlap
    pub row-kind : (r : ℕ) (x : Row) → r < block_rows p
        → let y = get_or (pattern_rows p base first) r x in
        (y ≡ owned (original_row y)) ⊎ ((q : ℕ) × (y ≡ overlap (original_row y) q))
    row-kind r x l =
        let (c, i, j, lc, h, le, er, gr) = row_entry r x l in
        let same = ap original_row gr ∙ row-original p base first c i j in
        elim (tested (in_separator p c (pair i j))) [
          | inl k ↦ inr (
            parent_row p first (parent_of p c) (pair i j),
            gr ∙ row_of_overlap p base first c i j k
                ∙ ap (λ (a : ℕ). overlap a (parent_row p first (parent_of p c) (pair i j))) (sym same),
          )
          | inr k ↦ inl (gr ∙ row_of_owned p base first c i j ((not_iff (in_separator p c (pair i j))).1 k) ∙ ap owned (sym same))
        ]

    -- ---- what demand 3 uses

    -- no original row is owned twice
    pub owned-once : (r s a : ℕ) (x : Row) → r < block_rows p → s < block_rows p
        → get_or (pattern_rows p base first) r x ≡ owned a → get_or (pattern_rows p base first) s x ≡ owned a → r ≡ s
    owned-once r s a x l m e f =
        let (c, i, j, lc, hc, le, er, gr) = row_entry r x l in
        let (d, k, n, ld, hd, le', es, gs) = row_entry s x m in
        er ∙ same c i j d k n lc ld hc hd le le' (sym gr ∙ e) (sym gs ∙ f) ∙ sym es
      where
        same : (c i j d k n : ℕ) → c < clique_count p → d < clique_count p → HoldsPair p c i j → HoldsPair p d k n
            → i ≤ j → k ≤ n → row_of p base first c (pair i j) ≡ owned a → row_of p base first d (pair k n) ≡ owned a
            → block_row p c i j ≡ block_row p d k n
        same c i j d k n lc ld hc hd le le' ec ed =
            let ac : base + pair_index i j ≡ a = sym (row-original p base first c i j) ∙ ap original_row ec in
            let ad : base + pair_index k n ≡ a = sym (row-original p base first d k n) ∙ ap original_row ed in
            let (ei, ej) = triangle_injective i j k n le le'
            (omega (arith, ac, ad, pair_index-le i j le, pair_index-le k n le')) in
            let oc : OwnsPair p c i j = (hc, owned-row p base first c i j a ec) in
            let od : OwnsPair p d k n = (hd, owned-row p base first d k n a ed) in
            let e : c ≡ d = pair_owner_once p ok c d i j lc ld oc (subst₂ (OwnsPair p d) (sym ei) (sym ej) od) in
            ap (λ (b : ℕ). block_row p b i j) e ∙ ap₂ (block_row p d) ei ej

    -- the original row of every row is owned, by this row or an earlier one
    pub owned_before : (r : ℕ) (x : Row) → r < block_rows p
        → (s : ℕ) × (s ≤ r) × (get_or (pattern_rows p base first) s x ≡ owned (original_row (get_or (pattern_rows p base first) r x)))
    owned_before r x l =
        let (c, i, j, lc, hc, le, er, gr) = row_entry r x l in
        let (d, high, low, owns) = pair_owner_above p ok c i j lc hc in (
          block_row p d i j,
          subst (λ (y : ℕ). block_row p d i j ≤ y) (sym er) (row_order c d i j high low owns.0 le),
          pair_row d i j x low owns.0 le ∙ row_of_owned p base first d i j owns.1
              ∙ ap owned (sym (ap original_row gr ∙ row-original p base first c i j)),
        )

    -- an overlap is tied to an earlier row with the same original row
    pub overlap_tied : (r a q : ℕ) (x : Row) → r < block_rows p → get_or (pattern_rows p base first) r x ≡ overlap a q
        → (s : ℕ) × (s < r) × (q ≡ first + s) × (original_row (get_or (pattern_rows p base first) s x) ≡ a)
    overlap_tied r a q x l e =
        let (c, i, j, lc, hc, le, er, gr) = row_entry r x l in
        tied c i j lc le er (sym gr ∙ e)
      where
        tied : (c i j : ℕ) → c < clique_count p → i ≤ j → r ≡ block_row p c i j → row_of p base first c (pair i j) ≡ overlap a q
            → (s : ℕ) × (s < r) × (q ≡ first + s) × (original_row (get_or (pattern_rows p base first) s x) ≡ a)
        tied c i j lc le er f =
            let (h, eq) = overlap-row p base first c i j a q f in
            let (later, inside, held) = pair_in_parent p ok c i j lc h in (
              block_row p (parent_of p c) i j,
              omega (arith, er, row_before c (parent_of p c) i j later inside held le),
              omega (arith, eq),
              ap original_row (pair_row (parent_of p c) i j x inside held le) ∙ row-original p base first (parent_of p c) i j
                  ∙ sym (row-original p base first c i j) ∙ ap original_row f,
            )
