-- The generator's pattern: clique c contains the vertices c to c + w; it is a clique tree for every ordering that is a permutation; bounds
-- for the numbers of its block rows and overlaps.
use Prim.Native.Nat.{ℕ, zero, suc, ◌+◌, ◌-◌, ◌*◌, ◌≤◌, ◌<◌}
use native.Mathlib.Nat.{suc-mul}
use native.Mathlib.Omega.{arith}
use mathlib.Core.Path.{◌≡◌, refl, sym, ap, ap₂, subst, ◌∙◌}
use mathlib.Core.Logic.{◌↔◌, inl, inr}
use mathlib.Core.Bool.{not, ◌&&◌}
use mathlib.Core.List.{List, [], ◌∷◌, ◌++◌, map, append-nil}
use lib.ListN.{length, length-append, length-map, get_or-append}
use lib.Seq.{get_or_at}
use lib.Dec.{T, eqb, ltb, lt→ltb}
use Rattle.layout.specs.General.Lists.{has, all, join, below, up_from, distinct, is_permutation}
use Rattle.layout.specs.General.Triangle.{triangle}
use Rattle.layout.specs.Problems.Patterns.{Pattern, Clique, clique_at, clique_count, members, block_size, no_clique, no_parent, clique_words, pattern_words_of}
use Rattle.layout.specs.Rows.Blocks.{block_rows, overlap_rows}
use Rattle.layout.specs.Checks.{parent_right, tree_right, snodes, snodes_filled, snodes_as_many, separator_right, separators_right, cliques_right, RightPattern}
use Rattle.layout.specs.Problems.CliqueTree.{In}
use Rattle.layout.specs.Calls.Generate.{band_clique, last_clique, band}
use Rattle.layout.proofs.Lists.Tests.{and_iff, not_iff, eqb_iff, lt_or_le, cond_passed, cond_failed}
use Rattle.layout.proofs.Lists.Members.{get_or_map, all-at, all-has, has-below, has-up_from, length-up_from, length-below, get_or-below}
use Rattle.layout.proofs.Lists.Distinct.{distinct-up_from, permutation-below}
use Rattle.layout.proofs.Lists.Joins.{up_from-append, sum_bound}
use Rattle.layout.proofs.Lists.Starts.{join-append}
use Rattle.layout.proofs.Numbers.Triangles.{triangle_mono}

-- ---- the cliques by their numbers

snodes-joined : (w a k : ℕ) → join (λ (c : Clique). c.snode) (map (band_clique w) (up_from a k)) ≡ up_from a k
snodes-joined w a zero = refl
snodes-joined w a (suc k) = ap (λ (xs : List ℕ). a ∷ xs) (snodes-joined w (suc a) k)

words-joined : (w a k : ℕ) → length (join clique_words (map (band_clique w) (up_from a k))) ≡ k * (w + 4)
words-joined w a zero = omega arith
words-joined w a (suc k) =
    let rest = join clique_words (map (band_clique w) (up_from (suc a) k)) in
    rw (suc-mul k (w + 4)) (omega (arith, length-append (clique_words (band_clique w a)) rest, length-up_from (suc a) w, words-joined w (suc a) k))

module _ (os : List ℕ) (v w : ℕ) (l : w < v) where
  abbrev p : Pattern
  p = band os v w

  -- the last clique's number
  abbrev k : ℕ
  k = v - suc w

  abbrev inner : List Clique
  inner = map (band_clique w) (below k)

  length-inner : length inner ≡ k
  length-inner = length-map (below k) (band_clique w) ∙ length-below k

  pub band-count : clique_count (band os v w) ≡ suc (v - suc w)
  band-count = length-append inner (last_clique v w ∷ []) ∙ omega (arith, length-inner)

  band-inner : (c : ℕ) → c < v - suc w → clique_at (band os v w) c ≡ band_clique w c
  band-inner c m =
      get_or-append inner (last_clique v w ∷ []) no_clique c (omega (arith, length-inner))
      ∙ get_or_map (band_clique w) (below k) c 0 no_clique (omega (arith, length-below k)) ∙ ap (band_clique w) (get_or-below k c 0 m)

  band_last : (c : ℕ) → c ≡ v - suc w → clique_at (band os v w) c ≡ last_clique v w
  band_last c e = get_or_at inner (last_clique v w) [] no_clique c (length-inner ∙ sym e)

  -- clique c contains the vertices c to c + w
  band-members : (c : ℕ) → c < clique_count (band os v w) → members (clique_at (band os v w) c) ≡ up_from c (suc w)
  band-members c m = elim (lt_or_le c k) [
    | inl h ↦ ap members (band-inner c h)
    | inr h ↦
        let e : c ≡ k = omega (arith, band-count) in
        ap members (band_last c e) ∙ append-nil (up_from k (suc w)) ∙ ap (λ (a : ℕ). up_from a (suc w)) (sym e)
  ]

  pub in_band_lem : (c u : ℕ) → c < clique_count (band os v w) → In (band os v w) c u ↔ ((c ≤ u) × (u < c + suc w))
  in_band_lem c u m = rw (band-members c m) (has-up_from u c (suc w))

  -- a clique has w + 1 vertices, and its separator at most w
  band-sizes : (c : ℕ) → c < clique_count (band os v w)
      → (block_size (clique_at (band os v w) c) ≡ suc w) × (length (clique_at (band os v w) c).separator ≤ w)
  band-sizes c m = elim (lt_or_le c k) [
    | inl h ↦ rw (band-inner c h) (omega (arith, length-up_from (suc c) w))
    | inr h ↦ rw (band_last c (omega (arith, band-count))) (omega (arith, length-up_from k (suc w)))
  ]

  band-snodes : snodes (band os v w) ≡ below v
  band-snodes =
      join-append (λ (c : Clique). c.snode) inner (last_clique v w ∷ [])
      ∙ ap₂ ◌++◌ (snodes-joined w 0 k) (append-nil (up_from k (suc w)))
      ∙ sym (ap below whole ∙ up_from-append 0 k (suc w) ∙ ap (λ (a : ℕ). below k ++ up_from a (suc w)) from)
    where
      whole : v ≡ k + suc w
      whole = omega arith

      from : 0 + k ≡ k
      from = omega arith

  -- ---- check 6

  band-parent : (c : ℕ) → c < clique_count (band os v w) → T (parent_right (band os v w) c)
  band-parent c m = elim (lt_or_le c k) [
    | inl h ↦ subst T (sym (cond_failed (eqb (suc c) (clique_count p)) _ _ (λ e. inside h ((eqb_iff (suc c) (clique_count p)).0 e)))) (later h)
    | inr h ↦ subst T (sym (cond_passed (eqb (suc c) (clique_count p)) _ _ ((eqb_iff (suc c) (clique_count p)).1 (omega (arith, band-count))))) (root h)
  ]
    where
      inside : c < k → suc c ≡ clique_count (band os v w) → ⊥
      inside h e = omega (arith, band-count)

      later : c < k → T (ltb c (clique_at (band os v w) c).parent && ltb (clique_at (band os v w) c).parent (clique_count (band os v w)))
      later h =
          rw (band-inner c h)
          ((and_iff (ltb c (suc c)) (ltb (suc c) (clique_count p))).1
          (lt→ltb c (suc c) (omega arith), lt→ltb (suc c) (clique_count p) (omega (arith, band-count))))

      root : k ≤ c → T (eqb (clique_at (band os v w) c).parent no_parent && eqb (length (clique_at (band os v w) c).separator) 0)
      root h = rw (band_last c (omega (arith, band-count))) tt

  pub band-tree : T (tree_right (band os v w))
  band-tree = (and_iff (not (eqb (clique_count p) 0)) (all (parent_right p) (below (clique_count p)))).1 (
    (not_iff (eqb (clique_count p) 0)).1 (λ h. let e : clique_count p ≡ 0 = (eqb_iff (clique_count p) 0).0 h in omega (arith, band-count)),
    (all-has (parent_right p) (below (clique_count p))).1 (λ c h. band-parent c ((has-below c (clique_count p)).0 h)),
  )

  -- ---- check 7

  band-separator : (c : ℕ) → c < clique_count (band os v w) → T (separator_right (band os v w) (clique_at (band os v w) c))
  band-separator c m = elim (lt_or_le c k) [
    | inl h ↦ rw (band-inner c h) ((and_iff (distinct (up_from (suc c) w)) (all (λ u. has u (members (clique_at p (suc c)))) (up_from (suc c) w))).1 (
      distinct-up_from (suc c) w,
      (all-has (λ u. has u (members (clique_at p (suc c)))) (up_from (suc c) w)).1 (λ u q.
          let r : (suc c ≤ u) × (u < suc c + w) = (has-up_from u (suc c) w).0 q in
          (in_band_lem (suc c) u (omega (arith, band-count))).1 (omega arith)),
    ))
    | inr h ↦ rw (band_last c (omega (arith, band-count))) tt
  ]

  band-filled : (c : ℕ) → c < clique_count (band os v w) → T (not (eqb (length (clique_at (band os v w) c).snode) 0))
  band-filled c m = (not_iff (eqb (length (clique_at p c).snode) 0)).1 (λ h.
      let e : length (clique_at p c).snode ≡ 0 = (eqb_iff (length (clique_at p c).snode) 0).0 h in
      omega (arith, (band-sizes c m).0, (band-sizes c m).1))

  pub band-cliques : T (cliques_right (band os v w))
  band-cliques =
      (and_iff (snodes_filled p && snodes_as_many p && is_permutation (snodes p)) (separators_right p)).1 (
        (and_iff (snodes_filled p && snodes_as_many p) (is_permutation (snodes p))).1 (
          (and_iff (snodes_filled p) (snodes_as_many p)).1 (
            (all-at no_clique (λ c. not (eqb (length c.snode) 0)) p.cliques).1 band-filled,
            (eqb_iff (length (snodes p)) v).1 (ap length band-snodes ∙ length-below v),
          ),
          subst (λ (xs : List ℕ). T (is_permutation xs)) (sym band-snodes) (permutation-below v),
        ),
        (all-at no_clique (separator_right p) p.cliques).1 band-separator,
      )

  pub band-right : T (is_permutation os) → length os ≡ v → RightPattern (band os v w)
  band-right h e = record {
    tree = band-tree;
    cliques = band-cliques;
    ordered = record { permutation = h; vertices = e };
  }

  -- ---- block rows and overlaps: at most 64 cliques of at most 64 vertices

  pub band-rows : v ≤ 64 → block_rows (band os v w) ≤ 133120
  band-rows few =
      omega (
        arith,
        band-count,
        sum_bound no_clique (λ c. triangle (block_size c)) 2080 p.cliques
            (λ c m. omega (arith, ap triangle (band-sizes c m).0, triangle_mono (suc w) 64 (omega arith))),
      )

  pub band-overlaps : v ≤ 64 → overlap_rows (band os v w) ≤ 129024
  band-overlaps few =
      omega (
        arith,
        band-count,
        sum_bound no_clique (λ c. triangle (length c.separator)) 2016 p.cliques
            (λ c m. omega (arith, triangle_mono (length (clique_at p c).separator) 63 (omega (arith, (band-sizes c m).1)))),
      )

  -- ---- the words

  -- the words of the head, then of the cliques in order, then of the last clique
  pub band-words_are : pattern_words_of (band os v w)
      ≡ (0 ∷ v ∷ (v - w) ∷ os) ++ (join clique_words (map (band_clique w) (below (v - suc w))) ++ clique_words (last_clique v w))
  band-words_are =
      let few : suc k ≡ v - w = omega arith in
      ap₂ (λ (c : ℕ) (ws : List ℕ). 0 ∷ v ∷ c ∷ (os ++ ws)) (band-count ∙ few)
      (join-append clique_words inner (last_clique v w ∷ [])
      ∙ ap (λ (ws : List ℕ). join clique_words inner ++ ws) (append-nil (clique_words (last_clique v w))))

  pub band-words : length (pattern_words_of (band os v w)) ≡ 3 + length os + (v - w) * (w + 4)
  band-words =
      let few : v - w ≡ suc k = omega arith in
      let cliques : length (join clique_words p.cliques) ≡ k * (w + 4) + (w + 4) =
      ap length (join-append clique_words inner (last_clique v w ∷ []))
      ∙ omega (
        arith,
        length-append (join clique_words inner) (join clique_words (last_clique v w ∷ [])),
        words-joined w 0 k,
        length-append (up_from k (suc w) ++ []) [],
        length-append (up_from k (suc w)) [],
        length-up_from k (suc w),
      ) in
      rw (few, suc-mul k (w + 4)) (omega (arith, length-append os (join clique_words p.cliques)))
