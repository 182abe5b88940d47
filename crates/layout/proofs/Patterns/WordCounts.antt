-- Bounds on the numbers of cliques, patterns and pattern words of an accepted problem.
use Prim.Native.Nat.{ℕ, suc, ◌*◌, ◌≤◌, ◌<◌}
use native.Mathlib.Omega.{arith}
use mathlib.Core.Path.{◌≡◌, ap}
use mathlib.Core.Logic.{inl, inr}
use mathlib.Core.Bool.{not, ◌&&◌, ◌||◌}
use mathlib.Core.List.{List, [], ◌∷◌, map}
use lib.ListN.{length, get_or, length-append, length-map}
use lib.Dec.{T, leb, leb→le}
use Rattle.layout.specs.General.Lists.{all, below, sum, join}
use Rattle.layout.specs.Problems.Cones.{Cone, records, is_psd}
use Rattle.layout.specs.Problems.Patterns.{Clique, Pattern, patterns, no_clique, no_pattern, clique_count, clique_at, members, block_size, clique_words, pattern_words_of}
use Rattle.layout.specs.Checks.{Sound, RightPattern, sizes_bounded, names_its_cone, no_cone}
use Rattle.layout.proofs.Lists.Tests.{and_iff, or_iff, not_iff, eqb_iff, ltb_iff}
use Rattle.layout.proofs.Lists.Members.{EveryAt, all-at, has-map, has-below, length-below}
use Rattle.layout.proofs.Lists.Distinct.{distinct-length}
use Rattle.layout.proofs.Lists.Rising.{rises-distinct}
use Rattle.layout.proofs.Patterns.Tree.{cliques-right}
use Rattle.layout.proofs.Patterns.Cliques.{clique-vertices, clique-distinct}
use Rattle.layout.proofs.Lists.Joins.{join_most}
use Rattle.layout.proofs.Patterns.PatternWords.{words_of_patterns}
use Rattle.layout.proofs.Checks.Accepted.{sound-patterns, sound-ends, sound_rise, sound_names}

-- if no list is empty, the joined list is at least as long as the number of lists
join_long : (f : Clique → List ℕ) (cs : List Clique) → EveryAt no_clique (λ c. ¬ (length (f c) ≡ 0)) cs → length cs ≤ length (join f cs)
join_long f [] h = omega arith
join_long f (c ∷ cs) h =
    omega (arith, h 0 (omega arith), length-append (f c) (join f cs), join_long f cs (λ i l. h (suc i) (omega arith)))

module _ (p : Pattern) (ok : RightPattern p) where
  -- a pattern has no more cliques than vertices
  pub cliques-few : clique_count p ≤ p.vertex_count
  cliques-few =
      let right = cliques-right p ok.cliques in
      omega (arith, join_long (λ c. c.snode) p.cliques right.nonempty, right.vertices)

  pub clique-size : (c : ℕ) → c < clique_count p → block_size (clique_at p c) ≤ p.vertex_count
  clique-size c l =
      let v : ℕ = p.vertex_count in
      omega (
        arith,
        distinct-length (members (clique_at p c)) (below v) (clique-distinct p ok c l) (λ u k. (has-below u v).1 (clique-vertices p ok c l u k)),
        length-append (clique_at p c).snode (clique_at p c).separator,
        length-below v,
      )

  pattern_most : p.vertex_count ≤ 256 → length (pattern_words_of p) ≤ 66563
  pattern_most few =
      omega (
        arith,
        length-append p.ordering (join clique_words p.cliques),
        ok.ordered.vertices,
        cliques-few,
        join_most no_clique clique_words 259 p.cliques (λ c l. omega (arith, clique-size c l, length-append (clique_at p c).snode (clique_at p c).separator)),
      )

-- a clique has at least three words
cliques_least : (cs : List Clique) → 3 * length cs ≤ length (join clique_words cs)
cliques_least [] = omega arith
cliques_least (c ∷ cs) = omega (arith, length-append (clique_words c) (join clique_words cs), cliques_least cs)

pub patterns_least : (ps : List Pattern) → 3 * sum (map clique_count ps) ≤ length (join pattern_words_of ps)
patterns_least [] = omega arith
patterns_least (p ∷ ps) =
    omega (
      arith,
      length-append (pattern_words_of p) (join pattern_words_of ps),
      length-append p.ordering (join clique_words p.cliques),
      cliques_least p.cliques,
      patterns_least ps,
    )

module _ {m : ℕ} {cones : List ℕ} {count : ℕ} {words : List ℕ} (h : Sound m cones count words) where
  abbrev ps : List Pattern
  ps = patterns count words

  abbrev cs : List Cone
  cs = records cones

  pub cones-few : length cs ≤ 1024
  cones-few = leb→le (length cs) 1024 ((and_iff (leb (length cs) 1024) (all sizes_bounded cs)).0 h.bounded).0

  named : EveryAt no_pattern (λ p. T (names_its_cone cs p)) ps
  named = (all-at no_pattern (names_its_cone cs) ps).0 (sound_names h)

  -- a pattern has at most 256 vertices, as its cone is PSD
  pub vertices-few : (i : ℕ) → i < length ps → (get_or ps i no_pattern).vertex_count ≤ 256
  vertices-few i l =
      let p = get_or ps i no_pattern in
      let c = get_or cs p.orig_index no_cone in
      let ((inside, psd), size) = simp (and_iff, eqb_iff, ltb_iff) at (named i l) in
      let sized : T (sizes_bounded c) =
      (all-at no_cone sizes_bounded cs).0 ((and_iff (leb (length cs) 1024) (all sizes_bounded cs)).0 h.bounded).1 p.orig_index inside in
      let small : T (not (is_psd c) || leb c.first 256) = ((and_iff (leb c.first 65536 && leb c.second 65536) (not (is_psd c) || leb c.first 256)).0 sized).1 in
      elim ((or_iff (not (is_psd c)) (leb c.first 256)).0 small) [
        | inl n ↦ absurd ((not_iff (is_psd c)).0 n ((eqb_iff c.kind 6).1 psd))
        | inr k ↦ omega (arith, leb→le c.first 256 k)
      ]

  -- there are no more patterns than cones, as patterns name cones of strictly increasing number
  patterns-few : length ps ≤ length cs
  patterns-few =
      let origins : List ℕ = map (λ p. p.orig_index) ps in
      omega (
        arith,
        distinct-length origins (below (length cs)) (rises-distinct origins (sound_rise h)) (λ x k.
            let (i, l, e) = (has-map no_pattern (λ p. p.orig_index) x ps).0 k in
            let ((inside, psd), size) = simp (and_iff, eqb_iff, ltb_iff) at (named i l) in
            (has-below x (length cs)).1 (omega arith)),
        length-map ps (λ p. p.orig_index),
        length-below (length cs),
      )

  pub words_most : length words ≤ 68160512
  words_most =
      let whole = words_of_patterns count words (sound-ends h) in
      omega (
        arith,
        ap length whole.0,
        join_most no_pattern pattern_words_of 66563 ps (λ i l. pattern_most (get_or ps i no_pattern) (sound-patterns no_pattern h i l) (vertices-few i l)),
        patterns-few,
        cones-few,
      )

  pub count-few : count ≤ 1024
  count-few = omega (arith, (words_of_patterns count words (sound-ends h)).1, patterns-few, cones-few)
