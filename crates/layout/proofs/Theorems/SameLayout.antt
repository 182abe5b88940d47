-- Two problems with the same layout: what is compared is equal, checks 1 to 7 read little else, and if a route accepts both, the
-- augmented problems agree in all but values.
use Prim.Native.Nat.{ℕ, zero, suc}
use mathlib.Core.Path.{◌≡◌, refl, sym, ap, subst, ◌∙◌}
use mathlib.Core.Bool.{Bool, ◌&&◌}
use mathlib.Core.List.{List, [], ◌∷◌, ◌++◌}
use lib.ListN.{length, replicate}
use lib.Dec.{T, eqb, eqb→eq}
use lib.Ieee.{nan}
use Rattle.layout.specs.General.Lists.{all, same_by, same_numbers, join}
use Rattle.layout.specs.General.Floats.{same_bits}
use Rattle.layout.specs.Problems.Problem.{Problem, Csc, Route, standard, compact, problem}
use Rattle.layout.specs.Problems.Cones.{records}
use Rattle.layout.specs.Problems.Patterns.{Pattern, Read, read, short, and_then, read_pattern, read_patterns, ends_right, patterns}
use Rattle.layout.specs.Rows.Blocks.{Part, parts, block_row_count, overlap_count}
use Rattle.layout.specs.Checks.{origins_rise, names_its_cone, orderings_right, layout, refusal}
use Rattle.layout.specs.Cuts.Compact.{summed_a, compact_part, cone_map, map_words, extended_p}
use Rattle.layout.specs.Cuts.Standard.{standard_part}
use Rattle.layout.specs.Calls.Cut.{augmented}
use Rattle.layout.specs.Calls.Answers.{problem_refusal}
use Rattle.layout.specs.Calls.SameLayout.{same_places, same_layout, SameAugmented}
use Rattle.layout.proofs.Lists.Tests.{and_iff}
use Rattle.layout.proofs.Files.Lengths.{refusal-lengths}
use Rattle.layout.proofs.Checks.Accepted.{accepted-sound}
use Rattle.layout.proofs.Columns.Columns.{right_A, right_P}
use Rattle.layout.proofs.Columns.Repeats.{right-summed}
use Rattle.layout.proofs.Columns.Places.{SamePlaces, summed_same, compact_same, standard_same}
use Rattle.layout.proofs.Lists.Walks.{same_at, numbers_equal}
use Rattle.layout.proofs.Columns.Sizes.{compact_sizes, compact_sizes_lem, standard_sizes, standard_sizes_lem}

-- ---- what is compared

places_equal : (M N : Csc) → T (same_places M N) → SamePlaces M N
places_equal M N h =
    let (s, r) = (and_iff (same_numbers M.starts N.starts) (same_numbers M.rows N.rows)).0 h in
    (numbers_equal M.starts N.starts s, numbers_equal M.rows N.rows r)

module _ (p q : Problem) (same : T (same_layout p q)) where
  compared : (p.n ≡ q.n) × (p.m ≡ q.m) × (p.cones ≡ q.cones) × (p.pattern_words ≡ q.pattern_words)
      × T (same_by same_bits p.alphas q.alphas) × SamePlaces p.A q.A × SamePlaces p.P q.P
  compared =
      let n : Bool = eqb p.n q.n in
      let m : Bool = eqb p.m q.m in
      let cones : Bool = same_numbers p.cones q.cones in
      let words : Bool = same_numbers p.pattern_words q.pattern_words in
      let alphas : Bool = same_by same_bits p.alphas q.alphas in
      let (to-A, places_p) = (and_iff (n && m && cones && words && alphas && same_places p.A q.A) (same_places p.P q.P)).0 same in
      let (to-α, places_a) = (and_iff (n && m && cones && words && alphas) (same_places p.A q.A)).0 to-A in
      let (to-w, α) = (and_iff (n && m && cones && words) alphas).0 to-α in
      let (to-c, w) = (and_iff (n && m && cones) words).0 to-w in
      let (to-m, c) = (and_iff (n && m) cones).0 to-c in
      let (en, em) = (and_iff n m).0 to-m in (
        eqb→eq p.n q.n en,
        eqb→eq p.m q.m em,
        numbers_equal p.cones q.cones c,
        numbers_equal p.pattern_words q.pattern_words w,
        α,
        places_equal p.A q.A places_a,
        places_equal p.P q.P places_p,
      )

  α-count : length p.alphas ≡ length q.alphas
  α-count = ((same_at same_bits nan p.alphas q.alphas).0 compared.4).0

  -- besides what is compared, checks 1 to 7 read only the pattern count and the lengths of the float tables
  pub checked_alike : p.pattern_count ≡ q.pattern_count → length p.P.values ≡ length q.P.values → length p.q ≡ length q.q
      → length p.A.values ≡ length q.A.values → length p.b ≡ length q.b → problem_refusal p ≡ problem_refusal q
  checked_alike count values_p costs values_a sides =
      let e = compared in
      refusal-lengths p.n p.m p.P.starts p.P.rows p.P.values q.P.values p.q q.q p.A.starts p.A.rows
      p.A.values q.A.values p.b q.b p.cones p.alphas q.alphas p.pattern_count p.pattern_words
      values_p costs values_a sides α-count
      ∙ (λ i. problem_refusal (problem (e.0 i) (e.1 i) (e.6.0 i) (e.6.1 i) q.P.values q.q (e.5.0 i) (e.5.1 i)
      q.A.values q.b (e.2 i) q.alphas (count i) (e.3 i)))

-- pattern words end neither early nor late for at most one pattern count
ends : {A B : Type 0} (f : A → B) (r : Read A) → T (ends_right (and_then r (λ a left. read (f a) left))) → T (ends_right r)
ends f (read a []) h = tt
ends f (read a (w ∷ ws)) h = absurd h
ends f short h = absurd h

abbrev more : ℕ → Read Pattern → Read (List Pattern)
more i r = and_then r (λ a rest. and_then (read_patterns i rest) (λ us left. read (a ∷ us) left))

pub count-told : (j k : ℕ) (ws : List ℕ) → T (ends_right (read_patterns j ws)) → T (ends_right (read_patterns k ws)) → j ≡ k
count-told zero zero ws h l = refl
count-told zero (suc k) [] h l = absurd l
count-told zero (suc k) (w ∷ ws) h l = absurd h
count-told (suc j) zero [] h l = absurd h
count-told (suc j) zero (w ∷ ws) h l = absurd l
count-told (suc j) (suc k) ws h l = ap suc (go (read_pattern ws) h l (λ rest a b. count-told j k rest a b))
  where
    go : (r : Read Pattern) → T (ends_right (more j r)) → T (ends_right (more k r))
        → ((rest : List ℕ) → T (ends_right (read_patterns j rest)) → T (ends_right (read_patterns k rest)) → j ≡ k) → j ≡ k
    go (read a rest) h l f = f rest (ends (λ us. a ∷ us) (read_patterns j rest) h) (ends (λ us. a ∷ us) (read_patterns k rest) l)
    go short h l f = absurd h

-- ---- the cuts of two problems with the same layout, both accepted

module _ (route : Route) (p q : Problem) (same : T (same_layout p q)) (okp : refusal route p ≡ 0) (okq : refusal route q ≡ 0) where
  ended : (p : Problem) → refusal route p ≡ 0 → T (ends_right (read_patterns p.pattern_count p.pattern_words))
  ended p ok =
      let ps = patterns p.pattern_count p.pattern_words in
      let ends : Bool = ends_right (read_patterns p.pattern_count p.pattern_words) in
      let rise : Bool = origins_rise ps in
      let named : Bool = all (names_its_cone (records p.cones)) ps in
      ((and_iff ends rise).0 ((and_iff (ends && rise) named).0
      ((and_iff (ends && rise && named) (orderings_right ps)).0 (accepted-sound route p ok).named).0).0).0

  counts : p.pattern_count ≡ q.pattern_count
  counts =
      count-told p.pattern_count q.pattern_count p.pattern_words (ended p okp)
      (subst (λ (ws : List ℕ). T (ends_right (read_patterns q.pattern_count ws))) (sym (compared p q same).3) (ended q okq))

  same_parts : layout p ≡ layout q
  same_parts = λ i. parts (records ((compared p q same).2 i)) (patterns (counts i) ((compared p q same).3 i))

  -- both problems have equally many entries, as check 2 requires as many values as rows
  entries : (length p.A.values ≡ length q.A.values) × (length p.P.values ≡ length q.P.values)
  entries = (
    sym (right_A route p okp).even ∙ ap length (compared p q same).5.1 ∙ (right_A route q okq).even,
    sym (right_P route p okp).even ∙ ap length (compared p q same).6.1 ∙ (right_P route q okq).even,
  )

  summed-entries : length (summed_a p).values ≡ length (summed_a q).values
  summed-entries =
      sym (right-summed p).even ∙ ap length (summed_same p q (compared p q same).0 (compared p q same).5).1 ∙ (right-summed q).even

  -- P extended by equally many empty columns has equal starts and rows
  extended_same : (k : List Part → ℕ) → SamePlaces (extended_p (k (layout p)) p.P) (extended_p (k (layout q)) q.P)
  extended_same k = (λ i. (compared p q same).6.0 i ++ replicate (k (same_parts i)) (entries.1 i), (compared p q same).6.1)

same_compact : (p q : Problem) → T (same_layout p q) → refusal compact p ≡ 0 → refusal compact q ≡ 0
    → SameAugmented (augmented compact p) (augmented compact q)
same_compact p q same okp okq =
    let e = compared p q same in
    let l = same_parts compact p q same okp okq in
    let k = entries compact p q same okp okq in
    let places = compact_same p q e.0 l e.5 in
    let P = extended_same compact p q same okp okq overlap_count in
    record {
      starts = places.0;
      rows = places.1;
      cones = ap (join compact_part) l;
      alphas = e.4;
      map = ap (λ (ps : List Part). map_words (cone_map ps)) l;
      starts_p = P.0;
      rows_p = P.1;
      lengths =
          compact_sizes_lem p okp
          ∙ (λ i. compact_sizes (e.0 i) (k.1 i) (summed-entries compact p q same okp okq i) (α-count p q same i) (l i))
          ∙ sym (compact_sizes_lem q okq);
    }

same_standard : (p q : Problem) → T (same_layout p q) → refusal standard p ≡ 0 → refusal standard q ≡ 0
    → SameAugmented (augmented standard p) (augmented standard q)
same_standard p q same okp okq =
    let e = compared p q same in
    let l = same_parts standard p q same okp okq in
    let k = entries standard p q same okp okq in
    let places = standard_same p q e.0 l e.5 e.1 in
    let P = extended_same standard p q same okp okq block_row_count in
    record {
      starts = places.0;
      rows = places.1;
      cones = λ i. 0 ∷ e.1 i ∷ 0 ∷ join standard_part (l i);
      alphas = e.4;
      map = refl;
      starts_p = P.0;
      rows_p = P.1;
      lengths =
          standard_sizes_lem p okp ∙ (λ i. standard_sizes (e.0 i) (e.1 i) (k.1 i) (k.0 i) (α-count p q same i) (l i))
          ∙ sym (standard_sizes_lem q okq);
    }

pub same_augmented : (route : Route) (p q : Problem) → T (same_layout p q) → refusal route p ≡ 0 → refusal route q ≡ 0
    → SameAugmented (augmented route p) (augmented route q)
same_augmented standard p q same okp okq = same_standard p q same okp okq
same_augmented compact p q same okp okq = same_compact p q same okp okq
