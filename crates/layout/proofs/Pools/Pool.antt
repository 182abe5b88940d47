-- The patterns and parts of a pool: the first problem's, then the second's with raised numbers.
use Prim.Native.Nat.{ℕ, suc, ◌+◌, ◌≤◌, ◌<◌}
use native.Mathlib.Omega.{arith}
use mathlib.Core.Path.{◌≡◌, refl, sym, ap, ap₂, subst, ◌∙◌}
use mathlib.Core.Logic.{inl, inr}
use mathlib.Core.Bool.{Bool, true, false, cond}
use mathlib.Core.List.{List, [], ◌∷◌, ◌++◌, map}
use lib.ListN.{length, length-append, length-map}
use lib.Dec.{T, eqb, eqb→eq}
use Rattle.layout.specs.General.Lists.{has, sum, rises}
use Rattle.layout.specs.Problems.Problem.{Problem}
use Rattle.layout.specs.Problems.Cones.{Cone, records, row_count}
use Rattle.layout.specs.Problems.Patterns.{Pattern, Read, read, read_patterns, patterns, pattern_words_of, wholly, ends_right}
use Rattle.layout.specs.Rows.Blocks.{Part, whole, cut, is_cut, part_of, parts_from, parts}
use Rattle.layout.specs.Checks.{Sound, layout}
use Rattle.layout.specs.Calls.Pool.{raised_pattern, raised_words, pool}
use Rattle.layout.proofs.Lists.Tests.{eqb_shift, eqb_iff, failed}
use Rattle.layout.proofs.Lists.Members.{has-cons, all_map, all_of_both}
use Rattle.layout.proofs.Lists.Rising.{rises-cons}
use Rattle.layout.proofs.Lists.Starts.{join-append}
use Rattle.layout.proofs.Patterns.Records.{records-append}
use Rattle.layout.proofs.Checks.Accepted.{sound-ends, sound_rise, sound-whole, sound-cone-rows, sound-inside}
use Rattle.layout.proofs.Patterns.Reading.{ordering_fits, patterns_fit}
use Rattle.layout.proofs.Patterns.PatternWords.{words_of_patterns, patterns_of_words}

-- ---- the parts of appended cones and patterns

-- whether the patterns' cone numbers strictly increase, are at least lo and are below hi
abbrev Between : ℕ → ℕ → List Pattern → Type 0
Between lo hi [] = Unit {0}
Between lo hi (p ∷ ps) = (lo ≤ p.orig_index) × (p.orig_index < hi) × Between (suc p.orig_index) hi ps

-- whether the first pattern's cone number is at least hi
abbrev Behind : ℕ → List Pattern → Type 0
Behind hi [] = Unit {0}
Behind hi (q ∷ qs) = hi ≤ q.orig_index

abbrev origins : List Pattern → List ℕ
origins ps = map (λ p. p.orig_index) ps

between : (lo hi : ℕ) (ps : List Pattern) → ((y : ℕ) → T (has y (origins ps)) → (lo ≤ y) × (y < hi)) → T (rises (origins ps))
    → Between lo hi ps
between lo hi [] inside rise = tt
between lo hi (p ∷ ps) inside rise =
    let (above, rest) = (rises-cons p.orig_index (origins ps)).0 rise in
    let (low, high) = inside p.orig_index ((has-cons p.orig_index p.orig_index (origins ps)).1 (inl refl)) in (
      low,
      high,
      between (suc p.orig_index) hi ps
          (λ y k. (above y k, (inside y ((has-cons y p.orig_index (origins ps)).1 (inr k))).1)) rest,
    )

not-cut : (i hi : ℕ) (qs : List Pattern) → i < hi → Behind hi qs → is_cut i qs ≡ false
not-cut i hi [] l b = refl
not-cut i hi (q ∷ qs) l b = failed (eqb q.orig_index i) (λ t. omega (arith, eqb→eq q.orig_index i t))

not-cut-part : (i row k : ℕ) (c : Cone) (qs : List Pattern) → is_cut i qs ≡ false → part_of i c row k qs ≡ whole i c row
not-cut-part i row k c [] e = refl
not-cut-part i row k c (q ∷ qs) e = rw e

parts-append : (i row k hi : ℕ) (cs ds : List Cone) (ps qs : List Pattern) → hi ≡ i + length cs → Between i hi ps → Behind hi qs
    → parts_from i row k (cs ++ ds) (ps ++ qs)
    ≡ parts_from i row k cs ps ++ parts_from hi (row + sum (map row_count cs)) (k + length ps) ds qs
parts-append i row k hi [] ds [] qs e b f =
    let ei : i ≡ hi = omega arith in
    let er : row ≡ row + 0 = omega arith in
    let ek : k ≡ k + 0 = omega arith in
    ap (λ (x : ℕ). parts_from x row k ds qs) ei ∙ ap (λ (x : ℕ). parts_from hi x k ds qs) er
    ∙ ap (λ (x : ℕ). parts_from hi (row + 0) x ds qs) ek
parts-append i row k hi [] ds (p ∷ ps) qs e b f = absurd (omega arith)
parts-append i row k hi (c ∷ cs) ds [] qs e b f =
    let no = not-cut i hi qs (omega arith) f in
    let er : row + row_count c + sum (map row_count cs) ≡ row + (row_count c + sum (map row_count cs)) = omega arith in
    rw (not-cut-part i row k c qs no, no) (ap (λ (r : List Part). whole i c row ∷ r)
    (parts-append (suc i) (row + row_count c) k hi cs ds [] qs (omega arith) tt f
    ∙ ap (λ (x : ℕ). parts_from (suc i) (row + row_count c) k cs [] ++ parts_from hi x (k + 0) ds qs) er))
parts-append i row k hi (c ∷ cs) ds (p ∷ ps) qs e b f =
    pick (eqb p.orig_index i) (eqb→eq p.orig_index i) (λ n. (eqb_iff p.orig_index i).1 n)
    (λ k' ps' g. parts-append (suc i) (row + row_count c) k' hi cs ds ps' qs (omega arith) g f)
  where
    after : ℕ → ℕ → List Part
    after x j = parts_from hi x j ds qs

    pick : (t : Bool) → (T t → p.orig_index ≡ i) → (p.orig_index ≡ i → T t)
        → ((k' : ℕ) (ps' : List Pattern) → Between (suc i) hi ps'
        → parts_from (suc i) (row + row_count c) k' (cs ++ ds) (ps' ++ qs)
        ≡ parts_from (suc i) (row + row_count c) k' cs ps' ++ after (row + row_count c + sum (map row_count cs)) (k' + length ps'))
        → cond t (cut i row k p) (whole i c row)
        ∷ parts_from (suc i) (row + row_count c) (cond t (suc k) k) (cs ++ ds) (cond t (ps ++ qs) (p ∷ (ps ++ qs)))
        ≡ cond t (cut i row k p) (whole i c row)
        ∷ (parts_from (suc i) (row + row_count c) (cond t (suc k) k) cs (cond t ps (p ∷ ps))
        ++ after (row + (row_count c + sum (map row_count cs))) (k + suc (length ps)))
    pick true is isnt rest =
        let er : row + row_count c + sum (map row_count cs) ≡ row + (row_count c + sum (map row_count cs)) = omega arith in
        let ek : suc k + length ps ≡ k + suc (length ps) = omega arith in
        ap (λ (r : List Part). cut i row k p ∷ r)
        (rest (suc k) ps (subst (λ (x : ℕ). Between (suc x) hi ps) (is tt) b.2)
        ∙ ap₂ (λ (x j : ℕ). parts_from (suc i) (row + row_count c) (suc k) cs ps ++ after x j) er ek)
    pick false is isnt rest =
        let er : row + row_count c + sum (map row_count cs) ≡ row + (row_count c + sum (map row_count cs)) = omega arith in
        let low : suc i ≤ p.orig_index = above p.orig_index i b.0 isnt in
        ap (λ (r : List Part). whole i c row ∷ r)
        (rest k (p ∷ ps) (low, b.1, b.2)
        ∙ ap (λ (x : ℕ). parts_from (suc i) (row + row_count c) k cs (p ∷ ps) ++ after x (k + suc (length ps))) er)
      where
        above : (o i : ℕ) → i ≤ o → (o ≡ i → ⊥) → suc i ≤ o
        above o i l n = omega arith

-- ---- parts that follow others

-- a part with k cones, r rows and t patterns before it
abbrev pub raised_part : ℕ → ℕ → ℕ → Part → Part
raised_part k r t (whole i c row) = whole (k + i) c (r + row)
raised_part k r t (cut i row j p) = cut (k + i) (r + row) (t + j) (raised_pattern k p)

module _ (d r t : ℕ) where
  abbrev Raised : ℕ → ℕ → ℕ → List Cone → List Pattern → Type 0
  Raised i row k cs ps =
      parts_from (d + i) (r + row) (t + k) cs (map (raised_pattern d) ps) ≡ map (raised_part d r t) (parts_from i row k cs ps)

  -- the parts after the first are raised
  after_first : (i row k j : ℕ) (c : Cone) (cs : List Cone) (ps : List Pattern) → j ≡ t + k → Raised (suc i) (row + row_count c) k cs ps
      → parts_from (suc (d + i)) (r + row + row_count c) j cs (map (raised_pattern d) ps)
      ≡ map (raised_part d r t) (parts_from (suc i) (row + row_count c) k cs ps)
  after_first i row k j c cs ps e h =
      let ei : suc (d + i) ≡ d + suc i = omega arith in
      let er : r + row + row_count c ≡ r + (row + row_count c) = omega arith in
      ap₂ (λ (x y : ℕ). parts_from x y j cs (map (raised_pattern d) ps)) ei er
      ∙ ap (λ (x : ℕ). parts_from (d + suc i) (r + (row + row_count c)) x cs (map (raised_pattern d) ps)) e ∙ h

  parts-raised : (i row k : ℕ) (cs : List Cone) (ps : List Pattern) → Raised i row k cs ps
  parts-raised i row k [] ps = refl
  parts-raised i row k (c ∷ cs) [] =
      ap (λ (x : List Part). whole (d + i) c (r + row) ∷ x)
      (after_first i row k (t + k) c cs [] refl (parts-raised (suc i) (row + row_count c) k cs []))
  parts-raised i row k (c ∷ cs) (p ∷ ps) =
      rw (eqb_shift d p.orig_index i) (pick (eqb p.orig_index i)
      (after_first i row (suc k) (suc (t + k)) c cs ps (omega arith) (parts-raised (suc i) (row + row_count c) (suc k) cs ps))
      (after_first i row k (t + k) c cs (p ∷ ps) refl (parts-raised (suc i) (row + row_count c) k cs (p ∷ ps))))
    where
      pick : (b : Bool)
          → parts_from (suc (d + i)) (r + row + row_count c) (suc (t + k)) cs (map (raised_pattern d) ps)
          ≡ map (raised_part d r t) (parts_from (suc i) (row + row_count c) (suc k) cs ps)
          → parts_from (suc (d + i)) (r + row + row_count c) (t + k) cs (map (raised_pattern d) (p ∷ ps))
          ≡ map (raised_part d r t) (parts_from (suc i) (row + row_count c) k cs (p ∷ ps))
          → cond b (cut (d + i) (r + row) (t + k) (raised_pattern d p)) (whole (d + i) c (r + row))
          ∷ parts_from (suc (d + i)) (r + row + row_count c) (cond b (suc (t + k)) (t + k)) cs
          (cond b (map (raised_pattern d) ps) (map (raised_pattern d) (p ∷ ps)))
          ≡ raised_part d r t (cond b (cut i row k p) (whole i c row))
          ∷ map (raised_part d r t) (parts_from (suc i) (row + row_count c) (cond b (suc k) k) cs (cond b ps (p ∷ ps)))
      pick true h g = ap (λ (x : List Part). cut (d + i) (r + row) (t + k) (raised_pattern d p) ∷ x) h
      pick false h g = ap (λ (x : List Part). whole (d + i) c (r + row) ∷ x) g

-- ---- the pool's patterns and parts

module _ (p q : Problem) (hp : Sound p.m p.cones p.pattern_count p.pattern_words)
    (hq : Sound q.m q.cones q.pattern_count q.pattern_words) where
  abbrev ps : List Pattern
  ps = patterns p.pattern_count p.pattern_words

  abbrev qs : List Pattern
  qs = patterns q.pattern_count q.pattern_words

  -- the first problem's cone count
  abbrev d : ℕ
  d = length (records p.cones)

  abbrev raised_qs : List Pattern
  raised_qs = map (raised_pattern d) qs

  -- the pool's pattern words read back as the first's patterns, then the second's raised
  pool-read : read_patterns (p.pattern_count + q.pattern_count) (p.pattern_words ++ raised_words d qs) ≡ read (ps ++ raised_qs) []
  pool-read =
      let (words, many) = words_of_patterns p.pattern_count p.pattern_words (sound-ends hp) in
      let count : p.pattern_count + q.pattern_count ≡ length (ps ++ raised_qs) =
      omega (
        arith,
        length-append ps raised_qs,
        length-map qs (raised_pattern d),
        many,
        (words_of_patterns q.pattern_count q.pattern_words (sound-ends hq)).1,
      ) in
      ap₂ read_patterns count
      (ap (λ (ws : List ℕ). ws ++ raised_words d qs) words ∙ sym (join-append pattern_words_of ps raised_qs))
      ∙ patterns_of_words (ps ++ raised_qs) (all_of_both ordering_fits ps raised_qs (patterns_fit p.pattern_count p.pattern_words)
      (subst T (sym (all_map ordering_fits (raised_pattern d) qs)) (patterns_fit q.pattern_count q.pattern_words)))

  pub pool-ends : T (ends_right (read_patterns (pool p q).pattern_count (pool p q).pattern_words))
  pool-ends = subst (λ (r : Read (List Pattern)). T (ends_right r)) (sym pool-read) tt

  pub pool-patterns : patterns (pool p q).pattern_count (pool p q).pattern_words
      ≡ patterns p.pattern_count p.pattern_words
      ++ map (raised_pattern (length (records p.cones))) (patterns q.pattern_count q.pattern_words)
  pool-patterns = ap (wholly []) pool-read

  pub pool-records : records (pool p q).cones ≡ records p.cones ++ records q.cones
  pool-records = records-append p.cones q.cones (sound-whole hp)

  -- the pool's parts: the first problem's, then the second's raised by the first's numbers of cones, rows and patterns
  pub pool-layout : layout (pool p q)
      ≡ layout p ++ map (raised_part (length (records p.cones)) p.m p.pattern_count) (layout q)
  pool-layout =
      let ei : d ≡ d + 0 = omega arith in
      let er : 0 + sum (map row_count (records p.cones)) ≡ p.m + 0 = omega (arith, sound-cone-rows hp) in
      let ek : 0 + length ps ≡ p.pattern_count + 0 =
      omega (arith, (words_of_patterns p.pattern_count p.pattern_words (sound-ends hp)).1) in
      ap₂ parts pool-records pool-patterns
      ∙ parts-append 0 0 0 d (records p.cones) (records q.cones) ps raised_qs (omega arith)
      (between 0 d ps (λ y k. (omega arith, sound-inside hp y k)) (sound_rise hp)) (behind qs)
      ∙ ap (λ (r : List Part). layout p ++ r)
      (ap₂ (λ (x y : ℕ). parts_from x y (0 + length ps) (records q.cones) raised_qs) ei er
      ∙ ap (λ (x : ℕ). parts_from (d + 0) (p.m + 0) x (records q.cones) raised_qs) ek
      ∙ parts-raised d p.m p.pattern_count 0 0 0 (records q.cones) qs)
    where
      behind : (qs : List Pattern) → Behind d (map (raised_pattern d) qs)
      behind [] = tt
      behind (x ∷ xs) = omega arith
