-- One step of the walk over the cones: the part at a place, and the next place.
use Prim.Native.Nat.{ℕ, suc, ◌+◌, ◌-◌, ◌≤◌, ◌<◌}
use native.Mathlib.Numerals.{add-one}
use borrow.Author.Tests.{eq-eqb, ne_eqb}
use native.Mathlib.Omega.{arith}
use mathlib.Core.Path.{◌≡◌, refl, sym, ap, subst, ◌∙◌}
use mathlib.Core.Bool.{true, false, not, ◌&&◌, ◌||◌}
use mathlib.Core.List.{List, [], ◌∷◌, map}
use mathlib.Core.Logic.{⊎_elim}
use lib.ListN.{length, get_or, drop, length-drop}
use lib.Seq.{drop-cons, get_or-drop}
use lib.Dec.{T, eqb, leb}
use Rattle.layout.specs.General.Lists.{all, sum}
use Rattle.layout.specs.General.Triangle.{triangle}
use Rattle.layout.specs.Problems.Cones.{Cone, records, row_count, is_psd}
use Rattle.layout.specs.Problems.Patterns.{Read, read, short, and_then, Pattern, Head, no_pattern, read_members, read_cliques, read_pattern, read_patterns, patterns}
use Rattle.layout.specs.Rows.Blocks.{whole, cut, is_cut, parts, parts_from}
use Rattle.layout.specs.Checks.{Sound, RightPattern, no_cone, names_its_cone, sizes_bounded, Laid}
use Rattle.layout.proofs.Lists.Tests.{and_iff, or_iff, not_iff, leb_iff, ltb_iff, eqb_iff, passed, differ}
use Rattle.layout.proofs.Lists.Members.{all-at}
use Rattle.layout.proofs.Rows.Laid.{names_fits, sound-laid}
use Rattle.supernode_tree.specs.Reads.{pattern_at, value_or, rest, is_whole}
use Rattle.supernode_tree.proofs.Many.{whole-read, ends-whole, ends-value, first-whole, many-whole, many-value}
use Rattle.walk_cones.specs.declared.Place.{Place}
use Rattle.walk_cones.specs.Ahead.{patterns_ahead, ahead, Reached}

-- ---- the first word of a pattern

first_word : (ws : List ℕ) → is_whole (read_pattern ws) ≡ true
    → (3 ≤ length ws) × ((value_or no_pattern (read_pattern ws)).orig_index ≡ get_or ws 0 0)
first_word [] h = absurd (differ false h refl)
first_word (o ∷ []) h = absurd (differ false h refl)
first_word (o ∷ v ∷ []) h = absurd (differ false h refl)
first_word (o ∷ v ∷ k ∷ ws) h = (omega arith, members (read_members v ws) h)
  where
    head : List ℕ → Head
    head us = record { orig_index = o; vertex_count = v; clique_count = k; ordering = us }

    cliques : (us : List ℕ) (r : Read (List Rattle.layout.specs.Problems.Patterns.Clique))
        → let p = and_then r (λ cs left. read (Rattle.layout.specs.Problems.Patterns.with_cliques (head us) cs) left) in
        is_whole p ≡ true → (value_or no_pattern p).orig_index ≡ o
    cliques us (read cs left) h = refl
    cliques us short h = absurd (differ false h refl)

    members : (r : Read (List ℕ))
        → let p = and_then (and_then r (λ us left. read (head us) left))
        (λ g left. and_then (read_cliques g.clique_count left) (λ cs end. read (Rattle.layout.specs.Problems.Patterns.with_cliques g cs) end)) in
        is_whole p ≡ true → (value_or no_pattern p).orig_index ≡ o
    members (read us left) h = cliques us (read_cliques k left) h
    members short h = absurd (differ false h refl)

-- ---- the parts from a cone on

not-cut : (i row k : ℕ) (c : Cone) (cs : List Cone) (ps : List Pattern) → is_cut i ps ≡ false
    → parts_from i row k (c ∷ cs) ps ≡ whole i c row ∷ parts_from (suc i) (row + row_count c) k cs ps
not-cut i row k c cs [] e = refl
not-cut i row k c cs (p ∷ ps) e = rw e

is_cut_lem : (i row k : ℕ) (c : Cone) (cs : List Cone) (p : Pattern) (ps : List Pattern) → eqb p.orig_index i ≡ true
    → parts_from i row k (c ∷ cs) (p ∷ ps) ≡ cut i row k p ∷ parts_from (suc i) (row + row_count c) (suc k) cs ps
is_cut_lem i row k c cs p ps e = rw e

-- ---- one step

module _ (m : ℕ) (cones words : List ℕ) (c : Place) (h : Reached m cones words c) (l : c.cone < length (records cones)) where
  abbrev here : Cone
  here = get_or (records cones) c.cone no_cone

  opened : ahead cones words c
      ≡ parts_from c.cone c.row c.pattern (here ∷ drop (suc c.cone) (records cones)) (patterns_ahead words c)
  opened =
      ap (λ (cs : List Cone). parts_from c.cone c.row c.pattern cs (patterns_ahead words c))
      (drop-cons (records cones) c.cone no_cone l)

  left-total : c.row + (row_count here + sum (map row_count (drop (c.cone + 1) (records cones)))) ≡ m
  left-total =
      ap (λ (k : ℕ). c.row + (row_count here + sum (map row_count (drop k (records cones))))) (add-one c.cone)
      ∙ ap (λ (cs : List Cone). c.row + sum (map row_count cs)) (sym (drop-cons (records cones) c.cone no_cone l))
      ∙ h.total

  pub few-cones : c.cone < 1024
  few-cones =
      omega (
        arith,
        (leb_iff (length (records cones)) 1024).0
            ((and_iff (leb (length (records cones)) 1024) (all sizes_bounded (records cones))).0 h.bounded).0,
      )

  pub row_fits : c.row + row_count here ≤ m
  row_fits = omega (arith, left-total)

  -- a cone that no pattern cuts
  module _ (rows : ℕ) (e : rows ≡ row_count here) (free : is_cut c.cone (patterns_ahead words c) ≡ false) where
    abbrev after_whole : Place
    after_whole = record { cone = c.cone + 1; row = c.row + rows; pattern = c.pattern; left = c.left; at = c.at }

    pub whole-ahead : ahead cones words c ≡ whole c.cone here c.row ∷ ahead cones words after_whole
    whole-ahead =
        opened ∙ not-cut c.cone c.row c.pattern here (drop (suc c.cone) (records cones)) (patterns_ahead words c) free
        ∙ rw (e, add-one)

    pub whole-stands : Reached m cones words after_whole
    whole-stands =
        let after = ahead cones words after_whole in
        let laid : Laid (c.row + row_count here) after = (subst (Laid c.row) whole-ahead h.laid).1 in
        record {
          few = h.few;
          bounded = h.bounded;
          reads = h.reads;
          read = h.read;
          laid = subst (λ (r : ℕ). Laid (c.row + r) after) (sym e) laid;
          total = omega (arith, e, left-total);
          named = h.named;
          numbered = h.numbered;
        }

  pub none_left : c.left ≡ 0 → is_cut c.cone (patterns_ahead words c) ≡ false
  none_left e = ap (λ (k : ℕ). is_cut c.cone (value_or [] (read_patterns k (drop c.at words)))) e

  -- at least one pattern is left
  module _ (more : 0 < c.left) where
    abbrev p : Pattern
    p = pattern_at words c.at

    pub first_read : is_whole (read_pattern (drop c.at words)) ≡ true
    first_read = first-whole read_pattern c.left (drop c.at words) more h.read

    pub head-inside : c.at + 3 ≤ length words
    head-inside = omega (arith, (first_word (drop c.at words) first_read).0, length-drop c.at words)

    origin : p.orig_index ≡ get_or words c.at 0
    origin = (first_word (drop c.at words) first_read).1 ∙ get_or-drop c.at words 0 0 ∙ ap (λ (k : ℕ). get_or words k 0) (omega arith)

    split_at : (left : List ℕ) → rest (read_pattern (drop c.at words)) ≡ left
        → patterns_ahead words c ≡ p ∷ value_or [] (read_patterns (c.left - 1) left)
    split_at left n =
        many-value read_pattern c.left (drop c.at words) more p left
        (whole-read no_pattern (read_pattern (drop c.at words)) first_read ∙ ap (λ (ws : List ℕ). read p ws) n) h.read

    pub not_mine : (get_or words c.at 0 ≡ c.cone → ⊥) → is_cut c.cone (patterns_ahead words c) ≡ false
    not_mine n =
        ap (is_cut c.cone) (split_at (rest (read_pattern (drop c.at words))) refl)
        ∙ ne_eqb p.orig_index c.cone (λ q. n (sym origin ∙ q))

    -- the next pattern cuts the cone
    module _ (mine : get_or words c.at 0 ≡ c.cone) (rows : ℕ) (e : rows ≡ row_count here)
        (next : ℕ) (n : rest (read_pattern (drop c.at words)) ≡ drop next words) where
      abbrev after_cut : Place
      after_cut = record { cone = c.cone + 1; row = c.row + rows; pattern = c.pattern + 1; left = c.left - 1; at = next }

      pub cut-ahead : ahead cones words c ≡ cut c.cone c.row c.pattern p ∷ ahead cones words after_cut
      cut-ahead =
          let cs : List Cone = drop (suc c.cone) (records cones) in
          opened
          ∙ ap (λ (ps : List Pattern). parts_from c.cone c.row c.pattern (here ∷ cs) ps) (split_at (drop next words) n)
          ∙ is_cut_lem c.cone c.row c.pattern here cs p (value_or [] (read_patterns (c.left - 1) (drop next words)))
          (eq-eqb p.orig_index c.cone (origin ∙ mine))
          ∙ simp (e, add-one)

      names : T (names_its_cone (records cones) p) × T (all (names_its_cone (records cones)) (patterns_ahead words after_cut))
      names =
          (and_iff (names_its_cone (records cones) p) (all (names_its_cone (records cones)) (patterns_ahead words after_cut))).0
          (subst (λ (ps : List Pattern). T (all (names_its_cone (records cones)) ps)) (split_at (drop next words) n) h.named)

      laid-cut : (c.row ≡ c.row) × RightPattern p × Laid (c.row + triangle p.vertex_count) (ahead cones words after_cut)
      laid-cut = subst (Laid c.row) cut-ahead h.laid

      pub cut_right : RightPattern p
      cut_right = laid-cut.1

      pub cut-rows : row_count here ≡ triangle p.vertex_count
      cut-rows = names_fits (records cones) p names.0 c.cone l (omega (arith, origin, mine))

      pub cut-few : p.vertex_count ≤ 256
      cut-few =
          let named = simp (and_iff, eqb_iff, ltb_iff) at names.0 in
          let q : Cone = get_or (records cones) p.orig_index no_cone in
          let sizes : T (all sizes_bounded (records cones)) =
          ((and_iff (leb (length (records cones)) 1024) (all sizes_bounded (records cones))).0 h.bounded).1 in
          let fits : T (sizes_bounded q) = (all-at no_cone sizes_bounded (records cones)).0 sizes p.orig_index named.0.0 in
          let psd : T (not (is_psd q) || leb q.first 256) =
          ((and_iff (leb q.first 65536 && leb q.second 65536) (not (is_psd q) || leb q.first 256)).0 fits).1 in
          ⊎_elim (λ no. absurd ((not_iff (is_psd q)).0 no ((eqb_iff q.kind 6).1 named.0.1)))
          (λ yes. omega (arith, (leb_iff q.first 256).0 yes, named.1)) ((or_iff (not (is_psd q)) (leb q.first 256)).0 psd)

      pub cut_stands : Reached m cones words after_cut
      cut_stands =
          let after = ahead cones words after_cut in
          let same : triangle p.vertex_count ≡ rows = sym (e ∙ cut-rows) in
          record {
            few = h.few;
            bounded = h.bounded;
            reads = h.reads;
            read =
                ap (λ (ws : List ℕ). is_whole (read_patterns (c.left - 1) ws)) (sym n)
                ∙ sym (many-whole read_pattern c.left (drop c.at words) more p (rest (read_pattern (drop c.at words)))
                (whole-read no_pattern (read_pattern (drop c.at words)) first_read))
                ∙ h.read;
            laid = subst (λ (r : ℕ). Laid (c.row + r) after) same laid-cut.2;
            total = omega (arith, e, left-total);
            named = names.1;
            numbered = omega (arith, h.numbered);
          }

-- the first place of the walk
pub starts : (m : ℕ) (cones : List ℕ) (count : ℕ) (words : List ℕ) → Sound m cones count words → count < 4294967296
    → let c : Place = record { cone = 0; row = 0; pattern = 0; left = count; at = 0 } in
    (ahead cones words c ≡ parts (records cones) (patterns count words)) × Reached m cones words c
starts m cones count words h few =
    let c : Place = record { cone = 0; row = 0; pattern = 0; left = count; at = 0 } in
    let reads = simp and_iff at h.named in
    let ends = reads.0.0.0 in
    let same : patterns_ahead words c ≡ patterns count words = sym (ends-value [] (read_patterns count words) (passed _ ends)) in
    let eq : ahead cones words c ≡ parts (records cones) (patterns count words) = ap (parts_from 0 0 0 (records cones)) same in
    let laid : Laid 0 (ahead cones words c) = subst (Laid 0) (sym eq) (sound-laid h).0 in
    let total : sum (map row_count (records cones)) ≡ m = (simp (and_iff, eqb_iff) at h.read).1 in (
      eq,
      record {
        few = h.few;
        bounded = h.bounded;
        reads = (simp and_iff at h.read).0.1;
        read = ends-whole (read_patterns count words) (passed _ ends);
        laid = laid;
        total = omega (arith, total);
        named = subst (λ (ps : List Pattern). T (all (names_its_cone (records cones)) ps)) (sym same) reads.0.1;
        numbered = omega arith;
      },
    )
