-- Pattern words with each orig_index raised, written over a copy of the words one pattern at a time.
use Prim.Native.Nat.{ℕ, suc, ◌+◌, ◌-◌, ◌≤◌, ◌<◌}
use native.Mathlib.Nat.{le_refl, le_of_eq}
use native.Mathlib.Omega.{arith}
use mathlib.Core.Path.{◌≡◌, refl, sym, ap, ap₂, subst, ◌∙◌}
use mathlib.Core.Bool.{true}
use mathlib.Core.List.{List, [], ◌∷◌, ◌++◌, append_assoc}
use lib.ListN.{length, get_or, set, drop, length-append, length-drop}
use lib.Seq.{drop-cons}
use lib.Dec.{T, ltb→lt}
use Rattle.layout.specs.General.Lists.{all, join, written}
use Rattle.layout.specs.Problems.Patterns.{Pattern, read, no_pattern, read_pattern, read_patterns, ends_right, patterns, pattern_words_of}
use Rattle.layout.specs.Calls.Pool.{raised_pattern, raised_words}
use Rattle.layout.proofs.Lists.Tests.{and_iff, passes}
use Rattle.layout.proofs.Lists.Buffers.{written_over}
use Rattle.layout.proofs.Patterns.PatternWords.{words_of_patterns}
use Rattle.layout.proofs.Pools.PoolTables.{raised-words-step}
use Rattle.supernode_tree.specs.Reads.{is_whole, rest, ended, pattern_at}
use Rattle.supernode_tree.proofs.Many.{whole-read, ends-whole, ends-value, ended-ends, ended-next, first-whole}
use Rattle.supernode_tree.proofs.Patterns.{patterns-first}
use Rattle.pool_tables.specs.Stacked.{origin_raisable, OriginsRaisable}

-- replacing one word
replaced : (xs : List ℕ) (y v : ℕ) (ys zs : List ℕ) → set ((xs ++ (y ∷ ys)) ++ zs) (length xs) v ≡ (xs ++ (v ∷ ys)) ++ zs
replaced [] y v ys zs = refl
replaced (x ∷ xs) y v ys zs = ap (λ (r : List ℕ). x ∷ r) (replaced xs y v ys zs)

word_replaced : (xs : List ℕ) (y v : ℕ) (ys old : List ℕ) → set (written (xs ++ (y ∷ ys)) old) (length xs) v ≡ written (xs ++ (v ∷ ys)) old
word_replaced xs y v ys old =
    let k = length (xs ++ (y ∷ ys)) in
    let e : k ≡ length (xs ++ (v ∷ ys)) = length-append xs (y ∷ ys) ∙ sym (length-append xs (v ∷ ys)) in
    replaced xs y v ys (drop k old) ∙ ap (λ (i : ℕ). (xs ++ (v ∷ ys)) ++ drop i old) e

-- raising keeps the number of words
raised_same : (k : ℕ) (ps : List Pattern) → length (raised_words k ps) ≡ length (join pattern_words_of ps)
raised_same k [] = refl
raised_same k (p ∷ ps) =
    omega (
      arith,
      length-append (pattern_words_of (raised_pattern k p)) (raised_words k ps),
      length-append (pattern_words_of p) (join pattern_words_of ps),
      raised_same k ps,
    )

pub raised-length : (k count : ℕ) (words : List ℕ) → ends_right (read_patterns count words) ≡ true
    → length (raised_words k (patterns count words)) ≡ length words
raised-length k count words ends =
    raised_same k (patterns count words) ∙ ap length (sym (words_of_patterns count words (passes _ ends)).0)

-- ---- words copied and then overwritten

-- copying again changes nothing
pub copy-stands : (xs old : List ℕ) {out : List ℕ} → out ≡ written xs old → out ≡ written xs out
copy-stands xs old e = e ∙ sym (ap (written xs) e ∙ written_over xs xs old (le_refl (length xs)))

pub over_copy : (xs ys old : List ℕ) {mid out : List ℕ} → mid ≡ written ys old → length xs ≡ length ys → out ≡ written xs mid → out ≡ written xs old
over_copy xs ys old e l f = f ∙ ap (written xs) e ∙ written_over ys xs old (le_of_eq (sym l))

-- ---- the loop

-- the loop's state with `left` patterns left from word `at` on: `done` is written, and the words after it are still the copied ones
pub record Raising (k count : ℕ) (words old : List ℕ) (at left : ℕ) (out : List ℕ) : Type 0 where
  pub done : List ℕ
  pub ends : ends_right (read_patterns left (drop at words)) ≡ true
  pub fit : OriginsRaisable k (patterns left (drop at words))
  pub size : length done + length (drop at words) ≡ length words
  pub holds : out ≡ written (done ++ drop at words) old
  pub all : done ++ raised_words k (patterns left (drop at words)) ≡ raised_words k (patterns count words)

pub raising_starts : (k count : ℕ) (words old : List ℕ) {out : List ℕ} → ends_right (read_patterns count words) ≡ true
    → OriginsRaisable k (patterns count words) → out ≡ written words old → Raising k count words old 0 count out
raising_starts k count words old ends fit e = record {
  done = [];
  ends = ends;
  fit = fit;
  size = omega arith;
  holds = e;
  all = refl;
}

module _ {k count : ℕ} {words old : List ℕ} {at left : ℕ} {out : List ℕ} (r : Raising k count words old at left out) where
  -- after the last pattern all words are written
  pub raising_done : left ≤ 0 → out ≡ written (raised_words k (patterns count words)) old
  raising_done none =
      let none_left : left ≡ 0 = omega arith in
      let empty = nothing (drop at words) (subst (λ (i : ℕ). ends_right (read_patterns i (drop at words)) ≡ true) none_left r.ends) in
      let is_whole : r.done ++ [] ≡ raised_words k (patterns count words) =
      ap (λ (ws : List ℕ). r.done ++ ws) (sym (no_words (drop at words) empty)) ∙ ap (λ (i : ℕ). r.done ++ raised_words k (patterns i (drop at words))) (sym none_left) ∙ r.all in
      r.holds ∙ ap (λ (ws : List ℕ). written (r.done ++ ws) old) empty ∙ ap (λ (ws : List ℕ). written ws old) is_whole
    where
      nothing : (ws : List ℕ) → ends_right (read_patterns 0 ws) ≡ true → ws ≡ []
      nothing [] e = refl
      nothing (w ∷ ws) e = absurd (passes (ends_right (read_patterns 0 (w ∷ ws))) e)

      no_words : (ws : List ℕ) → ws ≡ [] → raised_words k (patterns 0 ws) ≡ []
      no_words ws e = ap (λ (us : List ℕ). raised_words k (patterns 0 us)) e

  -- where a pattern is left
  module _ (more : 0 < left) where
    abbrev x : Pattern
    x = pattern_at words at

    abbrev later : List ℕ
    later = rest (read_pattern (drop at words))

    pub pattern_whole : is_whole (read_pattern (drop at words)) ≡ true
    pattern_whole = first-whole read_pattern left (drop at words) more (ends-whole (read_patterns left (drop at words)) r.ends)

    read_first : read_pattern (drop at words) ≡ read x later
    read_first = whole-read no_pattern (read_pattern (drop at words)) pattern_whole

    ends-later : ends_right (read_patterns (left - 1) later) ≡ true
    ends-later =
        sym (ended-ends (read_patterns (left - 1) later))
        ∙ ap ends_right (sym (ended-next read_pattern left (drop at words) more (ended (read_pattern (drop at words))) refl later (ap ended read_first)))
        ∙ ended-ends (read_patterns left (drop at words)) ∙ r.ends

    several : left ≡ suc (left - 1)
    several = omega arith

    -- its words after the first, which do not change
    abbrev tail : List ℕ
    tail = drop 1 (pattern_words_of x)

    words_here : drop at words ≡ x.orig_index ∷ (tail ++ later)
    words_here = (raised-words-step k (left - 1) (drop at words) later x read_first (passes _ ends-later)).0

    words-raised : raised_words k (patterns left (drop at words)) ≡ (k + x.orig_index) ∷ (tail ++ raised_words k (patterns (left - 1) later))
    words-raised =
        ap (λ (i : ℕ). raised_words k (patterns i (drop at words))) several
        ∙ (raised-words-step k (left - 1) (drop at words) later x read_first (passes _ ends-later)).1

    pub inside : at < length words
    inside = omega (arith, length-drop at words, ap length words_here)

    first_word : get_or words at 0 ≡ x.orig_index
    first_word = ap (λ (ws : List ℕ). get_or ws 0 0) (sym (drop-cons words at 0 inside) ∙ words_here)

    patterns_here : patterns left (drop at words) ≡ x ∷ patterns (left - 1) later
    patterns_here =
        ends-value [] (read_patterns left (drop at words)) r.ends
        ∙ patterns-first words at left more (ends-whole (read_patterns left (drop at words)) r.ends)
        ∙ ap (λ (ps : List Pattern). x ∷ ps) (sym (ends-value [] (read_patterns (left - 1) later) ends-later))

    fits : T (origin_raisable k x) × OriginsRaisable k (patterns (left - 1) later)
    fits = (and_iff (origin_raisable k x) (all (origin_raisable k) (patterns (left - 1) later))).0 (subst (OriginsRaisable k) patterns_here r.fit)

    pub raisable : k + get_or words at 0 < 4294967296
    raisable = subst (λ (o : ℕ). k + o < 4294967296) (sym first_word) (ltb→lt (k + x.orig_index) 4294967296 fits.0)

    here : at ≡ length r.done
    here = omega (arith, r.size, length-drop at words, inside)

    pub raising_more : (next : ℕ) → later ≡ drop next words → Raising k count words old next (left - 1) (set out at (k + get_or words at 0))
    raising_more next e =
        let v = k + x.orig_index in
        let new = r.done ++ (v ∷ tail) in record {
          done = new;
          ends = subst (λ (ws : List ℕ). ends_right (read_patterns (left - 1) ws) ≡ true) e ends-later;
          fit = subst (λ (ws : List ℕ). OriginsRaisable k (patterns (left - 1) ws)) e fits.1;
          size = omega (
            arith,
            r.size,
            length-append r.done (v ∷ tail),
            ap length words_here,
            length-append tail later,
            ap length e,
          );
          holds =
              ap₂ (λ (ws : List ℕ) (w : ℕ). set ws at w) r.holds (ap (λ (o : ℕ). k + o) first_word)
              ∙ ap₂ (λ (ws : List ℕ) (i : ℕ). set (written (r.done ++ ws) old) i v) words_here here
              ∙ word_replaced r.done x.orig_index v (tail ++ later) old
              ∙ ap (λ (ws : List ℕ). written ws old) (sym (append_assoc r.done (v ∷ tail) later) ∙ ap (λ (ws : List ℕ). new ++ ws) e);
          all =
              ap (λ (ws : List ℕ). new ++ raised_words k (patterns (left - 1) ws)) (sym e)
              ∙ append_assoc r.done (v ∷ tail) (raised_words k (patterns (left - 1) later))
              ∙ ap (λ (ws : List ℕ). r.done ++ ws) (sym words-raised) ∙ r.all;
        }
