-- The walk over k cliques from an offset on.
use Prim.Native.Nat.{ℕ, ◌+◌, ◌-◌, ◌≤◌, ◌<◌}
use native.Mathlib.Omega.{arith}
use mathlib.Core.Bool.{Bool, true, false, ◌&&◌}
use mathlib.Core.Path.{◌≡◌, refl, sym, ap, subst, ◌∙◌}
use mathlib.Core.List.{List, [], ◌∷◌}
use lib.ListN.{length, take, drop}
use Rattle.layout.specs.Problems.Patterns.{Read, read, short, and_then, Head, read_head, with_cliques, read_clique, read_cliques, read_pattern, Clique, Pattern, no_pattern, members, block_size}
use Rattle.layout.specs.General.Lists.{all}
use Rattle.layout.specs.Checks.{tree_right}
use lib.Dec.{T}
use Rattle.supernode_tree.specs.Reads.{is_whole, Whole, rest, ended, cliques_from, value_or, clique_of, clique_read, CliqueInside, pattern_at}
use Rattle.supernode_tree.specs.declared.Clique.{Clique as CliqueAt}
use Rattle.std.specs.Prelude.{Option, Some}
use Rattle.supernode_tree.proofs.Words.{clique-found, part-part, length_part}
use Rattle.supernode_tree.proofs.Many.{many-whole, many-rest, many-value, first-whole as some-whole}
use Rattle.layout.proofs.Lists.Tests.{differ, and_cases}

module _ (ws : List ℕ) (at k : ℕ) (r : Option CliqueAt) (e : clique_read ws r ≡ read_clique (drop at ws)) (more : 0 < k) where
  pub whole-next : (q : CliqueAt) → r ≡ Some q → is_whole (read_cliques k (drop at ws)) ≡ is_whole (read_cliques (k - 1) (drop q.next ws))
  whole-next q f = many-whole read_clique k (drop at ws) more (clique_of ws q) (drop q.next ws) (clique-found ws at r q e f)

  pub rest-next : (q : CliqueAt) → r ≡ Some q → rest (read_cliques k (drop at ws)) ≡ rest (read_cliques (k - 1) (drop q.next ws))
  rest-next q f = many-rest read_clique k (drop at ws) more (clique_of ws q) (drop q.next ws) (clique-found ws at r q e f)

  pub from_next : (q : CliqueAt) → r ≡ Some q → Whole ws at k → cliques_from ws at k ≡ clique_of ws q ∷ cliques_from ws q.next (k - 1)
  from_next q f h = many-value read_clique k (drop at ws) more (clique_of ws q) (drop q.next ws) (clique-found ws at r q e f) h

  -- a test f of all cliques, where b is the result for the first
  module _ (q : CliqueAt) (found : r ≡ Some q) (w : Whole ws at k) (f : Clique → Bool) (x b : Bool) (so : x ≡ all f (cliques_from ws at k)) (same : b ≡ f (clique_of ws q)) where
    cases : (b ≡ false → x ≡ false) × (b ≡ true → x ≡ all f (cliques_from ws q.next (k - 1)))
    cases =
        and_cases b (all f (cliques_from ws q.next (k - 1))) x
        (so ∙ ap (all f) (from_next q found w) ∙ ap (λ (c : Bool). c && all f (cliques_from ws q.next (k - 1))) (sym same))

    pub clique_stops : b ≡ false → x ≡ false
    clique_stops = cases.0

    pub clique_goes : b ≡ true → x ≡ all f (cliques_from ws q.next (k - 1))
    clique_goes = cases.1

-- the first of k complete cliques is complete
pub first-whole : (ws : List ℕ) (at k : ℕ) → 0 < k → Whole ws at k → is_whole (read_clique (drop at ws)) ≡ true
first-whole ws at k more w = some-whole read_clique k (drop at ws) more w

-- no cliques are left
pub from-none : (ws : List ℕ) (at k : ℕ) → k ≤ 0 → cliques_from ws at k ≡ []
from-none ws at k h = let e : k ≡ 0 = omega arith in ap (λ (n : ℕ). cliques_from ws at n) e

-- members start before they end
pub starts_before : {a n : ℕ} (b : ℕ) → n ≡ a + b → a ≤ n
starts_before b e = omega arith

-- the snode, separator and members of a clique that is read, as parts of the words between offsets
module _ (ws : List ℕ) (at : ℕ) (q : CliqueAt) (in_words_lem : CliqueInside (length ws) at (Some q)) where
  pub snode-part : take (q.separator - q.snode) (drop q.snode ws) ≡ (clique_of ws q).snode
  snode-part = let e : q.separator - q.snode ≡ q.snode_count = omega arith in ap (λ (n : ℕ). take n (drop q.snode ws)) e

  pub separator-part : take (q.next - q.separator) (drop q.separator ws) ≡ (clique_of ws q).separator
  separator-part = let e : q.next - q.separator ≡ q.separator_count = omega arith in ap (λ (n : ℕ). take n (drop q.separator ws)) e

  pub members-part : take (q.next - q.snode) (drop q.snode ws) ≡ members (clique_of ws q)
  members-part = sym (part-part ws q.snode q.separator q.next (omega arith) (omega arith)) ∙ rw (snode-part, separator-part)

  pub snode-size : length (clique_of ws q).snode ≡ q.snode_count
  snode-size = length_part q.snode q.snode_count ws (omega arith)

  pub separator-size : length (clique_of ws q).separator ≡ q.separator_count
  separator-size = length_part q.separator q.separator_count ws (omega arith)

  pub block_size_lem : block_size (clique_of ws q) ≡ q.snode_count + q.separator_count
  block_size_lem = omega (arith, snode-size, separator-size)

-- ---- the pattern at an offset, from its head and its cliques

module _ (ws : List ℕ) (at : ℕ) where
  no_head : read_head (drop at ws) ≡ short → pattern_at ws at ≡ no_pattern
  no_head e = rw e

  -- a pattern that passes check 6 has a complete head
  pub right-head : T (tree_right (pattern_at ws at)) → is_whole (read_head (drop at ws)) ≡ true
  right-head t = go (read_head (drop at ws)) refl
    where
      go : (r : Read Head) → read_head (drop at ws) ≡ r → is_whole r ≡ true
      go (read h left) e = refl
      go short e = absurd (subst (λ (p : Pattern). T (tree_right p)) (no_head e) t)

  module _ (h : Head) (first : ℕ) (e : read_head (drop at ws) ≡ read h (drop first ws)) where
    pub no_cliques : is_whole (read_cliques h.clique_count (drop first ws)) ≡ false → pattern_at ws at ≡ no_pattern
    no_cliques w = rw e (go (read_cliques h.clique_count (drop first ws)) w)
      where
        go : (r : Read (List Clique)) → is_whole r ≡ false → value_or no_pattern (and_then r (λ cs left. read (with_cliques h cs) left)) ≡ no_pattern
        go (read cs left) w = absurd (differ true refl w)
        go short w = refl

    pub pattern_whole : Whole ws first h.clique_count → pattern_at ws at ≡ with_cliques h (cliques_from ws first h.clique_count)
    pattern_whole w = rw e (go (read_cliques h.clique_count (drop first ws)) w)
      where
        go : (r : Read (List Clique)) → is_whole r ≡ true → value_or no_pattern (and_then r (λ cs left. read (with_cliques h cs) left)) ≡ with_cliques h (value_or [] r)
        go (read cs left) w = refl
        go short w = absurd (differ false w refl)

    -- a pattern that passes check 6 has complete cliques
    pub right-whole : T (tree_right (pattern_at ws at)) → Whole ws first h.clique_count
    right-whole t = go (is_whole (read_cliques h.clique_count (drop first ws))) refl
      where
        go : (b : Bool) → is_whole (read_cliques h.clique_count (drop first ws)) ≡ b → b ≡ true
        go true q = refl
        go false q = absurd (subst (λ (p : Pattern). T (tree_right p)) (no_cliques q) t)

-- the head of a complete pattern is complete
pub head_of_whole : (ws : List ℕ) → is_whole (read_pattern ws) ≡ true → is_whole (read_head ws) ≡ true
head_of_whole ws w = go (read_head ws) w
  where
    go : (r : Read Head) → is_whole (and_then r (λ h left. and_then (read_cliques h.clique_count left) (λ cs end. read (with_cliques h cs) end))) ≡ true → is_whole r ≡ true
    go (read h left) w = refl
    go short w = w

pub rest-none : (ws : List ℕ) (at k : ℕ) → k ≤ 0 → rest (read_cliques k (drop at ws)) ≡ drop at ws
rest-none ws at k h = let e : k ≡ 0 = omega arith in ap (λ (n : ℕ). rest (read_cliques n (drop at ws))) e

-- a pattern is complete where its head and its cliques are
module _ (ws : List ℕ) (h : Head) (left : List ℕ) (e : read_head ws ≡ read h left) where
  pub cliques_of_whole : is_whole (read_pattern ws) ≡ true → is_whole (read_cliques h.clique_count left) ≡ true
  cliques_of_whole w = go (read_cliques h.clique_count left) (rw e at w)
    where
      go : (r : Read (List Clique)) → is_whole (and_then r (λ cs end. read (with_cliques h cs) end)) ≡ true → is_whole r ≡ true
      go (read cs end) w = refl
      go short w = w

  pub ended-by-cliques : ended (read_pattern ws) ≡ ended (read_cliques h.clique_count left)
  ended-by-cliques = rw e (go (read_cliques h.clique_count left))
    where
      go : (r : Read (List Clique)) → ended (and_then r (λ cs end. read (with_cliques h cs) end)) ≡ ended r
      go (read cs end) = refl
      go short = refl

  pub rest_of_cliques : rest (read_pattern ws) ≡ rest (read_cliques h.clique_count left)
  rest_of_cliques = rw e (go (read_cliques h.clique_count left))
    where
      go : (r : Read (List Clique)) → rest (and_then r (λ cs end. read (with_cliques h cs) end)) ≡ rest r
      go (read cs end) = refl
      go short = refl

pub no_pattern_lem : (ws : List ℕ) → read_head ws ≡ short → read_pattern ws ≡ short
no_pattern_lem ws e = rw e

-- a complete pattern is its head with its cliques
pub pattern_head : (ws : List ℕ) (at : ℕ) (h : Head) (first : ℕ) → read_head (drop at ws) ≡ read h (drop first ws)
    → is_whole (read_pattern (drop at ws)) ≡ true → pattern_at ws at ≡ with_cliques h (cliques_from ws first h.clique_count)
pattern_head ws at h first e w = pattern_whole ws at h first e (cliques_of_whole (drop at ws) h (drop first ws) e w)
