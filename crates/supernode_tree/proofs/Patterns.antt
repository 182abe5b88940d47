-- The walk over k patterns from an offset on.
use Prim.Native.Nat.{ℕ, ◌-◌, ◌≤◌, ◌<◌}
use native.Mathlib.Omega.{arith}
use mathlib.Core.Bool.{Bool, true, false, ◌&&◌}
use mathlib.Core.Path.{◌≡◌, sym, ap, ◌∙◌}
use mathlib.Core.List.{List, [], ◌∷◌}
use lib.ListN.{drop}
use Rattle.layout.specs.General.Lists.{all}
use Rattle.layout.specs.Problems.Patterns.{Pattern, read, no_pattern, read_pattern, read_patterns, ends_right, patterns}
use Rattle.layout.proofs.Lists.Tests.{and_cases}
use Rattle.supernode_tree.specs.Reads.{is_whole, rest, value_or, pattern_at}
use Rattle.supernode_tree.proofs.Many.{whole-read, ends-whole, ends-value, first-whole, many-whole, many-value}

abbrev pub patterns_from : List ℕ → ℕ → ℕ → List Pattern
patterns_from ws at k = value_or [] (read_patterns k (drop at ws))

-- k complete patterns start at the offset
abbrev pub WholePatterns : List ℕ → ℕ → ℕ → Type 0
WholePatterns ws at k = is_whole (read_patterns k (drop at ws)) ≡ true

pub patterns-whole : (ws : List ℕ) (k : ℕ) → ends_right (read_patterns k ws) ≡ true → WholePatterns ws 0 k
patterns-whole ws k h = ends-whole (read_patterns k ws) h

pub patterns_start : (ws : List ℕ) (k : ℕ) → ends_right (read_patterns k ws) ≡ true → patterns k ws ≡ patterns_from ws 0 k
patterns_start ws k h = ends-value [] (read_patterns k ws) h

pub patterns-none : (ws : List ℕ) (at k : ℕ) → k ≤ 0 → patterns_from ws at k ≡ []
patterns-none ws at k h = let e : k ≡ 0 = omega arith in ap (patterns_from ws at) e

module _ (ws : List ℕ) (at k : ℕ) (more : 0 < k) (w : WholePatterns ws at k) where
  pub pattern_first : is_whole (read_pattern (drop at ws)) ≡ true
  pattern_first = first-whole read_pattern k (drop at ws) more w

  read_first : read_pattern (drop at ws) ≡ read (pattern_at ws at) (rest (read_pattern (drop at ws)))
  read_first = whole-read no_pattern (read_pattern (drop at ws)) pattern_first

  -- the patterns after the first
  abbrev later_patterns : List Pattern
  later_patterns = value_or [] (read_patterns (k - 1) (rest (read_pattern (drop at ws))))

  pub patterns-first : patterns_from ws at k ≡ pattern_at ws at ∷ later_patterns
  patterns-first = many-value read_pattern k (drop at ws) more (pattern_at ws at) (rest (read_pattern (drop at ws))) read_first w

  module _ (next : ℕ) (e : rest (read_pattern (drop at ws)) ≡ drop next ws) where
    pub whole-later : WholePatterns ws next (k - 1)
    whole-later =
        ap (λ (l : List ℕ). is_whole (read_patterns (k - 1) l)) (sym e)
        ∙ sym (many-whole read_pattern k (drop at ws) more (pattern_at ws at) (rest (read_pattern (drop at ws))) read_first) ∙ w

    pub patterns-next : patterns_from ws at k ≡ pattern_at ws at ∷ patterns_from ws next (k - 1)
    patterns-next = patterns-first ∙ ap (λ (l : List ℕ). pattern_at ws at ∷ value_or [] (read_patterns (k - 1) l)) e

  -- a test f of all patterns, where r is the result for the first
  module _ (f : Pattern → Bool) (x r : Bool) (so : x ≡ all f (patterns_from ws at k)) (e : r ≡ f (pattern_at ws at)) where
    cases : (r ≡ false → x ≡ false) × (r ≡ true → x ≡ all f later_patterns)
    cases = and_cases r (all f later_patterns) x (so ∙ ap (all f) patterns-first ∙ ap (λ (b : Bool). b && all f later_patterns) (sym e))

    pub all_stops : r ≡ false → x ≡ false
    all_stops = cases.0

    -- the first is the last
    pub all_last : k ≡ 1 → r ≡ true → x ≡ true
    all_last one y = cases.1 y ∙ ap (λ (i : ℕ). all f (value_or [] (read_patterns (i - 1) (rest (read_pattern (drop at ws)))))) one

    pub all_goes : (next : ℕ) → rest (read_pattern (drop at ws)) ≡ drop next ws → r ≡ true → x ≡ all f (patterns_from ws next (k - 1))
    all_goes next q y = cases.1 y ∙ ap (λ (l : List ℕ). all f (value_or [] (read_patterns (k - 1) l))) q
