-- Checks 5, 6 and 7 of all patterns from those of the patterns left, where the patterns before them pass.
use Prim.Native.Nat.{ℕ, ◌-◌}
use native.Mathlib.Omega.{arith}
use mathlib.Core.Path.{◌≡◌, sym, ap, ◌∙◌}
use mathlib.Core.Bool.{true, ◌&&◌}
use mathlib.Core.List.{List}
use lib.ListN.{length, take, drop, length-drop}
use lib.Seq.{take_all}
use Rattle.layout.specs.General.Lists.{all}
use Rattle.layout.specs.Problems.Patterns.{read_patterns, ends_right, patterns}
use Rattle.layout.specs.Checks.{patterns_read, tree_right, cliques_right}
use Rattle.layout.proofs.Lists.Tests.{and_iff, passed, passes}
use Rattle.sparsity_pattern.specs.Sparsity.{patterns_read_from}
use Rattle.check_patterns.specs.Accepted.{PassedBefore}
use Rattle.check_patterns.proofs.Patterns.{passed_together}
use Rattle.check_problem.specs.Order.{patterns_refusal, patterns_refusal_from}

pub read-ends : (cones : List ℕ) (least count : ℕ) (words : List ℕ) → patterns_read_from cones least count words ≡ true
    → ends_right (read_patterns count words) ≡ true
read-ends cones least count words e = passed _ (simp and_iff at (passes _ e)).0.0.0

module _ (cones : List ℕ) (count : ℕ) (words : List ℕ) (next least left : ℕ) (before : PassedBefore cones count words next least left) where
  -- the slice from `next` to the end
  abbrev later : List ℕ
  later = take (length words - next) (drop next words)

  to_end : drop next words ≡ later
  to_end = sym (take_all (length words - next) (drop next words) (omega (arith, length-drop next words)))

  pub left_together : (patterns_read cones count words && all tree_right (patterns count words) && all cliques_right (patterns count words))
      ≡ (patterns_read_from cones least left later && all tree_right (patterns left later) && all cliques_right (patterns left later))
  left_together =
      passed_together before
      ∙ ap (λ (ws : List ℕ). patterns_read_from cones least left ws && all tree_right (patterns left ws) && all cliques_right (patterns left ws)) to_end

  first-number : patterns_refusal cones count words ≡ patterns_refusal_from cones least left (drop next words)
  first-number = rw (before.five, before.six, before.seven)

  pub left-refused : patterns_refusal cones count words ≡ patterns_refusal_from cones least left later
  left-refused = first-number ∙ ap (patterns_refusal_from cones least left) to_end
