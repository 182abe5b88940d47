-- The cut with many right sides (document 02, Q-1): 1 to 64 lists of m values for b, one after another, in one compact cut. Its refusal
-- number, its results and its contract.
use Rattle.std.specs.Prelude.{ℕ, ◌-◌, ◌*◌, cond, ◌&&◌, List, ◌∷◌, ◌++◌, ◌≡◌, length, take, drop, leb, eqb, Float}
use Rattle.layout.specs.General.Lists.{below, up_from, join}
use Rattle.layout.specs.Problems.Problem.{Problem, with_b, compact}
use Rattle.layout.specs.Checks.{Check, check, first_failing, table_checks, check4, pattern_checks, route_checks, checks, refusal}
use Rattle.layout.specs.Cuts.Compact.{compact_b}
use Rattle.layout.specs.Calls.Answers.{or_else, roomy}
use Rattle.layout.specs.Calls.Cut.{Augmented, augmented, augmented_with_b, lengths, Holds}

-- right side k, of m values
abbrev pub side : ℕ → ℕ → List Float → List Float
side m k sides = take m (drop (k * m) sides)

-- the problem with right side k as its b
abbrev pub with_side : Problem → List Float → ℕ → Problem
with_side p sides k = with_b p (side p.m k sides)

-- ---- the refusals

-- 1 to 64 right sides, then checks 1 to 10 with the first, where check 4 also asks for m values of each side
abbrev pub first_side_checks : Problem → ℕ → List Float → List Check
first_side_checks p count sides =
    let first = with_side p sides 0 in
    check 1 (leb 1 count && leb count 64)
    ∷ (table_checks first
    ++ (check 4 (eqb (length sides) (count * p.m) && check4 first) ∷ (pattern_checks first ++ route_checks compact first)))

-- then checks 1 to 10 with each further right side
abbrev pub sides_checks : Problem → ℕ → List Float → List Check
sides_checks p count sides = first_side_checks p count sides ++ join (λ k. checks compact (with_side p sides k)) (up_from 1 (count - 1))

abbrev pub sides_failing : Problem → ℕ → List Float → ℕ
sides_failing p count sides = first_failing (sides_checks p count sides)

-- ---- the results

-- each augmented right side in turn
abbrev pub sides_b : Problem → ℕ → List Float → List Float
sides_b p count sides = join (λ k. compact_b (with_side p sides k)) (below count)

-- everything but b once, and b for every side
abbrev pub augmented_sides : Problem → ℕ → List Float → Augmented
augmented_sides p count sides = augmented_with_b (augmented compact (with_side p sides 0)) (sides_b p count sides)

-- the call's refusal number; `rooms` has the length of each output
abbrev pub sides_refusal : Problem → ℕ → List Float → List ℕ → ℕ
sides_refusal p count sides rooms =
    or_else (sides_failing p count sides) (cond (roomy (lengths (augmented_sides p count sides)) rooms) 0 11)

-- Right side k is accepted by the compact route, and the call's results, with part k of b, are those of the cut with side k alone.
pub record OneByOne (p : Problem) (count : ℕ) (sides : List Float) (k : ℕ) : Type 0 where
  pub accepted : refusal compact (with_side p sides k) ≡ 0
  pub given : augmented_with_b (augmented_sides p count sides) (side (length (compact_b (with_side p sides k))) k (sides_b p count sides))
      ≡ augmented compact (with_side p sides k)

-- ---- the contract

pub record CutMany (count : ℕ) (p : Problem) (before after : Augmented) (r : ℕ) : Type 0 where
  pub number : r ≡ sides_refusal p count p.b (lengths before)
  pub tables : Holds r (augmented_sides p count p.b) before after
