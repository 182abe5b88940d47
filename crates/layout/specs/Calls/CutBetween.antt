-- The cut with limits for b (document 02, Q-8): lists low and high of m values in one compact cut. Its refusal number, its results and its
-- contract.
use Rattle.std.specs.Prelude.{ℕ, Bool, cond, ◌&&◌, List, [], ◌∷◌, ◌++◌, ◌≡◌, length, take, drop, T, Float}
use Rattle.std.specs.Float.Ieee.{le, eq}
use Rattle.layout.specs.General.Lists.{same_by}
use Rattle.layout.specs.General.Floats.{Doubles}
use Rattle.layout.specs.Problems.Problem.{Problem, with_b, compact}
use Rattle.layout.specs.Checks.{Check, check, first_failing, layout, table_checks, check4, pattern_checks, check9, check10, refusal}
use Rattle.layout.specs.Cuts.Compact.{compact_b}
use Rattle.layout.specs.Calls.Answers.{or_else, roomy, output}
use Rattle.layout.specs.Calls.Cut.{augmented, augmented_with_b, sizes, Augmented, lengths, Holds}

-- whether the lists have equal length and xs is at most ys at every index; NaN is neither at most nor at least any value
abbrev pub at_most : List Float → List Float → Bool
at_most xs ys = same_by le xs ys

-- whether each value of b is between its low and its high
abbrev pub between : List Float → List Float → List Float → Bool
between low b high = at_most low b && at_most b high

-- whether the lists have equal length and equal numbers at every index: +0.0 and -0.0 are equal, and NaN equals nothing
abbrev pub as_numbers : List Float → List Float → Bool
as_numbers xs ys = same_by eq xs ys

-- ---- the refusals

-- checks 1 to 10, with 4 and 9 made for low and for high, and 16 after 4: no low is above its high, and none of them is NaN
abbrev pub limits_checks : Problem → List Float → List Float → List Check
limits_checks p low high =
    table_checks p
    ++ (check 4 (check4 (with_b p low) && check4 (with_b p high)) ∷ check 16 (at_most low high)
    ∷ (pattern_checks p
    ++ (check 9 (check9 compact (with_b p low) && check9 compact (with_b p high)) ∷ check 10 (check10 compact p.m (layout p)) ∷ [])))

abbrev pub limits_failing : Problem → List Float → List Float → ℕ
limits_failing p low high = first_failing (limits_checks p low high)

-- ---- the results: those of the cut with low, and the augmented high after the augmented low

abbrev pub limits_sizes : Problem → List Float → List Float → List ℕ
limits_sizes p low high =
    let ks = sizes compact (with_b p low) in
    take 8 ks ++ (length (compact_b (with_b p high)) ∷ drop 8 ks)

-- the call's refusal number; `rooms` has the length of each of the twelve outputs
abbrev pub limits_refusal : Problem → List Float → List Float → List ℕ → ℕ
limits_refusal p low high rooms = or_else (limits_failing p low high) (cond (roomy (limits_sizes p low high) rooms) 0 11)

-- ---- what holds for the call's results, where limits_failing is 0

-- b is between the limits, and its augmentation equals v as numbers
abbrev pub AugmentsTo : Problem → List Float → List Float → List Float → List Float → Type 0
AugmentsTo p low high v b = T (between low b high) × T (as_numbers (compact_b (with_b p b)) v)

pub record CarriesLimits (p : Problem) (low high : List Float) : Type 0 where
  -- low and high are themselves between the limits
  pub ends : T (between low low high) × T (between low high high)
  -- every b between the limits is accepted by the compact route
  pub accepted : (b : List Float) → T (between low b high) → refusal compact (with_b p b) ≡ 0
  -- its augmentation is between those of low and high
  pub carried : (b : List Float) → T (between low b high)
      → T (between (compact_b (with_b p low)) (compact_b (with_b p b)) (compact_b (with_b p high)))
  -- everything but b is the same as in the cut with low
  pub others : (b : List Float) → T (between low b high)
      → augmented compact (with_b p b) ≡ augmented_with_b (augmented compact (with_b p low)) (compact_b (with_b p b))
  -- every vector between the results is, as numbers, the augmentation of exactly one b between the limits, of doubles if the vector is
  pub reached : (v : List Float) → T (between (compact_b (with_b p low)) v (compact_b (with_b p high)))
      → (b : List Float) × AugmentsTo p low high v b × ((c : List Float) → AugmentsTo p low high v c → T (as_numbers c b)) × (Doubles v → Doubles b)

-- ---- the contract

-- the outputs of the cut with low for b, and the output for the augmented high
pub record Limits : Type 0 where
  pub cut : Augmented
  pub high : List Float

abbrev pub limits : Augmented → List Float → Limits
limits cut high = record { cut = cut; high = high }

-- the length of each output, that of high after that of low
abbrev pub limits_rooms : Limits → List ℕ
limits_rooms a = let ks = lengths a.cut in take 8 ks ++ (length a.high ∷ drop 8 ks)

pub record CutBetween (p : Problem) (low high : List Float) (before after : Limits) (r : ℕ) : Type 0 where
  pub number : r ≡ limits_refusal p low high (limits_rooms before)
  pub tables : Holds r (augmented compact (with_b p low)) before.cut after.cut
  pub b_high : after.high ≡ output r (compact_b (with_b p high)) before.high
