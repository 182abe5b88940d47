-- Limits of a right side: the outputs of the cut with limits compared with those of the cuts of single right sides.
use Rattle.std.specs.Prelude.{◌≡◌, List, T, Float}
use Rattle.layout.specs.General.Floats.{Doubles}
use Rattle.layout.specs.Problems.Problem.{Problem, with_b, compact}
use Rattle.layout.specs.Checks.{refusal}
use Rattle.layout.specs.Cuts.Compact.{compact_b}
use Rattle.layout.specs.Calls.Cut.{Augmented, Cut, front_on}
use Rattle.layout.specs.Calls.CutBetween.{between, as_numbers, AugmentsTo, Limits}

-- Outputs `a` of a compact cut of p and `c` of one of p2 agree in everything but b.
pub record SameButB (p p2 : Problem) (a c : Augmented) : Type 0 where
  pub p_starts : front_on compact p 0 a.P.starts ≡ front_on compact p2 0 c.P.starts
  pub p_rows : front_on compact p 1 a.P.rows ≡ front_on compact p2 1 c.P.rows
  pub p_values : front_on compact p 2 a.P.values ≡ front_on compact p2 2 c.P.values
  pub q : front_on compact p 3 a.q ≡ front_on compact p2 3 c.q
  pub a_starts : front_on compact p 4 a.A.starts ≡ front_on compact p2 4 c.A.starts
  pub a_rows : front_on compact p 5 a.A.rows ≡ front_on compact p2 5 c.A.rows
  pub a_values : front_on compact p 6 a.A.values ≡ front_on compact p2 6 c.A.values
  pub cones : front_on compact p 8 a.cones ≡ front_on compact p2 8 c.cones
  pub alphas : front_on compact p 9 a.alphas ≡ front_on compact p2 9 c.alphas
  pub map : front_on compact p 10 a.map ≡ front_on compact p2 10 c.map

-- the two augmented right sides that are written, of low and of high
abbrev pub low_written : Problem → List Float → Limits → List Float
low_written p low a = front_on compact (with_b p low) 7 a.cut.b

abbrev pub high_written : Problem → List Float → Limits → List Float
high_written p high a = front_on compact (with_b p high) 7 a.high

pub record BetweenWritten (p : Problem) (low high : List Float) (after : Limits) : Type 0 where
  -- every b between low and high is accepted by the compact route
  pub accepted : (b : List Float) → T (between low b high) → refusal compact (with_b p b) ≡ 0
  -- the b that a cut with this b alone writes is between the two written here
  pub carried : (b : List Float) → T (between low b high) → {lent own : Augmented} → Cut 1 (with_b p b) lent own 0
      → T (between (low_written p low after) (front_on compact (with_b p b) 7 own.b) (high_written p high after))
  -- everything else that it writes is also written here
  pub others : (b : List Float) → T (between low b high) → {lent own : Augmented} → Cut 1 (with_b p b) lent own 0
      → SameButB (with_b p b) (with_b p low) own after.cut
  -- every vector between the two is, as numbers, the augmentation of exactly one b between low and high, of doubles if the vector is
  pub reached : (v : List Float) → T (between (low_written p low after) v (high_written p high after))
      → (b : List Float) × AugmentsTo p low high v b × ((c : List Float) → AugmentsTo p low high v c → T (as_numbers c b)) × (Doubles v → Doubles b)
  -- the augmentation of a b is what a cut with this b writes
  pub written : (b : List Float) → {lent own : Augmented} → Cut 1 (with_b p b) lent own 0 → front_on compact (with_b p b) 7 own.b ≡ compact_b (with_b p b)
