-- Many right sides: the outputs of their joint cut compared with those of the cuts of single sides.
use Rattle.std.specs.Prelude.{ℕ, ◌<◌, ◌≡◌, ◌⊎◌, List, length, take, Float}
use Rattle.layout.specs.Problems.Problem.{Problem, compact}
use Rattle.layout.specs.Checks.{refusal}
use Rattle.layout.specs.Cuts.Compact.{compact_b}
use Rattle.layout.specs.Calls.Cut.{Augmented, Cut, front_on}
use Rattle.layout.specs.Calls.CutMany.{side, with_side, sides_b}
use Rattle.layout.specs.Written.BetweenWritten.{SameButB}

-- part k of the b that is written
abbrev run_written : ℕ → Problem → ℕ → Augmented → List Float
run_written count p k a = side (length (compact_b (with_side p p.b k))) k (take (length (sides_b p count p.b)) a.b)

-- Right side k is accepted by the compact route, and what a cut with side k alone writes is also in `after`, its b as part k.
pub record SideWritten (count : ℕ) (p : Problem) (after : Augmented) (k : ℕ) : Type 0 where
  pub accepted : refusal compact (with_side p p.b k) ≡ 0
  pub others : {lent own : Augmented} → Cut 1 (with_side p p.b k) lent own 0 → SameButB (with_side p p.b k) (with_side p p.b 0) own after
  pub run : {lent own : Augmented} → Cut 1 (with_side p p.b k) lent own 0
      → front_on compact (with_side p p.b k) 7 own.b ≡ run_written count p k after

-- r is the refusal number of the first right side that is refused, or 11 where every side is accepted.
abbrev pub FirstRefused : ℕ → Problem → ℕ → Type 0
FirstRefused count p r =
    ((k : ℕ) × (k < count) × (refusal compact (with_side p p.b k) ≡ r) × ((j : ℕ) → j < k → refusal compact (with_side p p.b j) ≡ 0))
    ⊎ ((r ≡ 11) × ((k : ℕ) → k < count → refusal compact (with_side p p.b k) ≡ 0))
