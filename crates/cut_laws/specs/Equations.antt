-- What a cut writes to the fronts of its outputs, read as equations, and demand 3 stated on it.
use Rattle.std.specs.Prelude.{ℕ, ◌<◌, ◌≡◌, List, length, get_or, ℤ, pos, ◌+ℤ◌, ◌*ℤ◌, Float}
use Rattle.std.specs.Float.{nan}
use Rattle.layout.specs.General.Floats.{count, unit}
use Rattle.layout.specs.Problems.Problem.{Problem, Csc, Route}
use Rattle.layout.specs.Rows.Blocks.{overlap_count}
use Rattle.layout.specs.Checks.{layout}
use Rattle.layout.specs.Equations.Equations.{at, columns_term, MeetsOriginal, slack_sums, ExactlyOne}
use Rattle.layout.specs.Calls.Cut.{Augmented, front_on}

-- the written A and b: outputs 4, 5 and 6 are the starts, rows and values of A, and 7 is b
abbrev pub written_a : Route → Problem → Augmented → Csc
written_a route p out = record {
  starts = front_on route p 4 out.A.starts;
  rows = front_on route p 5 out.A.rows;
  values = front_on route p 6 out.A.values;
}

abbrev pub written_b : Route → Problem → Augmented → List Float
written_b route p out = front_on route p 7 out.b

-- whether x, added unknowns y and slacks s, over denominator d, meet the equations of A and b: columns before n times x, the others times y
abbrev pub Meets : Csc → List Float → Problem → ℕ → List ℤ → List ℤ → List ℤ → Type 0
Meets A b p d x y s =
    (r : ℕ) → r < length b
    → (columns_term count r A 0 x +ℤ columns_term unit r A p.n y) +ℤ at s r ≡ pos d *ℤ count (get_or b r nan)

-- demand 3 for the written A and b, with one slack for each row of b and one added unknown for each overlap
pub record SameSolutionsAs (p : Problem) (A : Csc) (b : List Float) : Type 0 where
  pub solved : (d : ℕ) → 0 < d → (x s : List ℤ) → length x ≡ p.n → length s ≡ length b
      → MeetsOriginal p d x (slack_sums p s)
      → ExactlyOne (overlap_count (layout p)) (λ y. Meets A b p d x y s)
  pub unsolved : (d : ℕ) → 0 < d → (x s : List ℤ) → length x ≡ p.n → length s ≡ length b
      → (MeetsOriginal p d x (slack_sums p s) → ⊥)
      → (y : List ℤ) → length y ≡ overlap_count (layout p) → Meets A b p d x y s → ⊥
  pub reached : (d : ℕ) → 0 < d → (x s : List ℤ) → length x ≡ p.n → length s ≡ p.m
      → MeetsOriginal p d x s
      → (t : List ℤ) × (length t ≡ length b) × (slack_sums p t ≡ s)
