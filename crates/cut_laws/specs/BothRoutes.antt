-- Q-13, that both routes mean one problem, stated on what a standard cut and a compact cut write to the fronts of their outputs.
use Rattle.std.specs.Prelude.{ℕ, ◌<◌, ◌≡◌, ◌↔◌, List, length, ℤ, Float}
use Rattle.layout.specs.Problems.Problem.{Problem, Csc}
use Rattle.layout.specs.Rows.Blocks.{block_row_count, overlap_count}
use Rattle.layout.specs.Checks.{layout}
use Rattle.layout.specs.Equations.Equations.{ExactlyOne}
use Rattle.layout.specs.Equations.BothRoutes.{standard_slacks}
use Rattle.cut_laws.specs.Equations.{Meets}

-- for the written standard A₀, b₀ and compact A₁, b₁: x and slacks t, one for each compact row, meet the standard equations with the
-- first m slacks zero for exactly one choice of added unknowns if and only if they meet the compact ones for exactly one choice
abbrev pub OneProblemAs : Problem → Csc → List Float → Csc → List Float → Type 0
OneProblemAs p A₀ b₀ A₁ b₁ =
    (d : ℕ) → 0 < d → (x t : List ℤ) → length x ≡ p.n → length t ≡ length b₁
    → ExactlyOne (block_row_count (layout p)) (λ y. Meets A₀ b₀ p d x y (standard_slacks p t))
    ↔ ExactlyOne (overlap_count (layout p)) (λ y. Meets A₁ b₁ p d x y t)
