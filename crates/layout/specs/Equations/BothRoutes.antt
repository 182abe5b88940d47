-- Both routes state the same problem (document 02, Q-13): the standard equations in exact numbers, and the compact ones. Definitions only.
use Rattle.std.specs.Prelude.{ℕ, ◌+◌, ◌<◌, ◌≡◌, ◌↔◌, Bool, ◌&&◌, List, ◌++◌, length, get_or, replicate, T, ℤ, pos, ◌+ℤ◌, ◌*ℤ◌}
use Rattle.std.specs.Float.{nan}
use Rattle.layout.specs.General.Lists.{all, below, rises}
use Rattle.layout.specs.General.Floats.{finite, count, unit}
use Rattle.layout.specs.Problems.Problem.{Problem, standard, compact}
use Rattle.layout.specs.Rows.Blocks.{block_row_count, overlap_count}
use Rattle.layout.specs.Checks.{layout, refusal, column_rows}
use Rattle.layout.specs.Cuts.Standard.{standard_a, standard_b}
use Rattle.layout.specs.Equations.Equations.{at, columns_term, MeetsOriginal, MeetsAugmented, slack_sums, ExactlyOne}
use Rattle.layout.specs.Rows.Orders.{standard_order}

-- the standard equations: the A and b of the standard cut, with the added unknowns y after x, one for each column of H
abbrev pub MeetsStandard : Problem → ℕ → List ℤ → List ℤ → List ℤ → Type 0
MeetsStandard p d x y s =
    (r : ℕ) → r < p.m + block_row_count (layout p)
    → (columns_term count r (standard_a p) 0 x +ℤ columns_term unit r (standard_a p) p.n y) +ℤ at s r
    ≡ pos d *ℤ count (get_or (standard_b p) r nan)

-- the standard slacks of the compact slacks t: m zeros, then the same blocks in standard order
abbrev pub standard_slacks : Problem → List ℤ → List ℤ
standard_slacks p t = replicate p.m (pos 0) ++ standard_order (layout p) t

-- the standard equations of a problem without repeated entries, for slacks t in compact order, where the first m slacks are zero
pub record StandardSolutions (p : Problem) : Type 0 where
  -- the added unknowns are necessarily the blocks themselves
  pub forced : (d : ℕ) → 0 < d → (x t : List ℤ) → length x ≡ p.n → length t ≡ block_row_count (layout p)
      → (y : List ℤ) → length y ≡ block_row_count (layout p) → MeetsStandard p d x y (standard_slacks p t)
      → y ≡ standard_order (layout p) t
  -- exactly one choice of y meets them where x and the sums of t meet the original equations, and none does otherwise
  pub solved : (d : ℕ) → 0 < d → (x t : List ℤ) → length x ≡ p.n → length t ≡ block_row_count (layout p)
      → MeetsOriginal p d x (slack_sums p t)
      → ExactlyOne (block_row_count (layout p)) (λ y. MeetsStandard p d x y (standard_slacks p t))
  pub unsolved : (d : ℕ) → 0 < d → (x t : List ℤ) → length x ≡ p.n → length t ≡ block_row_count (layout p)
      → (MeetsOriginal p d x (slack_sums p t) → ⊥)
      → (y : List ℤ) → length y ≡ block_row_count (layout p) → MeetsStandard p d x y (standard_slacks p t) → ⊥

-- x and the slacks t, in compact order, meet the standard equations for exactly one choice of their added unknowns if and only
-- if they meet the compact ones for exactly one choice of theirs
abbrev pub OneProblem : Problem → Type 0
OneProblem p =
    (d : ℕ) → 0 < d → (x t : List ℤ) → length x ≡ p.n → length t ≡ block_row_count (layout p)
    → ExactlyOne (block_row_count (layout p)) (λ y. MeetsStandard p d x y (standard_slacks p t))
    ↔ ExactlyOne (overlap_count (layout p)) (λ y. MeetsAugmented p d x y t)

-- whether the row indices of each column of A strictly increase: no row is repeated
abbrev pub without_repeats : Problem → Bool
without_repeats p = all (λ c. rises (column_rows p.A c)) (below p.n)

-- A and b, as stored, are finite
abbrev pub StoredFinite : Problem → Type 0
StoredFinite p = T (all finite p.A.values && all finite p.b)

-- Q-13: what has to be proved of every problem
abbrev pub BothRoutes : Type 0
BothRoutes = (p : Problem) → refusal standard p ≡ 0 → refusal compact p ≡ 0 → T (without_repeats p) → StoredFinite p → OneProblem p
