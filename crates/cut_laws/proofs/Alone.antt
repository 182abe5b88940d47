-- Demand 3 on the written outputs where no column of A repeats a row: equations and premise then use A as stored.
use Prim.Native.Nat.{ℕ, ◌<◌}
use mathlib.Core.Path.{◌≡◌, sym, subst}
use mathlib.Core.Logic.{◌↔◌}
use mathlib.Core.Bool.{◌&&◌}
use lib.IntN.{ℤ, ◌+ℤ◌, ◌*ℤ◌}
use lib.Dec.{T}
use Rattle.layout.specs.General.Lists.{all, below, rises}
use Rattle.layout.specs.General.Floats.{finite}
use Rattle.layout.specs.Problems.Problem.{Problem, Csc, compact}
use Rattle.layout.specs.Checks.{column_rows}
use Rattle.layout.specs.Cuts.Compact.{summed_a}
use Rattle.layout.specs.Calls.Cut.{Augmented, lengths, Cut}
use Rattle.layout.proofs.Columns.Repeats.{A-alone}
use Rattle.layout.proofs.Promises.{taken}
use Rattle.cut_laws.specs.Equations.{written_a, written_b, SameSolutionsAs}
use Rattle.cut_laws.proofs.Demand3.{demand3_written}

module _ (p : Problem) (before after : Augmented) (cut : Cut 1 p before after 0) (alone : T (all (λ c. rises (column_rows p.A c)) (below p.n))) where
  -- A with repeats added is A itself
  same : summed_a p ≡ p.A
  same = A-alone p compact (taken 1 p (lengths before) (sym cut.number)).1.0 alone

  pub demand3_alone : T (all finite p.A.values && all finite p.b) → SameSolutionsAs p (written_a compact p after) (written_b compact p after)
  demand3_alone h =
      demand3_written p before after cut (subst (λ (M : Csc). T (all finite M.values && all finite p.b)) (sym same) h)
