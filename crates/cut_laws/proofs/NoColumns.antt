-- Demand 3 on the written outputs where the original problem has no columns: x is empty, only slacks and added unknowns take part.
use Prim.Native.Nat.{ℕ, ◌<◌}
use mathlib.Core.Path.{◌≡◌, sym}
use mathlib.Core.List.{List, []}
use lib.ListN.{length}
use lib.IntN.{ℤ}
use Rattle.layout.specs.Problems.Problem.{Problem, compact}
use Rattle.layout.specs.Rows.Blocks.{overlap_count}
use Rattle.layout.specs.Checks.{layout}
use Rattle.layout.specs.Equations.Equations.{MeetsOriginal, slack_sums, ExactlyOne, AllFinite}
use Rattle.layout.specs.Calls.Cut.{Augmented, Cut}
use Rattle.cut_laws.specs.Equations.{written_a, written_b, Meets}
use Rattle.cut_laws.proofs.Demand3.{demand3_written}

module _ (p : Problem) (before after : Augmented) (cut : Cut 1 p before after 0) (finite : AllFinite p) (none : p.n ≡ 0) (d : ℕ) (z : 0 < d) where
  -- slacks whose sums meet the original equations have exactly one choice of the added unknowns; other slacks have none
  pub empty_solved : (s : List ℤ) → length s ≡ length (written_b compact p after) → MeetsOriginal p d [] (slack_sums p s)
      → ExactlyOne (overlap_count (layout p)) (λ y. Meets (written_a compact p after) (written_b compact p after) p d [] y s)
  empty_solved s l m = (demand3_written p before after cut finite).solved d z [] s (sym none) l m

  pub empty_unsolved : (s : List ℤ) → length s ≡ length (written_b compact p after) → (MeetsOriginal p d [] (slack_sums p s) → ⊥)
      → (y : List ℤ) → length y ≡ overlap_count (layout p) → Meets (written_a compact p after) (written_b compact p after) p d [] y s → ⊥
  empty_unsolved s l n y k m = (demand3_written p before after cut finite).unsolved d z [] s (sym none) l n y k m

  -- slacks that meet the original equations are sums of some augmented slacks
  pub empty_reached : (s : List ℤ) → length s ≡ p.m → MeetsOriginal p d [] s
      → (t : List ℤ) × (length t ≡ length (written_b compact p after)) × (slack_sums p t ≡ s)
  empty_reached s l m = (demand3_written p before after cut finite).reached d z [] s (sym none) l m
