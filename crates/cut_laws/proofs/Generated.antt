-- What the cuts of a generated problem return and write, from the contracts of the generator and of the cuts.
use Prim.Native.Nat.{ℕ}
use mathlib.Core.Path.{◌≡◌, refl, sym, subst, ◌∙◌}
use mathlib.Core.List.{List}
use lib.Dec.{T}
use Rattle.layout.specs.General.Triangle.{triangle}
use Rattle.layout.specs.Problems.Problem.{Problem, Route, standard, compact}
use Rattle.layout.specs.Equations.BothRoutes.{StoredFinite}
use Rattle.layout.specs.Calls.Cut.{Augmented, lengths, sizes, cut_refusal, Cut}
use Rattle.layout.specs.Calls.Answers.{roomy}
use Rattle.layout.specs.Calls.Generate.{generated, in_ranges, Generate}
use Rattle.layout.specs.Calls.Tables.{Tables, table_rooms, problem_at}
use Rattle.layout.proofs.Theorems.Generated.{generate_done, generated-written, generated_stored, generated-cut}
use Rattle.cut_laws.specs.Equations.{written_a, written_b, SameSolutionsAs}
use Rattle.cut_laws.specs.BothRoutes.{OneProblemAs}
use Rattle.cut_laws.proofs.Demand3.{demand3_written}
use Rattle.cut_laws.proofs.BothRoutes.{both_routes_written}

-- the problem at the fronts of the generator's outputs
abbrev load_at : ℕ → ℕ → ℕ → ℕ → Tables → Problem
load_at seed v w n t = problem_at n (triangle v) 1 (generated seed v w n) t

module _ (seed v w n : ℕ) (before after : Tables) (made : Generate seed v w n before after 0) where
  ranges : T (in_ranges seed v w n)
  ranges = (generate_done seed v w n (table_rooms before) (sym made.number)).0

  same : load_at seed v w n after ≡ generated seed v w n
  same = (generated-written seed v w n before after 0 made refl).0

  accepted : (route : Route) (rs : List ℕ) → T (roomy (sizes route (load_at seed v w n after)) rs) → cut_refusal route (load_at seed v w n after) rs ≡ 0
  accepted route rs = subst (λ (p : Problem). T (roomy (sizes route p) rs) → cut_refusal route p rs ≡ 0) (sym same) (generated-cut seed v w n ranges route rs)

  -- neither cut refuses a generated problem if the outputs are long enough
  pub generated_standard : (before₀ after₀ : Augmented) (r : ℕ) → Cut 0 (load_at seed v w n after) before₀ after₀ r
      → T (roomy (sizes standard (load_at seed v w n after)) (lengths before₀)) → r ≡ 0
  generated_standard before₀ after₀ r cut room = cut.number ∙ accepted standard (lengths before₀) room

  pub generated_compact : (before₁ after₁ : Augmented) (r : ℕ) → Cut 1 (load_at seed v w n after) before₁ after₁ r
      → T (roomy (sizes compact (load_at seed v w n after)) (lengths before₁)) → r ≡ 0
  generated_compact before₁ after₁ r cut room = cut.number ∙ accepted compact (lengths before₁) room

  -- demand 3 for what the compact cut of a generated problem writes
  pub generated_demand3 : (before₁ after₁ : Augmented) → Cut 1 (load_at seed v w n after) before₁ after₁ 0
      → SameSolutionsAs (load_at seed v w n after) (written_a compact (load_at seed v w n after) after₁) (written_b compact (load_at seed v w n after) after₁)
  generated_demand3 before₁ after₁ cut =
      demand3_written (load_at seed v w n after) before₁ after₁ cut (generated-written seed v w n before after 0 made refl).1.all_finite

  -- both routes mean one problem, for what both cuts of a generated problem write
  pub generated_both : (before₀ after₀ before₁ after₁ : Augmented) → Cut 0 (load_at seed v w n after) before₀ after₀ 0
      → Cut 1 (load_at seed v w n after) before₁ after₁ 0
      → OneProblemAs (load_at seed v w n after) (written_a standard (load_at seed v w n after) after₀) (written_b standard (load_at seed v w n after) after₀)
      (written_a compact (load_at seed v w n after) after₁) (written_b compact (load_at seed v w n after) after₁)
  generated_both before₀ after₀ before₁ after₁ cut₀ cut₁ =
      both_routes_written (load_at seed v w n after) before₀ after₀ before₁ after₁ cut₀ cut₁
      (generated-written seed v w n before after 0 made refl).1.alone
      (subst StoredFinite (sym same) (generated_stored seed v w n ranges))
