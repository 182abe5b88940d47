-- Q-13, that both routes mean one problem, on the written outputs: the equations of the outputs of a standard cut and of a compact cut.
use Prim.Native.Nat.{ℕ, ◌+◌}
use native.Mathlib.Omega.{arith}
use mathlib.Core.Path.{◌≡◌, sym, ap, subst₂, ◌∙◌}
use mathlib.Core.Logic.Iff
use mathlib.Core.Logic.{◌↔◌}
use mathlib.Core.List.{List}
use lib.ListN.{length, get_or}
use lib.Dec.{T}
use lib.IntN.{ℤ}
use lib.Ieee.{Float}
use Rattle.layout.specs.Problems.Problem.{Problem, Csc, standard, compact}
use Rattle.layout.specs.Rows.Blocks.{block_row_count}
use Rattle.layout.specs.Checks.{layout, refusal}
use Rattle.layout.specs.Cuts.Compact.{compact_a, compact_b}
use Rattle.layout.specs.Cuts.Standard.{standard_a, standard_b}
use Rattle.layout.specs.Equations.Equations.{ExactlyOne}
use Rattle.layout.specs.Equations.BothRoutes.{without_repeats, StoredFinite}
use Rattle.layout.specs.Calls.Cut.{Augmented, Cut}
use Rattle.layout.proofs.Theorems.BothRoutes.{both_routes}
use Rattle.layout.proofs.Columns.Sizes.{compact_sizes_lem, standard_sizes_lem}
use Rattle.cut_laws.specs.Equations.{written_a, written_b}
use Rattle.cut_laws.specs.BothRoutes.{OneProblemAs}
use Rattle.cut_laws.proofs.Demand3.{written_A, written_b_lem, cut-accepted}

-- exactly one choice for P means exactly one for an equivalent Q
one_as : (k : ℕ) (P Q : List ℤ → Type 0) → ((y : List ℤ) → P y ↔ Q y) → ExactlyOne k P ↔ ExactlyOne k Q
one_as k P Q h = (
  λ (y, e, m, alone). (y, e, (h y).0 m, λ z f n. alone z f ((h z).1 n)),
  λ (y, e, m, alone). (y, e, (h y).1 m, λ z f n. alone z f ((h z).0 n)),
)

-- the statement for the A and b that the definitions of the cuts give
defined : (p : Problem) → refusal standard p ≡ 0 → refusal compact p ≡ 0 → T (without_repeats p) → StoredFinite p
    → OneProblemAs p (standard_a p) (standard_b p) (compact_a p) (compact_b p)
defined p standard-ok compact-ok once stored d z x t e g =
    let rows₀ : length (standard_b p) ≡ p.m + block_row_count (layout p) = ap (λ (ks : List ℕ). get_or ks 7 0) (standard_sizes_lem p standard-ok) in
    let rows₁ : length (compact_b p) ≡ block_row_count (layout p) = ap (λ (ks : List ℕ). get_or ks 7 0) (compact_sizes_lem p compact-ok) in
    Iff.trans
    (one_as _ _ _ (λ y. (λ m r l. m r (omega (arith, l, rows₀)), λ m r l. m r (omega (arith, l, rows₀)))))
    (Iff.trans (both_routes p standard-ok compact-ok once stored d z x t e (g ∙ rows₁))
    (one_as _ _ _ (λ y. (λ m r l. m r (omega (arith, l, rows₁)), λ m r l. m r (omega (arith, l, rows₁))))))

-- Both routes mean one problem, for the outputs of a standard cut and of a compact cut that both return 0.
pub both_routes_written : (p : Problem) (before₀ after₀ before₁ after₁ : Augmented) → Cut 0 p before₀ after₀ 0 → Cut 1 p before₁ after₁ 0
    → T (without_repeats p) → StoredFinite p
    → OneProblemAs p (written_a standard p after₀) (written_b standard p after₀) (written_a compact p after₁) (written_b compact p after₁)
both_routes_written p before₀ after₀ before₁ after₁ cut₀ cut₁ once stored =
    subst₂ (λ (M : Csc) (v : List Float). OneProblemAs p M v (written_a compact p after₁) (written_b compact p after₁))
    (sym (written_A 0 p before₀ after₀ cut₀)) (sym (written_b_lem 0 p before₀ after₀ cut₀))
    (subst₂ (λ (M : Csc) (v : List Float). OneProblemAs p (standard_a p) (standard_b p) M v)
    (sym (written_A 1 p before₁ after₁ cut₁)) (sym (written_b_lem 1 p before₁ after₁ cut₁))
    (defined p (cut-accepted 0 p before₀ after₀ cut₀) (cut-accepted 1 p before₁ after₁ cut₁) once stored))
