-- Demand 3 on the written outputs: the equations of a compact cut's outputs have exactly the original problem's solutions.
use Prim.Native.Nat.{ℕ}
use native.Mathlib.Omega.{arith}
use mathlib.Core.Path.{◌≡◌, sym, ap, subst₂, ◌∙◌}
use mathlib.Core.List.{List}
use lib.ListN.{length, get_or}
use lib.Ieee.{Float}
use Rattle.layout.specs.Problems.Problem.{Problem, Csc, compact}
use Rattle.layout.specs.Rows.Blocks.{block_row_count}
use Rattle.layout.specs.Checks.{layout, refusal}
use Rattle.layout.specs.Cuts.Compact.{compact_a, compact_b}
use Rattle.layout.specs.Equations.Equations.{AllFinite}
use Rattle.layout.specs.Calls.Cut.{Augmented, augmented, lengths, Cut}
use Rattle.layout.specs.Calls.Answers.{route_of}
use Rattle.layout.proofs.Lists.Buffers.{front_read}
use Rattle.layout.proofs.Theorems.Demand3.{demand3}
use Rattle.layout.proofs.Columns.Sizes.{compact_sizes_lem}
use Rattle.layout.proofs.Promises.{taken}
use Rattle.cut_laws.specs.Equations.{written_a, written_b, SameSolutionsAs}

matrix_same : (M N : Csc) → M.starts ≡ N.starts → M.rows ≡ N.rows → M.values ≡ N.values → M ≡ N
matrix_same M N e f g = λ i. record { starts = e i; rows = f i; values = g i }

-- the statement for the A and b that the definition of the cut gives
defined : (p : Problem) → refusal compact p ≡ 0 → AllFinite p → SameSolutionsAs p (compact_a p) (compact_b p)
defined p ok finite =
    let h = demand3 p ok finite in
    let rows : length (compact_b p) ≡ block_row_count (layout p) = ap (λ (ks : List ℕ). get_or ks 7 0) (compact_sizes_lem p ok) in record {
      solved = λ d z x s e g m.
          let one = h.solved d z x s e (g ∙ rows) m in
          (one.0, one.1, λ r l. one.2 r (omega (arith, l, rows)), λ y k n. one.3 y k (λ r l. n r (omega (arith, l, rows))));
      unsolved = λ d z x s e g n y k m. h.unsolved d z x s e (g ∙ rows) n y k (λ r l. m r (omega (arith, l, rows)));
      reached = λ d z x s e g m. let some = h.reached d z x s e g m in (some.0, some.1 ∙ sym rows, some.2);
    }

-- the outputs of a cut that returns 0 begin with the A and b of its definition
module _ (k : ℕ) (p : Problem) (before after : Augmented) (cut : Cut k p before after 0) where
  pub written_A : written_a (route_of k) p after ≡ (augmented (route_of k) p).A
  written_A =
      let t = cut.tables.constrained in
      let M = (augmented (route_of k) p).A in
      matrix_same (written_a (route_of k) p after) M (front_read M.starts before.A.starts t.a_starts)
      (front_read M.rows before.A.rows t.a_rows) (front_read M.values before.A.values t.a_values)

  pub written_b_lem : written_b (route_of k) p after ≡ (augmented (route_of k) p).b
  written_b_lem = front_read (augmented (route_of k) p).b before.b cut.tables.constrained.b

  pub cut-accepted : refusal (route_of k) p ≡ 0
  cut-accepted = (taken k p (lengths before) (sym cut.number)).1.0

-- Demand 3 for the outputs of a compact cut that returns 0.
pub demand3_written : (p : Problem) (before after : Augmented) → Cut 1 p before after 0 → AllFinite p
    → SameSolutionsAs p (written_a compact p after) (written_b compact p after)
demand3_written p before after cut finite =
    subst₂ (λ (M : Csc) (v : List Float). SameSolutionsAs p M v) (sym (written_A 1 p before after cut)) (sym (written_b_lem 1 p before after cut))
    (defined p (cut-accepted 1 p before after cut) finite)
