-- A and b, drawn over the covered rows from the state after the ordering, are those of the generated problem.
use Prim.Native.Nat.{ℕ, ◌-◌}
use mathlib.Core.Path.{◌≡◌, sym, ap, ap₂, ◌∙◌}
use mathlib.Core.Bool.{cond}
use mathlib.Core.List.{List, map}
use lib.ListN.{length, replicate}
use lib.Dec.{T}
use Rattle.layout.specs.General.Lists.{sum}
use Rattle.layout.specs.General.Triangle.{triangle}
use Rattle.layout.specs.Problems.Problem.{table_lengths}
use Rattle.layout.specs.General.Floats.{zero64}
use Rattle.layout.specs.Cuts.Compact.{csc}
use Rattle.layout.specs.Calls.Answers.{roomy}
use Rattle.layout.specs.Calls.Generate.{draws, drawn_ordering, band_rows, drawn_columns, after_columns, drawn_side, generated, in_ranges}
use Rattle.generator.specs.Lengths.{lengths_of}
use Rattle.generator.proofs.Numbers.{lengths_are}

module _ (seed v w n t : ℕ) (rs : List ℕ) (e : t ≡ draws (v - 1) seed) (f : rs ≡ band_rows (drawn_ordering seed v) v w) where
  -- check 11 on outputs of these lengths
  pub drawn_rooms : T (in_ranges seed v w n) → (rooms : List ℕ)
      → ◌≡◌ {A = ℕ} (cond (roomy (lengths_of v w n (sum (map length (drawn_columns t rs n)))) rooms) 0 11) (cond (roomy (table_lengths (generated seed v w n)) rooms) 0 11)
  drawn_rooms ok rooms =
      ap₂ (λ (u : ℕ) (xs : List ℕ). cond (roomy (lengths_of v w n (sum (map length (drawn_columns u xs n)))) rooms) 0 11) e f
      ∙ ap (λ (ks : List ℕ). cond (roomy ks rooms) 0 11) (sym (lengths_are seed v w n ok))

  pub drawn_A : csc (drawn_columns t rs n) ≡ (generated seed v w n).A
  drawn_A = ap₂ (λ (u : ℕ) (xs : List ℕ). csc (drawn_columns u xs n)) e f

  pub drawn_b : (m : ℕ) → m ≡ triangle v → drawn_side (after_columns t rs n) rs (replicate m zero64) ≡ (generated seed v w n).b
  drawn_b m g =
      ap₂ (λ (u : ℕ) (xs : List ℕ). drawn_side (after_columns u xs n) xs (replicate m zero64)) e f
      ∙ ap (λ (k : ℕ). let xs = band_rows (drawn_ordering seed v) v w in drawn_side (after_columns (draws (v - 1) seed) xs n) xs (replicate k zero64)) g
