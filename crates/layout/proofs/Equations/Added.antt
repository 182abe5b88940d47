-- Sums by original row, as the joining adds slacks: they are additive, a sum with one nonzero term is that term, and an integer in one
-- augmented row counts for its original row.
use mathlib.Core.Path.{◌≡◌, sym, ◌∙◌, ap}
use mathlib.Core.Logic.{◌≢◌}
use mathlib.Core.List.{List}
use Prim.Native.Nat.{ℕ, ◌<◌}
use native.Mathlib.Decide.{ℕ_discrete}
use lib.ListN.{length}
use lib.IntN.{ℤ, pos, ◌+ℤ◌}
use Rattle.layout.proofs.Numbers.Sums.{sum_up, sum_up_same, sum_up_add, sum_up_zero, sum_up_single}
use Rattle.layout.proofs.Numbers.OnRow.{on_row, on_row_here, on_row_same, on_row_vanish, on_row_other, on_row_add}
use Rattle.layout.specs.Rows.Blocks.{Row, original_row}
use Rattle.layout.proofs.Rows.Moves.{row_at}

-- the sum of f over the rows of R that represent original row o
abbrev pub added : List Row → (ℕ → ℤ) → ℕ → ℤ
added R f o = sum_up (length R) (λ r. on_row (original_row (row_at R r)) o (f r))

module _ (R : List Row) where
  -- f at row r where this row represents o, and 0 otherwise
  abbrev part : (ℕ → ℤ) → ℕ → ℕ → ℤ
  part f o r = on_row (original_row (row_at R r)) o (f r)

  pub added_same : (f g : ℕ → ℤ) (o : ℕ) → ((r : ℕ) → r < length R → f r ≡ g r) → added R f o ≡ added R g o
  added_same f g o h = sum_up_same (length R) (part f o) (part g o) (λ r i. ap (on_row (original_row (row_at R r)) o) (h r i))

  pub added-add : (f g : ℕ → ℤ) (o : ℕ) → added R (λ r. f r +ℤ g r) o ≡ added R f o +ℤ added R g o
  added-add f g o =
      sum_up_same (length R) (part (λ r. f r +ℤ g r) o) (λ r. part f o r +ℤ part g o r)
      (λ r i. on_row_add (original_row (row_at R r)) o (f r) (g r))
      ∙ sum_up_add (length R) (part f o) (part g o)

  -- where f is 0 at all rows that represent o, the sum is 0
  pub added-zero : (f : ℕ → ℤ) (o : ℕ) → ((r : ℕ) → r < length R → original_row (row_at R r) ≡ o → f r ≡ pos 0)
      → added R f o ≡ pos 0
  added-zero f o h = sum_up_zero (length R) (part f o) (λ r i. on_row_vanish (original_row (row_at R r)) o (f r) (h r i))

  -- where f is 0 at all rows that represent o except row q, the sum is f q
  pub added_single : (f : ℕ → ℤ) (o q : ℕ) → q < length R → original_row (row_at R q) ≡ o
      → ((r : ℕ) → r < length R → r ≢ q → original_row (row_at R r) ≡ o → f r ≡ pos 0) → added R f o ≡ f q
  added_single f o q i e h =
      sum_up_single (length R) (part f o) q i (λ r j ne. on_row_vanish (original_row (row_at R r)) o (f r) (h r j ne))
      ∙ on_row_same (original_row (row_at R q)) o (f q) e

  -- an integer in row q counts for the original row of q
  pub added-at : (q o : ℕ) (v : ℤ) → q < length R → added R (λ r. on_row q r v) o ≡ on_row (original_row (row_at R q)) o v
  added-at q o v i = go (ℕ_discrete (original_row (row_at R q)) o)
    where
      go : Dec (original_row (row_at R q) ≡ o) → added R (λ r. on_row q r v) o ≡ on_row (original_row (row_at R q)) o v
      go (yes e) =
          added_single (λ r. on_row q r v) o q i e (λ r j ne e'. on_row_other q r v (λ e''. ne (sym e''))) ∙ on_row_here q v
          ∙ sym (on_row_same (original_row (row_at R q)) o v e)
      go (no ne) =
          added-zero (λ r. on_row q r v) o (λ r j e. on_row_other q r v (λ e'. ne (ap (λ (k : ℕ). original_row (row_at R k)) e' ∙ e)))
          ∙ sym (on_row_other (original_row (row_at R q)) o v ne)
