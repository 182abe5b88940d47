use Prim.Native.Nat.{ℕ}
use mathlib.Core.Path.{◌≡◌}
use mathlib.Core.Bool.{Bool}
use mathlib.Core.List.{List}
use lib.ListN.{drop}
use Rattle.std.specs.Fn.{FnReturnsAt}
use Rattle.layout.specs.General.Lists.{all, below}
use Rattle.layout.specs.Checks.{column_rows}
use Rattle.csc.specs.Matrix.{table}
use Rattle.csc.proofs.rows_pass.Given as goal

abbrev pub invariant-loop-c : goal.invariant-loop-c
invariant-loop-c g l =
    (p : List ℕ → Bool) → ((xs : List ℕ) (b : Bool) → FnReturnsAt g.F.Fn l.ordered xs b → b ≡ p xs)
    → all (λ c. p (column_rows (table l.starts l.rows) c)) (below l.n) ≡ all (λ c. p (column_rows (table l.starts l.rows) c)) (drop l.c (below l.n))
