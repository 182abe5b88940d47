use Prim.Native.Nat.{ℕ}
use mathlib.Core.Path.{◌≡◌}
use mathlib.Core.Bool.{Bool, not, ◌&&◌}
use lib.ListN.{drop}
use lib.Dec.{eqb}
use Rattle.layout.specs.General.Lists.{all}
use Rattle.inverse_permutation.proofs.all_placed.Given as goal

abbrev pub written_at : ℕ → Bool
written_at x = not (eqb x 4294967295)

-- `placed` is whether a number has been written to each of the indices so far
abbrev pub invariant-loop-k : goal.invariant-loop-k
invariant-loop-k l = all written_at l.table ≡ (l.placed && all written_at (drop l.k-index l.table))
