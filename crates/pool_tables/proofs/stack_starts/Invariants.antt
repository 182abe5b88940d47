use Prim.Native.Nat.{ℕ, ◌+◌}
use mathlib.Core.Path.{◌≡◌}
use mathlib.Core.List.{List, map}
use lib.ListN.{get_or}
use Rattle.layout.specs.General.Lists.{below, written}
use Rattle.pool_tables.proofs.stack_starts.Given as goal

-- the sum of both matrices' start c
abbrev pub start_sum : List ℕ → List ℕ → ℕ → ℕ
start_sum starts starts2 c = get_or starts c 0 + get_or starts2 c 0

abbrev pub invariant-loop-c : goal.invariant-loop-c
invariant-loop-c l = l.out ≡ written (map (start_sum l.starts l.starts2) (below l.c)) l.initial.out
