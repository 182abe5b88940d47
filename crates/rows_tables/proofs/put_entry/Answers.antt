use mathlib.Core.Path.{ap}
use mathlib.Core.List.{List}
use Prim.Native.Nat.{ℕ, ◌+◌}
use lib.ListN.{set, length-set}
use native.Mathlib.Omega.{arith}
use Rattle.rows_tables.proofs.put_entry.Goals as goal

pub bounds-out-t-2 : goal.bounds-out-t-2
bounds-out-t-2 c = simp length-set (omega arith)

pub returns : goal.returns
returns c =
    let a = c.args in
    ap (λ (l : List ℕ). set (set l (a.t + 3) a.first) (a.t + 4) a.rows) c.put.ensures
