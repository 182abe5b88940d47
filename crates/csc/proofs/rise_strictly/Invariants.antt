use Prim.Native.Nat.{◌-◌}
use mathlib.Core.Path.{◌≡◌}
use lib.ListN.{drop}
use lib.Dec.{ltb}
use Rattle.csc.proofs.Fronts.{chained}
use Rattle.csc.proofs.rise_strictly.Given as goal

abbrev pub invariant-loop-i : goal.invariant-loop-i
invariant-loop-i l = chained ltb l.rows ≡ chained ltb (drop (l.i - 1) l.rows)
