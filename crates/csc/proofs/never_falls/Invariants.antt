use Prim.Native.Nat.{◌-◌}
use mathlib.Core.Path.{◌≡◌}
use mathlib.Core.Bool.{◌&&◌}
use lib.ListN.{drop}
use lib.Dec.{leb}
use Rattle.csc.proofs.Fronts.{chained}
use Rattle.csc.proofs.never_falls.Given as goal

-- `holds` is whether no number before i is less than the one before it
abbrev pub invariant-loop-i : goal.invariant-loop-i
invariant-loop-i l = chained leb l.xs ≡ (l.holds && chained leb (drop (l.i - 1) l.xs))
