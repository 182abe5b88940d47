use mathlib.Core.Path.{◌≡◌}
use mathlib.Core.Bool.{◌&&◌}
use Prim.Native.Nat.{◌*◌, ◌≤◌}
use lib.Dec.{eqb}
use lib.ListN.{take, drop}
use Rattle.layout.specs.General.Lists.{all}
use Rattle.layout.specs.Checks.{cones_read}
use Rattle.layout.specs.Problems.Cones.{records, reads}
use Rattle.supportedcone.specs.Ranges.{row_total}
use Rattle.supportedcone.proofs.check_cones.Given as goal

abbrev pub invariant-loop-i : goal.invariant-loop-i
invariant-loop-i l =
    (l.rows ≡ row_total (take l.i (records l.cones))) × (l.rows ≤ 131072 * l.i)
    × (cones_read l.m l.cones ≡ (all reads (drop l.i (records l.cones)) && eqb (row_total (records l.cones)) l.m))
