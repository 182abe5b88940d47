use mathlib.Core.Path.{◌≡◌}
use mathlib.Core.List.{map}
use Prim.Native.Nat.{◌≤◌}
use lib.ListN.{take}
use Rattle.layout.specs.General.Lists.{sum}
use Rattle.layout.specs.Problems.Cones.{records, alpha_count}
use Rattle.supportedcone.proofs.alphas_counted.Given as goal

abbrev pub invariant-loop-i : goal.invariant-loop-i
invariant-loop-i l = (l.next ≡ sum (map alpha_count (take l.i (records l.cones)))) × (l.next ≤ l.count)
