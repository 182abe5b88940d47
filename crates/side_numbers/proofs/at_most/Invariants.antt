use mathlib.Core.Path.{◌≡◌}
use mathlib.Core.Bool.{◌&&◌}
use lib.ListN.{drop}
use lib.Ieee.{le}
use Rattle.layout.specs.General.Lists.{same_by}
use Rattle.side_numbers.proofs.at_most.Given as goal

-- `holds` is whether the first i values of low are at most those of high
abbrev pub invariant-loop-i : goal.invariant-loop-i
invariant-loop-i l = same_by le l.low l.high ≡ (l.holds && same_by le (drop l.i l.low) (drop l.i l.high))
