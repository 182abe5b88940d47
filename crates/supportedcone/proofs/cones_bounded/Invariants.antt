use mathlib.Core.Path.{◌≡◌}
use lib.ListN.{drop}
use Rattle.layout.specs.General.Lists.{all}
use Rattle.layout.specs.Checks.{sizes_bounded, cones_bounded}
use Rattle.layout.specs.Problems.Cones.{records}
use Rattle.supportedcone.proofs.cones_bounded.Given as goal

abbrev pub invariant-loop-i : goal.invariant-loop-i
invariant-loop-i l = cones_bounded l.cones ≡ all sizes_bounded (drop l.i (records l.cones))
