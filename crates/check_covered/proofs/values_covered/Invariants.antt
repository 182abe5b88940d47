use Prim.Native.Nat.{ℕ}
use mathlib.Core.Path.{◌≡◌}
use mathlib.Core.Bool.{Bool, false, ◌&&◌, ◌||◌}
use mathlib.Core.List.{List}
use lib.ListN.{length, get_or, drop}
use lib.Ieee.{Float, nan, eq}
use Rattle.layout.specs.General.Lists.{all, below}
use Rattle.layout.specs.General.Floats.{zero64}
use Rattle.check_covered.specs.Covered.{values_marked}
use Rattle.check_covered.proofs.values_covered.Given as goal

-- the test of one row: its value is zero or it is marked
abbrev pub fine : List Bool → List Float → ℕ → Bool
fine covered b r = eq (get_or b r nan) zero64 || get_or covered r false

-- `holds` is whether the first i rows pass
abbrev pub invariant-loop-i : goal.invariant-loop-i
invariant-loop-i l = values_marked l.covered l.b ≡ (l.holds && all (fine l.covered l.b) (drop l.i (below (length l.b))))
