use Prim.Native.Nat.{◌+◌, ◌-◌, ◌*◌}
use mathlib.Core.Path.{◌≡◌}
use Rattle.layout.specs.General.Lists.{all, up_from, part}
use Rattle.check_covered.specs.Covered.{values_marked, sides_marked}
use Rattle.check_covered.proofs.sides_covered.Given as goal

abbrev pub invariant-loop-k : goal.invariant-loop-k
invariant-loop-k l =
    sides_marked l.covered l.m l.first l.last l.sides ≡ all (λ j. values_marked l.covered (part (j * l.m) (j * l.m + l.m) l.sides)) (up_from l.k (l.last - l.k))
