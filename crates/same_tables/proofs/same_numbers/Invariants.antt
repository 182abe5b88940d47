use mathlib.Core.Path.{◌≡◌}
use mathlib.Core.Bool.{◌&&◌}
use lib.ListN.{drop}
use Rattle.layout.specs.General.Lists.{same_numbers}
use Rattle.same_tables.proofs.same_numbers.Given as goal

-- `same` is whether the first i numbers are the same
abbrev pub invariant-loop-i : goal.invariant-loop-i
invariant-loop-i l = same_numbers l.xs l.ys ≡ (l.same && same_numbers (drop l.i l.xs) (drop l.i l.ys))
