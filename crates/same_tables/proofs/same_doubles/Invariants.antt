use mathlib.Core.Path.{◌≡◌}
use lib.ListN.{drop}
use Rattle.layout.specs.General.Lists.{same_by}
use Rattle.layout.specs.General.Floats.{same_bits}
use Rattle.same_tables.proofs.same_doubles.Given as goal

abbrev pub invariant-loop-i : goal.invariant-loop-i
invariant-loop-i l = same_by same_bits l.xs l.ys ≡ same_by same_bits (drop l.i l.xs) (drop l.i l.ys)
