use Rattle.layout.specs.General.Lists.{distinct}
use lib.ListN.{drop}
use mathlib.Core.Path.{◌≡◌}
use Rattle.check_members.proofs.is_distinct.Given as goal

abbrev pub invariant-loop-i : goal.invariant-loop-i
invariant-loop-i l = distinct l.a ≡ distinct (drop l.i l.a)
