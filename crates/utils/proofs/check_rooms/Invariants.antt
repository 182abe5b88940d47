use mathlib.Core.Path.{◌≡◌}
use lib.ListN.{drop}
use Rattle.layout.specs.Calls.Answers.{roomy}
use Rattle.utils.proofs.check_rooms.Given as goal

abbrev pub invariant-loop-i : goal.invariant-loop-i
invariant-loop-i l = roomy l.needs l.rooms ≡ roomy (drop l.i l.needs) (drop l.i l.rooms)
