use Prim.Native.Nat.{◌+◌, ◌-◌}
use mathlib.Core.Bool.{true}
use mathlib.Core.Path.{◌≡◌}
use Rattle.layout.specs.General.Lists.{up_from}
use Rattle.rows_blocks.specs.Vertices.{marked}
use Rattle.check_covered.proofs.mark_range.Given as goal

abbrev pub invariant-loop-i : goal.invariant-loop-i
invariant-loop-i l = marked true (up_from (l.first + l.i) (l.count - l.i)) l.covered ≡ marked true (up_from l.first l.count) l.initial.covered
