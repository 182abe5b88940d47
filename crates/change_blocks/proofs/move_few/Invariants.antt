use Prim.Native.Nat.{◌-◌, ◌≤◌}
use Rattle.change_blocks.proofs.Laws.{Put}
use Rattle.change_blocks.proofs.move_few.Given as goal

abbrev pub invariant-loop-i : goal.invariant-loop-i
invariant-loop-i l = (l.i ≤ l.k) × Put l.from l.s l.to l.initial.s_out l.i l.s_out × Put l.from l.z l.to l.initial.z_out l.i l.z_out

abbrev pub decreases-loop-i : goal.decreases-loop-i
decreases-loop-i l = l.k - l.i
