use Prim.Native.Nat.{◌≤◌}
use lib.ListN.{length}
use Rattle.check_patterns.proofs.Walked.{Walked}
use Rattle.check_patterns.proofs.snodes_hold.Given as goal

abbrev pub invariant-loop-c : goal.invariant-loop-c
invariant-loop-c l = (l.at ≤ length l.words) × (l.total ≤ l.at) × Walked l.words l.p l.marks l.offsets l.total l.at l.c
