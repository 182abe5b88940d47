use Rattle.rows_parent.proofs.Places.{Noted}
use Rattle.rows_parent.proofs.note_places.Given as goal

abbrev pub invariant-loop-i : goal.invariant-loop-i
invariant-loop-i l = Noted l.vertices l.i l.out
