use lib.ListN.{take}
use Rattle.utils.specs.Passed.{PassedTo}
use Rattle.inverse_marks.specs.Flags.{Flagged}
use Rattle.inverse_marks.proofs.mark_each.Given as goal

abbrev pub invariant-loop-word : goal.invariant-loop-word
invariant-loop-word l = Flagged 0 l.marks (take l.word-index l.words) × PassedTo l.words l.word-index
