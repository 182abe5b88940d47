use lib.ListN.{take}
use Rattle.utils.specs.Windows.{Marked}
use Rattle.check_members.proofs.mark_only.Given as goal

abbrev pub invariant-loop-word : goal.invariant-loop-word
invariant-loop-word l = Marked l.low l.marks (take l.word-index l.words)
