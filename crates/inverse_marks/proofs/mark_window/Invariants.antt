use Prim.Native.Nat.{◌*◌}
use mathlib.Core.Path.{◌≡◌}
use lib.ListN.{length, take}
use lib.Dec.{T}
use Rattle.layout.specs.General.Lists.{keep, distinct}
use Rattle.utils.specs.Windows.{within}
use Rattle.inverse_marks.specs.Flags.{Flagged}
use Rattle.inverse_marks.proofs.mark_window.Given as goal

abbrev pub invariant-loop-word : goal.invariant-loop-word
invariant-loop-word l =
    (length l.marks ≡ 131072) × Flagged (l.window * 8388608) l.marks (take l.word-index l.words)
    × T (distinct (keep (within (l.window * 8388608) 8388608) (take l.word-index l.words)))
