use Prim.Native.Nat.{ℕ}
use mathlib.Core.List.{List}
use lib.ListN.{length, take}
use lib.Dec.{T}
use Rattle.layout.specs.General.Lists.{keep}
use Rattle.utils.specs.Windows.{within, Marked}
use Rattle.check_members.specs.OnceIn.{once_in}
use Rattle.check_members.proofs.Unmarked.{Left}
use Rattle.check_members.proofs.unmark.Given as goal

abbrev pub invariant-loop-word : goal.invariant-loop-word
invariant-loop-word l =
    (ms : List ℕ) → Marked l.low l.initial.marks ms
    → Left l.low l.marks ms (take l.word-index l.words) × T (once_in ms (keep (within l.low (length l.initial.marks)) (take l.word-index l.words)))
