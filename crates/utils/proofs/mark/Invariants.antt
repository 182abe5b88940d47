use Rattle.utils.specs.Windows.{within, Marked}
use Rattle.layout.specs.General.Lists.{keep, distinct}
use lib.ListN.{length, take}
use lib.Dec.{T}
use mathlib.Core.Path.{◌≡◌}
use mathlib.Core.List.{List, ◌++◌}
use Prim.Native.Nat.{ℕ}
use Rattle.utils.proofs.mark.Given as goal

abbrev pub invariant-loop-i : goal.invariant-loop-i
invariant-loop-i l =
    (length l.marks ≡ length l.initial.marks) × ((met : List ℕ) → Marked l.low l.initial.marks met → T (distinct (keep (within l.low (length l.initial.marks)) met))
    → Marked l.low l.marks (met ++ take l.i l.words) × T (distinct (keep (within l.low (length l.initial.marks)) (met ++ take l.i l.words))))
