use Prim.Native.Nat.{◌*◌}
use lib.Dec.{T, ltb}
use Rattle.layout.specs.General.Lists.{keep, distinct}
use Rattle.inverse_marks.proofs.permutation_by_windows.Given as goal

abbrev pub invariant-loop-window : goal.invariant-loop-window
invariant-loop-window l = T (distinct (keep (λ x. ltb x (l.window * 8388608)) l.words))
