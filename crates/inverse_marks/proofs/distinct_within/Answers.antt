use Prim.Native.Nat.{ℕ}
use Rattle.utils.proofs.Tables.{filled-length}
use Rattle.inverse_marks.proofs.distinct_within.Goals as goal

pub slice_bounds-mark_window-end : goal.slice_bounds-mark_window-end
slice_bounds-mark_window-end c = filled-length {A = ℕ} 131072 0

pub returns : goal.returns
returns c = c.mark_window.ensures
