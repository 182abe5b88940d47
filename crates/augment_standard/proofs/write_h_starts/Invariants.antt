use Prim.Native.Nat.{◌+◌, ◌*◌}
use mathlib.Core.Path.{◌≡◌}
use Rattle.layout.specs.General.Lists.{written}
use Rattle.augment_standard.specs.Beside.{h_starts}
use Rattle.augment_standard.proofs.write_h_starts.Given as goal

abbrev pub invariant-loop-i : goal.invariant-loop-i
invariant-loop-i l = (l.end ≡ l.entries + 2 * l.i) × (l.out ≡ written (h_starts l.entries l.i) l.initial.out)
