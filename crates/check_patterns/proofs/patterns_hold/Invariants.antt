use Prim.Native.Nat.{◌-◌}
use mathlib.Core.Path.{◌≡◌}
use lib.ListN.{length}
use Rattle.check_patterns.specs.Accepted.{AllClear, PassedBefore}
use Rattle.check_patterns.proofs.Patterns.{Going, Bounded}
use Rattle.check_patterns.proofs.patterns_hold.Given as goal

abbrev pub invariant-loop-i : goal.invariant-loop-i
invariant-loop-i l =
    (length l.marks ≡ 256) × (length l.offsets ≡ 256) × (length l.others ≡ 256) × AllClear l.marks × Bounded l.count l.w (l.count - l.i)
    × Going l.count l.words l.w (l.count - l.i) × PassedBefore l.cones l.count l.words l.w.next l.w.least (l.count - l.i)
