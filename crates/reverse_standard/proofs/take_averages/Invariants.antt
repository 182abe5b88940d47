use Rattle.std.proofs.Common.{◌≡◌, map}
use Rattle.layout.specs.General.Lists.{below, written}
use Rattle.reverse_standard.specs.Averages.{averaged_by, Clears}
use Rattle.reverse_standard.proofs.take_averages.Given as goal

abbrev pub invariant-loop-i : goal.invariant-loop-i
invariant-loop-i l = (l.z ≡ written (map (averaged_by l.initial.counts l.initial.z) (below l.i)) l.initial.z) × Clears l.i l.initial.counts l.counts
