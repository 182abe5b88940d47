use Rattle.std.proofs.Common.{◌≡◌}
use Rattle.entries_maps.proofs.Lists.{told}
use Rattle.entries_maps.proofs.write_words.Given as goal

abbrev pub invariant-loop-w : goal.invariant-loop-w
invariant-loop-w l = l.out ≡ told l.entries l.fn.out l.w
