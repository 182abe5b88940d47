use Rattle.std.proofs.Common.{◌≡◌}
use Rattle.entries_maps.proofs.Lists.{filled}
use Rattle.entries_maps.proofs.write_entries.Given as goal

abbrev pub invariant-loop-k : goal.invariant-loop-k
invariant-loop-k l = l.entries ≡ filled l.words l.fn.entries l.k
