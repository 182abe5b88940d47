use Rattle.std.proofs.Common.{◌≤◌, length}
use Rattle.stored.proofs.Reader.lists.Given as goal

abbrev pub invariant-loop-k : goal.invariant-loop-k
invariant-loop-k g l = l.end ≤ length l.items
