use Rattle.std.proofs.Common.{◌≡◌, ◌≤◌, length, take, drop}
use Rattle.layout.specs.General.Lists.{same_by}
use Rattle.stored.proofs.same.Given as goal

abbrev pub invariant-loop-k : goal.invariant-loop-k
invariant-loop-k g l = (length l.list ≤ length l.out) × (same_by g.T.Element.alike (take (length l.list) l.out) l.list ≡ same_by g.T.Element.alike (drop l.k (take (length l.list) l.out)) (drop l.k l.list))
