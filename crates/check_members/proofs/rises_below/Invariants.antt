use mathlib.Core.Path.{◌≡◌}
use lib.ListN.{drop}
use Rattle.check_members.specs.OnceIn.{rises_below}
use Rattle.check_members.proofs.rises_below.Given as goal

abbrev pub invariant-loop-u : goal.invariant-loop-u
invariant-loop-u l = rises_below 0 l.n l.us ≡ rises_below l.least l.n (drop l.u-index l.us)
