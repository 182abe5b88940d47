use Prim.Native.Nat.{◌≤◌}
use mathlib.Core.Path.{◌≡◌}
use Rattle.layout.specs.Cuts.Runs.{run_first}
use Rattle.csc.proofs.first_place.Given as goal

abbrev pub invariant-loop-first : goal.invariant-loop-first
invariant-loop-first l = (l.first ≤ l.t) × (run_first l.rows l.t ≡ run_first l.rows l.first)

abbrev pub decreases-loop-first : goal.decreases-loop-first
decreases-loop-first l = l.first
