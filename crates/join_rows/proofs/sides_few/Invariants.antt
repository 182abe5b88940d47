use Rattle.std.proofs.Common.{◌≡◌, drop}
use Rattle.layout.specs.General.Lists.{all}
use Rattle.layout.specs.Problems.Cones.{Cone, records}
use Rattle.join_rows.specs.Counts.{side_few, sides_few}
use Rattle.join_rows.proofs.sides_few.Given as goal

abbrev pub invariant-loop-i : goal.invariant-loop-i
invariant-loop-i l = sides_few l.cones ≡ all (λ (c : Cone). side_few c.kind c.first) (drop l.i (records l.cones))
