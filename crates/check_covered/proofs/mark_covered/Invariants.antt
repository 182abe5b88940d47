use mathlib.Core.Bool.{true}
use mathlib.Core.Path.{◌≡◌}
use lib.ListN.{length}
use Rattle.layout.specs.General.Lists.{join}
use Rattle.layout.specs.Problems.Cones.{records}
use Rattle.layout.specs.Problems.Patterns.{patterns}
use Rattle.layout.specs.Rows.Blocks.{parts}
use Rattle.layout.specs.Checks.{covered_rows}
use Rattle.walk_cones.specs.Ahead.{ahead, Reached}
use Rattle.rows_blocks.specs.Vertices.{marked}
use Rattle.check_covered.proofs.Parts.{part_originals}
use Rattle.check_covered.proofs.mark_covered.Given as goal

abbrev pub invariant-loop-size : goal.invariant-loop-size
invariant-loop-size l =
    Reached l.m l.cones l.words l.place × (length l.covered ≡ length l.initial.covered)
    × (marked true (join part_originals (ahead l.cones l.words l.place)) l.covered ≡ marked true (covered_rows (parts (records l.cones) (patterns l.count l.words))) l.initial.covered)

abbrev pub decreases-loop-size : goal.decreases-loop-size
decreases-loop-size l = length (ahead l.cones l.words l.place)
