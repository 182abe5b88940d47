use mathlib.Core.Path.{◌≡◌}
use mathlib.Core.Bool.{◌&&◌}
use lib.ListN.{drop}
use Rattle.check_covered.specs.Covered.{rows_marked}
use Rattle.check_covered.proofs.entries_covered.Given as goal

-- `holds` is whether the rows so far are marked
abbrev pub invariant-loop-row : goal.invariant-loop-row
invariant-loop-row l = rows_marked l.covered l.rows ≡ (l.holds && rows_marked l.covered (drop l.row-index l.rows))
