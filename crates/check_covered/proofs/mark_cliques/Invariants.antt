use mathlib.Core.Bool.{true}
use mathlib.Core.Path.{◌≡◌}
use mathlib.Core.List.{reverse}
use lib.ListN.{take}
use Rattle.layout.specs.General.Lists.{join}
use Rattle.rows_blocks.specs.Cliques.{rows_here}
use Rattle.rows_blocks.specs.Vertices.{marked}
use Rattle.check_covered.proofs.mark_cliques.Given as goal

abbrev pub invariant-loop-c : goal.invariant-loop-c
invariant-loop-c l =
    let f = rows_here l.base l.words l.ordering in
    marked true (join f (reverse (take l.c l.offsets))) l.covered ≡ marked true (join f (reverse l.offsets)) l.initial.covered
