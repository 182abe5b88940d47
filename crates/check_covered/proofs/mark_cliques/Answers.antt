use Prim.Native.Nat.{◌-◌}
use native.Mathlib.Omega.{arith}
use mathlib.Core.Bool.{true}
use mathlib.Core.Path.{sym, ap, ◌∙◌}
use mathlib.Core.List.{reverse}
use lib.ListN.{take}
use Rattle.layout.specs.General.Lists.{join}
use Rattle.rows_blocks.specs.Cliques.{rows_here}
use Rattle.rows_blocks.specs.Vertices.{marked}
use Rattle.check_covered.proofs.Rows.{down_step, down-done}
use Rattle.check_covered.proofs.mark_cliques.Goals as goal

pub loop-c-preserved : goal.loop-c-preserved
loop-c-preserved c =
    let a = c.args in
    ap (marked true (join (rows_here a.base a.words.now a.ordering.now) (reverse (take (c.loop-c.c - 1) a.offsets.now)))) c.mark_clique.ensures
    ∙ sym (down_step (rows_here a.base a.words.now a.ordering.now) a.offsets.now c.loop-c.c c.loop-c.covered c.loop-c-test.true (omega arith))
    ∙ c.loop-c.invariant

pub returns : goal.returns
returns c =
    let a = c.args in
    sym (down-done (rows_here a.base a.words.now a.ordering.now) a.offsets.now c.loop-c.c c.loop-c.covered (omega arith)) ∙ c.loop-c.invariant
