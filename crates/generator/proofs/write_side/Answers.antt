use native.Mathlib.Omega.{arith}
use mathlib.Core.Path.{ap, ◌∙◌}
use lib.ListN.{length, replicate, length-replicate}
use lib.Ieee.{of_bits}
use Rattle.layout.specs.General.Lists.{Below}
use Rattle.layout.specs.General.Floats.{zero64}
use Rattle.layout.specs.Calls.Generate.{drawn_side}
use Rattle.generator.proofs.Columns.{side_front}
use Rattle.generator.proofs.write_side.Goals as goal

pub draw_side-requires : goal.draw_side-requires
draw_side-requires c = λ i l.
    omega (arith, c.fill_front.auto.out, c.requires.0, c.requires.1 i l)

pub returns : goal.returns
unfolding of_bits
returns c =
    let a = c.args in
    let low : Below (length (replicate a.m zero64)) a.rows.now = rw (length-replicate a.m zero64) c.requires.1 in
    c.draw_side.ensures ∙ ap (drawn_side a.s a.rows.now) c.fill_front.ensures
    ∙ side_front a.s a.rows.now (replicate a.m zero64) a.out.now low
