use mathlib.Core.Path.{ap, sym, ◌∙◌}
use mathlib.Core.Bool.{Bool}
use Rattle.join_cones.specs.Parts.{whole_values}
use native.Mathlib.Omega.{arith}
use Rattle.layout.proofs.Lists.Buffers.{written-whole}
use Rattle.join_cones.proofs.whole_values.Goals as goal

pub returns-else-standard : goal.returns-else-standard
returns-else-standard c =
    let vs = c.args.values.now in
    c.copy_front.ensures
    ∙ written-whole vs c.args.out.now (omega (arith, c.requires))
    ∙ ap (λ (b : Bool). whole_values b vs) (sym c.if-standard.false)
