use native.Mathlib.Omega.{arith}
use mathlib.Core.Path.{sym, ◌∙◌}
use Rattle.layout.proofs.Generators.Drawn.{side-done}
use Rattle.generator_draws.proofs.draw_side.Goals as goal

pub returns : goal.returns
returns c = sym (side-done c.args.rows.now c.loop-r.r-index (omega arith) c.loop-r.state c.loop-r.out) ∙ c.loop-r.invariant
