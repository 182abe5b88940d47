use mathlib.Core.Path.{refl}
use Rattle.layout.specs.Calls.Generate.{draw as draw_of}
use Rattle.generator_draws.proofs.draw.Goals as goal

pub returns : goal.returns
unfolding draw_of
returns c = refl
