use mathlib.Core.Path.{sym, ap, ◌∙◌}
use Rattle.layout.specs.Problems.Cones.{Cone}
use Rattle.supportedcone.specs.Cases.{reads_as}
use Rattle.supportedcone.proofs.Records.{record_in}
use native.Mathlib.Omega.{arith}
use Rattle.supportedcone.proofs.cone_at.Goals as goal

pub returns : goal.returns
returns c = c.read.ensures ∙ sym (ap (λ (r : Cone). reads_as r c.args.alpha) (record_in c.args.cones.now c.args.i (omega arith)))
