use mathlib.Core.Path.{refl, ap, ◌∙◌}
use Rattle.layout.specs.General.Lists.{rises}
use Rattle.csc.proofs.rows_right.Goals as goal

pub returns : goal.returns
returns c = c.rows_pass.ensures rises refl (λ xs b r. r.says.met ∙ ap rises r.shows)
