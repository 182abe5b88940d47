use mathlib.Core.Path.{refl, ap, ◌∙◌}
use Rattle.layout.specs.General.Lists.{never_falls}
use Rattle.csc.proofs.rows_in_order.Goals as goal

pub returns : goal.returns
returns c = c.rows_pass.ensures never_falls refl (λ xs b r. r.says.met ∙ ap never_falls r.shows)
