use mathlib.Core.Path.{sym, ap, ◌∙◌}
use mathlib.Core.Bool.{Bool, cond}
use Rattle.chordal_info.proofs.rows_refusal.Goals as goal

pub returns-then-rows_right : goal.returns-then-rows_right
returns-then-rows_right c = sym (ap (λ (t : Bool). cond t 0 10) (sym c.rows_right.ensures ∙ c.if-rows_right.true))

pub returns : goal.returns
returns c = sym (ap (λ (t : Bool). cond t 0 10) (sym c.rows_right.ensures ∙ c.if-rows_right.false))
