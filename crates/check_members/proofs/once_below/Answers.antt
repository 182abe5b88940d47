use mathlib.Core.Path.{sym, ◌∙◌}
use Rattle.layout.proofs.Lists.Tests.{passed, passes}
use Rattle.check_members.proofs.Walks.{rises-once}
use Rattle.check_members.proofs.once_below.Goals as goal

pub returns-then-rises_below : goal.returns-then-rises_below
returns-then-rises_below c =
    let s = c.args in
    c.if-rises_below.true ∙ sym (passed _ (rises-once 0 s.n s.us.now (passes _ (sym c.rises_below.ensures ∙ c.if-rises_below.true))).0)
