use mathlib.Core.Bool.{not}
use mathlib.Core.Path.{sym, ap, ◌∙◌}
use Rattle.layout.proofs.Floats.Nans.{ne_self, nan-compared, nan-second}
use Rattle.layout.proofs.Lists.Tests.{passes}
use Rattle.same_tables.proofs.same_double.Goals as goal

pub returns-then-is_nan : goal.returns-then-is_nan
returns-then-is_nan c =
    let a = c.args in
    c.is_nan-then-is_nan.ensures.value ∙ sym (ne_self a.y) ∙ nan-compared a.x a.y (passes _ c.well_formed.0.1) (passes _ c.well_formed.1.0.1) (ne_self a.x ∙ sym c.if-is_nan.ensures.value)

pub returns-else-not-is_nan : goal.returns-else-not-is_nan
returns-else-not-is_nan c =
    let a = c.args in
    ap not c.if-not-is_nan.false
    ∙ sym (nan-second a.x a.y (passes _ c.well_formed.0.1) (passes _ c.well_formed.1.0.1) (ne_self a.x ∙ sym c.if-is_nan.ensures.value) (ne_self a.y ∙ sym c.if-not-is_nan.ensures.value))
