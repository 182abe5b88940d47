use mathlib.Core.Path.{refl, sym, ap}
use Rattle.layout.specs.Problems.Problem.{Route}
use Rattle.layout.proofs.Checks.Routes.{route_standard, route_compact}
use Rattle.decomp.specs.Adds.{columns_added}
use Rattle.decomp.proofs.with_columns.Goals as goal

pub returns-then-route-eq-STANDARD : goal.returns-then-route-eq-STANDARD
returns-then-route-eq-STANDARD c = let a = c.args in (refl, ap (λ (r : Route). columns_added r a.rows a.overlaps) (sym (route_standard a.route c.if-route-eq-STANDARD.true)))

pub returns-else-route-eq-STANDARD : goal.returns-else-route-eq-STANDARD
returns-else-route-eq-STANDARD c = let a = c.args in (refl, ap (λ (r : Route). columns_added r a.rows a.overlaps) (sym (route_compact a.route c.if-route-eq-STANDARD.false)))
