use mathlib.Core.Path.{sym, ap, ◌∙◌}
use borrow.Author.Tests.{le-leb}
use Rattle.layout.specs.Problems.Problem.{Route}
use Rattle.layout.specs.Calls.Answers.{route_of}
use Rattle.layout.proofs.Checks.Routes.{route_standard, route_compact}
use Rattle.chordal_info.specs.Sizes.{rows_fit}
use Rattle.chordal_info.proofs.Sizes.{rows-many}
use Rattle.chordal_info.proofs.rows_right.Goals as goal

pub returns-then-rows-gt-AUGMENTED_ROWS : goal.returns-then-rows-gt-AUGMENTED_ROWS
returns-then-rows-gt-AUGMENTED_ROWS c = let a = c.args in sym (rows-many (route_of a.route) a.m a.rows a.overlaps c.if-rows-gt-AUGMENTED_ROWS.true)

pub returns-then-route-eq-STANDARD : goal.returns-then-route-eq-STANDARD
returns-then-route-eq-STANDARD c =
    let a = c.args in
    sym (ap (λ (x : Route). rows_fit x a.m a.rows a.overlaps) (route_standard a.route c.if-route-eq-STANDARD.true))

pub returns : goal.returns
returns c =
    let a = c.args in
    sym (ap (λ (x : Route). rows_fit x a.m a.rows a.overlaps) (route_compact a.route c.if-route-eq-STANDARD.false)
    ∙ rw (le-leb a.rows 262144 c.if-rows-gt-AUGMENTED_ROWS.false))
