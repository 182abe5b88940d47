use mathlib.Core.Path.{sym, ◌∙◌}
use native.Mathlib.Omega.{arith}
use Rattle.layout.specs.Checks.{cones_read}
use Rattle.layout.specs.Calls.Join.{join_bounded}
use Rattle.constants.proofs.Answers.{passed_on, number_positive}
use Rattle.layout.proofs.Lists.Tests.{and_iff, leb_iff, passes}
use Rattle.check_problem.proofs.Order.{bounded-cones, refused}
use Rattle.supportedcone.proofs.Records.{cones-read}
use Rattle.check_problem.proofs.check_joined.Goals as goal

pub returns-in_err-check_cones-clause-refusal_value : goal.returns-in_err-check_cones-clause-refusal_value
returns-in_err-check_cones-clause-refusal_value c =
    let a = c.args in
    let e = c.in_err-check_cones.field-0.0 in
    let some = number_positive e in
    passed_on c.from_residual.result e c.from_residual.ensures
    ∙ (c.in_err-check_cones.ensures
    ∙ rw (sym c.join_bounded.ensures ∙ c.if-not-join_bounded.false, refused (cones_read a.m a.cones.now) 4 (λ z. omega (arith, some, c.in_err-check_cones.ensures, z))))

pub count_patterns-requires : goal.count_patterns-requires
count_patterns-requires c =
    let a = c.args in
    let b = sym c.join_bounded.ensures ∙ c.if-not-join_bounded.false in
    let bounds = simp (and_iff, leb_iff) at (passes _ b) in
    (bounds.0.1, passes _ (bounded-cones a.n a.m a.cones.now b), passes _ (cones-read a.m a.cones.now (sym c.in_ok-check_cones.ensures)))

pub returns-clause-refusal_value : goal.returns-clause-refusal_value
returns-clause-refusal_value c =
    let a = c.args in
    rw (sym c.join_bounded.ensures ∙ c.if-not-join_bounded.false, cones-read a.m a.cones.now (sym c.in_ok-check_cones.ensures)) c.count_patterns.ensures.refusal_value
