use mathlib.Core.Path.{sym, ◌∙◌}
use mathlib.Core.Bool.{true}
use native.Mathlib.Omega.{arith}
use lib.ListN.{length-replicate}
use lib.Ieee.{nan}
use borrow.Author.Tests.{eq-eqb, ne_eqb}
use Rattle.layout.specs.Checks.{cones_read}
use Rattle.constants.proofs.Answers.{passed_on, number_positive}
use Rattle.check_problem.proofs.Order.{refused}
use Rattle.supportedcone.proofs.Records.{cones-read}
use Rattle.check_problem.proofs.check_records.Goals as goal

pub returns-in_err-check_cones : goal.returns-in_err-check_cones
returns-in_err-check_cones c =
    let a = c.args in
    let e = c.in_err-check_cones.field-0.0 in
    let some = number_positive e in
    passed_on c.from_residual.result e c.from_residual.ensures
    ∙ (c.in_err-check_cones.ensures ∙ rw (refused (cones_read a.m a.cones.now) 4 (λ z. omega (arith, some, c.in_err-check_cones.ensures, z))))

pub returns-then-q_count-n : goal.returns-then-q_count-n
returns-then-q_count-n c =
    let a = c.args in
    rw (length-replicate a.q_count nan, cones-read a.m a.cones.now (sym c.in_ok-check_cones.ensures), ne_eqb _ _ c.if-q_count-n.true)

pub returns-then-b_count-m : goal.returns-then-b_count-m
returns-then-b_count-m c =
    let a = c.args in
    rw (length-replicate a.q_count nan, length-replicate a.b_count nan, cones-read a.m a.cones.now (sym c.in_ok-check_cones.ensures), eq-eqb _ _ c.if-q_count-n.false, ne_eqb _ _ c.if-b_count-m.true)

pub returns : goal.returns
returns c =
    let a = c.args in
    rw (length-replicate a.q_count nan, length-replicate a.b_count nan, cones-read a.m a.cones.now (sym c.in_ok-check_cones.ensures), eq-eqb _ _ c.if-q_count-n.false, eq-eqb _ _ c.if-b_count-m.false)
