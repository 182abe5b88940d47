use native.Mathlib.Omega.{arith}
use mathlib.Core.Path.{◌≡◌, refl, ◌∙◌}
use mathlib.Core.Bool.{cond}
use lib.Dec.{eqb}
use Rattle.layout.specs.Calls.Answers.{problem_refusal}
use Rattle.same_tables.proofs.Alike.{unchecked}
use Rattle.constants.specs.Refusals.{number}
use Rattle.constants.proofs.Answers.{passed_on, number_positive}
use Rattle.problemdata.specs.Tables.{problem_of}
use Rattle.pool_refusals.specs.Refusals.{second_refusal}
use Rattle.check_problem.proofs.Order.{first-refused, next-given}
use Rattle.pool_refusals.proofs.check_both.Goals as goal

pub returns-in_err-check_problem : goal.returns-in_err-check_problem
returns-in_err-check_problem c =
    let p = problem_of c.args.first.now in
    let other = problem_of c.args.second.now in
    let e = c.in_err-check_problem.field-0.0 in
    let some = number_positive e in
    passed_on c.from_residual.result e c.from_residual.ensures
    ∙ first-refused (problem_refusal p) (second_refusal p.n other) (number e) c.in_err-check_problem.ensures (λ z. omega (arith, some, z))

pub returns-then-checked_alike : goal.returns-then-checked_alike
returns-then-checked_alike c =
    let p = problem_of c.args.first.now in
    let other = problem_of c.args.second.now in
    let first : 0 ≡ problem_refusal p = c.in_ok-check_problem.ensures in
    let second : 0 ≡ problem_refusal other =
    unchecked p other c.layouts_agree-same.result c.checked_alike.result 0 c.layouts_agree-same.ensures c.checked_alike.ensures c.if-checked_alike.true first refl in
    next-given (problem_refusal p) (second_refusal p.n other) 0 _ first refl
    (next-given (problem_refusal other) (cond (eqb p.n other.n) 0 17) 0 _ second refl c.compare_unknowns.ensures)

pub returns : goal.returns
returns c =
    let p = problem_of c.args.first.now in
    next-given (problem_refusal p) (second_refusal p.n (problem_of c.args.second.now)) 0 _ c.in_ok-check_problem.ensures refl c.check_second.ensures
