use native.Mathlib.Omega.{arith}
use mathlib.Core.Path.{refl, ◌∙◌}
use mathlib.Core.Bool.{cond}
use lib.Dec.{eqb}
use Rattle.layout.specs.Calls.Answers.{problem_refusal}
use Rattle.constants.specs.Refusals.{number}
use Rattle.constants.proofs.Answers.{passed_on, number_positive}
use Rattle.problemdata.specs.Tables.{problem_of}
use Rattle.check_problem.proofs.Order.{first-refused, next-given}
use Rattle.pool_refusals.proofs.check_second.Goals as goal

pub returns-in_err-check_problem : goal.returns-in_err-check_problem
returns-in_err-check_problem c =
    let other = problem_of c.args.second.now in
    let e = c.in_err-check_problem.field-0.0 in
    let some = number_positive e in
    passed_on c.from_residual.result e c.from_residual.ensures
    ∙ first-refused (problem_refusal other) (cond (eqb c.args.n other.n) 0 17) (number e) c.in_err-check_problem.ensures (λ z. omega (arith, some, z))

pub returns : goal.returns
returns c =
    let other = problem_of c.args.second.now in
    next-given (problem_refusal other) (cond (eqb c.args.n other.n) 0 17) 0 _ c.in_ok-check_problem.ensures refl c.compare_unknowns.ensures
