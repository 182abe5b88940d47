use native.Mathlib.Omega.{arith}
use mathlib.Core.Path.{sym, ◌∙◌}
use Rattle.layout.specs.Problems.Problem.{Problem, problem}
use Rattle.layout.specs.Files.FileWords.{unvalued}
use Rattle.layout.proofs.Lists.Tests.{passed}
use Rattle.supportedcone.proofs.Records.{all_read}
use Rattle.constants.proofs.Answers.{passed_on, number_positive}
use Rattle.check_problem.proofs.Order.{problem_order, tables_passed}
use Rattle.check_problem.proofs.check_lengths.Goals as goal
use Rattle.check_problem.proofs.check_lengths.Goals.{Start}

abbrev given : Start → Problem
given s =
    problem s.args.n s.args.m s.args.p_starts.now s.args.p_rows.now (unvalued s.args.p_entries) (unvalued s.args.q_count)
    s.args.a_starts.now s.args.a_rows.now (unvalued s.args.a_entries) (unvalued s.args.b_count)
    s.args.cones.now (unvalued s.args.alpha_count) s.args.count s.args.words.now

pub returns-in_err-check_tables : goal.returns-in_err-check_tables
returns-in_err-check_tables c =
    let p = given (goal.at.returns-in_err-check_tables c).Start in
    let e = c.in_err-check_tables.field-0.0 in
    let some = number_positive e in
    passed_on c.from_residual.result e c.from_residual.ensures
    ∙ (c.in_err-check_tables.ensures ∙ sym ((problem_order p).0 (λ z. omega (arith, some, c.in_err-check_tables.ensures, z))))

pub alphas_counted-requires : goal.alphas_counted-requires
alphas_counted-requires c =
    let p = given (goal.at.alphas_counted-requires c).Start in
    all_read p.m p.cones (passed _ (tables_passed p.n p.m p.P p.q p.A p.b p.cones (sym c.in_ok-check_tables.ensures)).2)

pub returns-then-not-alphas_counted : goal.returns-then-not-alphas_counted
returns-then-not-alphas_counted c =
    let p = given (goal.at.returns-then-not-alphas_counted c).Start in
    sym ((problem_order p).1 (sym c.in_ok-check_tables.ensures) (sym c.alphas_counted.ensures ∙ c.if-not-alphas_counted.true))

pub count_patterns-requires : goal.count_patterns-requires
count_patterns-requires c =
    let p = given (goal.at.count_patterns-requires c).Start in
    tables_passed p.n p.m p.P p.q p.A p.b p.cones (sym c.in_ok-check_tables.ensures)

pub returns-in_err-count_patterns : goal.returns-in_err-count_patterns
returns-in_err-count_patterns c =
    let p = given (goal.at.returns-in_err-count_patterns c).Start in
    let e = c.in_err-count_patterns.field-0.0 in
    passed_on c.from_residual-in_err-count_patterns.result e c.from_residual-in_err-count_patterns.ensures
    ∙ (c.in_err-count_patterns.ensures.refusal_value
    ∙ sym ((problem_order p).2 (sym c.in_ok-check_tables.ensures) (sym c.alphas_counted.ensures ∙ c.if-not-alphas_counted.false)))

pub returns : goal.returns
returns c =
    let p = given (goal.at.returns c).Start in
    c.in_ok-count_patterns.ensures.refusal_value
    ∙ sym ((problem_order p).2 (sym c.in_ok-check_tables.ensures) (sym c.alphas_counted.ensures ∙ c.if-not-alphas_counted.false))
