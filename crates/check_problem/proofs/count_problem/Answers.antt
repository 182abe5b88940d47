use native.Mathlib.Omega.{arith}
use mathlib.Core.Path.{◌≡◌, sym, ◌∙◌}
use lib.ListN.{length, length-replicate}
use lib.Ieee.{nan}
use Rattle.layout.specs.Checks.{alphas_as_many}
use Rattle.layout.specs.Calls.Answers.{problem_refusal}
use Rattle.layout.specs.Problems.Problem.{Problem, problem}
use Rattle.layout.specs.Files.FileWords.{unvalued}
use Rattle.layout.proofs.Files.Lengths.{refusal-unvalued, alphas-lengths}
use Rattle.layout.proofs.Lists.Tests.{passed}
use Rattle.supportedcone.proofs.Records.{all_read}
use Rattle.constants.proofs.Answers.{passed_on, number_positive}
use Rattle.problemdata.specs.Tables.{problem_of}
use Rattle.check_problem.proofs.Order.{problem_order, tables_passed}
use Rattle.check_problem.proofs.count_problem.Goals as goal
use Rattle.check_problem.proofs.count_problem.Goals.{Start}

abbrev given : Start → Problem
given s =
    let p = s.args.problem.now in
    problem p.n p.m p.p.starts.now p.p.rows.now (unvalued (length p.p.values.now)) (unvalued (length p.q.now))
    p.a.starts.now p.a.rows.now (unvalued (length p.a.values.now)) (unvalued (length p.b.now))
    p.cones.now (unvalued (length p.alphas.now)) p.count p.words.now

-- the checks depend on float tables only by their lengths
by_lengths : (s : Start) → problem_refusal (problem_of s.args.problem.now) ≡ problem_refusal (given s)
by_lengths s =
    let p = s.args.problem.now in
    refusal-unvalued p.n p.m p.p.starts.now p.p.rows.now p.p.values.now p.q.now
    p.a.starts.now p.a.rows.now p.a.values.now p.b.now p.cones.now p.alphas.now p.count p.words.now

by_count : (s : Start) → alphas_as_many s.args.problem.now.cones.now (given s).alphas ≡ alphas_as_many s.args.problem.now.cones.now s.args.problem.now.alphas.now
by_count s =
    let alphas = s.args.problem.now.alphas.now in
    alphas-lengths s.args.problem.now.cones.now (unvalued (length alphas)) alphas (length-replicate (length alphas) nan)

pub returns-in_err-check_tables-clause-refusal_value : goal.returns-in_err-check_tables-clause-refusal_value
returns-in_err-check_tables-clause-refusal_value c =
    let s = (goal.at.returns-in_err-check_tables-clause-refusal_value c).Start in
    let e = c.in_err-check_tables.field-0.0 in
    let some = number_positive e in
    passed_on c.from_residual.result e c.from_residual.ensures
    ∙ (c.in_err-check_tables.ensures
    ∙ sym (by_lengths s ∙ (problem_order (given s)).0 (λ z. omega (arith, some, c.in_err-check_tables.ensures, z))))

pub alphas_as_many-requires : goal.alphas_as_many-requires
alphas_as_many-requires c =
    let p = given (goal.at.alphas_as_many-requires c).Start in
    all_read p.m p.cones (passed _ (tables_passed p.n p.m p.P p.q p.A p.b p.cones (sym c.in_ok-check_tables.ensures)).2)

pub returns-then-not-alphas_as_many-clause-refusal_value : goal.returns-then-not-alphas_as_many-clause-refusal_value
returns-then-not-alphas_as_many-clause-refusal_value c =
    let s = (goal.at.returns-then-not-alphas_as_many-clause-refusal_value c).Start in
    sym (by_lengths s ∙ (problem_order (given s)).1 (sym c.in_ok-check_tables.ensures) (by_count s ∙ sym c.alphas_as_many.ensures ∙ c.if-not-alphas_as_many.true))

pub count_patterns-requires : goal.count_patterns-requires
count_patterns-requires c =
    let p = given (goal.at.count_patterns-requires c).Start in
    tables_passed p.n p.m p.P p.q p.A p.b p.cones (sym c.in_ok-check_tables.ensures)

pub returns-clause-refusal_value : goal.returns-clause-refusal_value
returns-clause-refusal_value c =
    let s = (goal.at.returns-clause-refusal_value c).Start in
    c.count_patterns.ensures.refusal_value
    ∙ sym (by_lengths s ∙ (problem_order (given s)).2 (sym c.in_ok-check_tables.ensures) (by_count s ∙ sym c.alphas_as_many.ensures ∙ c.if-not-alphas_as_many.false))
