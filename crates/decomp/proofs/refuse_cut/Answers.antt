use native.Mathlib.Omega.{arith}
use mathlib.Core.Path.{refl, ◌∙◌}
use Rattle.constants.specs.Refusals.{number}
use Rattle.constants.proofs.Answers.{passed_on, number_positive}
use Rattle.problemdata.specs.Tables.{problem_of}
use Rattle.decomp.proofs.Rooms.{sizes-first, rooms-next}
use Rattle.decomp.proofs.refuse_cut.Goals as goal

pub returns-in_err-c-clause-refusal_value : goal.returns-in_err-c-clause-refusal_value
returns-in_err-c-clause-refusal_value c =
    let e = c.in_err-c.field-0.0 in
    let some = number_positive e in
    passed_on c.from_residual.result e c.from_residual.ensures
    ∙ sizes-first (problem_of c.args.problem.now) c.args.rooms.now c.args.route (number e) c.in_err-c.ensures.fact.number (λ z. omega (arith, some, z))

pub returns-in_err-check_rooms-clause-refusal_value : goal.returns-in_err-check_rooms-clause-refusal_value
returns-in_err-check_rooms-clause-refusal_value c =
    let e = c.in_err-check_rooms.field-0.0 in
    let r = c.from_residual-in_err-check_rooms in
    passed_on r.result e r.ensures
    ∙ (c.in_err-check_rooms.ensures
    ∙ rooms-next (problem_of c.args.problem.now) c.args.rooms.now c.args.route 0 _ c.in_ok-c.ensures.fact.number refl c.in_ok-c.ensures.fact.out)

pub returns-clause-refusal_value : goal.returns-clause-refusal_value
returns-clause-refusal_value c =
    c.in_ok-check_rooms.ensures
    ∙ rooms-next (problem_of c.args.problem.now) c.args.rooms.now c.args.route 0 _ c.in_ok-c.ensures.fact.number refl c.in_ok-c.ensures.fact.out
