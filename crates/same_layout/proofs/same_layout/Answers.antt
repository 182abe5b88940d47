use native.Mathlib.Omega.{arith}
use mathlib.Core.Path.{◌≡◌, refl, ap, ◌∙◌}
use mathlib.Core.Bool.{Bool, cond}
use Rattle.layout.specs.Calls.Answers.{or_else, problem_refusal}
use Rattle.constants.specs.Refusals.{number}
use Rattle.constants.proofs.Answers.{passed_on, number_positive}
use Rattle.problemdata.specs.Tables.{problem_of}
use Rattle.same_tables.proofs.Alike.{unchecked}
use Rattle.same_layout.proofs.Agreement.{refused, no_room, answered}
use Rattle.check_problem.proofs.Order.{first-refused, next-given}
use Rattle.same_layout.proofs.same_layout.Goals as goal
use Rattle.same_layout.proofs.same_layout.Goals.{Joined-not-checked_alike, then-not-checked_alike+in_ok-check_problem-2, else-not-checked_alike}

pub returns-in_err-check_problem : goal.returns-in_err-check_problem
returns-in_err-check_problem c =
    let p = problem_of c.args.first.now in
    let q = problem_of c.args.second.now in
    let e = c.in_err-check_problem.field-0.0 in
    let some = number_positive e in
    refused p q c.args.out.now (number e)
    (first-refused (problem_refusal p) (problem_refusal q) (number e) c.in_err-check_problem.ensures (λ z. omega (arith, some, z)))
    _ (passed_on c.from_residual.result e c.from_residual.ensures) some

-- both problems pass their checks, whether the second's were made or not
both : (c : Joined-not-checked_alike) → 0 ≡ or_else (problem_refusal (problem_of c.args.first.now)) (problem_refusal (problem_of c.args.second.now))
both c =
    let p = problem_of c.args.first.now in
    let q = problem_of c.args.second.now in
    let first : 0 ≡ problem_refusal p = c.in_ok-check_problem.ensures in
    next-given (problem_refusal p) (problem_refusal q) 0 0 first refl
    (elim c.if-not-checked_alike.branch [
      | then-not-checked_alike+in_ok-check_problem-2 w ↦ w.in_ok-check_problem-2.ensures
      | else-not-checked_alike w ↦ unchecked p q c.layouts_agree-same.result c.checked_alike.result 0
          c.layouts_agree-same.ensures c.checked_alike.ensures w.if-not-checked_alike.false first refl
    ])

pub returns-then-out-lt1 : goal.returns-then-out-lt1
returns-then-out-lt1 c =
    no_room (problem_of c.args.first.now) (problem_of c.args.second.now) c.args.out.now
    (both (goal.at.returns-then-out-lt1 c).Joined-not-checked_alike) c.if-out-lt1.true

pub returns : goal.returns
returns c =
    answered (problem_of c.args.first.now) (problem_of c.args.second.now) c.args.out.now
    (both (goal.at.returns c).Joined-not-checked_alike) c.if-out-lt1.false
    c.word_of.result (c.word_of.ensures ∙ ap (λ (b : Bool). cond b 1 0) c.layouts_agree-same.ensures)
