use native.Mathlib.Omega.{arith}
use mathlib.Core.Path.{sym, ◌∙◌}
use Rattle.layout.proofs.Checks.Accepted.{sound-cone-count}
use Rattle.constants.specs.Refusals.{number}
use Rattle.constants.proofs.Answers.{passed_on, number_positive}
use Rattle.problemdata.specs.Tables.{problem_of}
use Rattle.pool_refusals.proofs.Refusals.{both_refused, both_checked, too_large, by-room, lengths-given}
use Rattle.pool_refusals.proofs.refuse.Goals as goal

pub returns-in_err-check_both : goal.returns-in_err-check_both
returns-in_err-check_both c =
    let e = c.in_err-check_both.field-0.0 in
    let some = number_positive e in
    passed_on c.from_residual.result e c.from_residual.ensures
    ∙ both_refused (problem_of c.args.first.now) (problem_of c.args.second.now) c.args.rooms.now (number e) c.in_err-check_both.ensures (λ z. omega (arith, some, z))

pub bounded-requires : goal.bounded-requires
bounded-requires c =
    let (one, two, same) = both_checked (problem_of c.args.first.now) (problem_of c.args.second.now) c.args.rooms.now (sym c.in_ok-check_both.ensures) in
    (one.sound.few, two.sound.few, sound-cone-count one.sound, sound-cone-count two.sound)

pub returns-then-not-bounded : goal.returns-then-not-bounded
returns-then-not-bounded c =
    too_large (problem_of c.args.first.now) (problem_of c.args.second.now) c.args.rooms.now (sym c.in_ok-check_both.ensures) (sym c.bounded.ensures ∙ c.if-not-bounded.true)

pub returns : goal.returns
returns c =
    let p = problem_of c.args.first.now in
    let other = problem_of c.args.second.now in
    let passed = sym c.in_ok-check_both.ensures in
    let (one, two, same) = both_checked p other c.args.rooms.now passed in
    by-room p other c.args.rooms.now _ _ passed (sym c.bounded.ensures ∙ c.if-not-bounded.false) (lengths-given p other one two same) c.check_rooms.ensures
