use native.Mathlib.Omega.{arith}
use mathlib.Core.Path.{◌≡◌, sym, ◌∙◌}
use Rattle.layout.specs.Problems.Problem.{Problem}
use Rattle.layout.specs.Calls.Cut.{Augmented, lengths, outputs}
use Rattle.layout.specs.Calls.Answers.{route_of}
use Rattle.layout.proofs.Promises.{cut-refused, Taken, taken}
use Rattle.constants.specs.Refusals.{number, refusal_of}
use Rattle.constants.proofs.Answers.{passed_on, number_positive}
use Rattle.problemdata.specs.Tables.{problem_of}
use Rattle.cut_laws.proofs.Rooms.{objective-fits, constrained-fits, map-fits, objective-cut, constrained-cut, map-cut}
use Rattle.cut_on_route.proofs.cut.Goals as goal
use Rattle.cut_on_route.proofs.cut.Goals.{Start}

abbrev given : Start → Problem
given s = problem_of s.args.problem.now

-- the outputs as passed
abbrev lent : Start → Augmented
lent s =
    let a = s.args in
    outputs a.p_starts_out.now a.p_rows_out.now a.p_values_out.now a.q_out.now a.a_starts_out.now a.a_rows_out.now
    a.a_values_out.now a.b_out.now a.cones_out.now a.alphas_out.now a.map_out.now

-- the problem is accepted, and the outputs are long enough
abbrev Accepted : Start → Type 0
Accepted s = Taken (route_of s.args.route) (given s) (lengths (lent s))

pub returns-in_err-c : goal.returns-in_err-c
returns-in_err-c c =
    let s = (goal.at.returns-in_err-c c).Start in
    let e = c.in_err-c.field-0.0 in
    let some = number_positive e in
    let r = c.from_residual.result in
    let same = passed_on r e c.from_residual.ensures in
    cut-refused (refusal_of r) (λ z. omega (arith, some, same, z)) s.args.route (given s) (lent s) (same ∙ c.in_err-c.ensures.refusal_value)

pub write_objective-requires : goal.write_objective-requires
write_objective-requires c =
    let s = (goal.at.write_objective-requires c).Start in
    let ok : Accepted s = (taken s.args.route (given s) (lengths (lent s)) (sym c.in_ok-c.ensures.refusal_value)).1 in
    objective-fits (given s) (lent s) (route_of s.args.route) ok c.in_ok-c.c.columns c.in_ok-c.ensures.adds.1

pub write_constraints-requires : goal.write_constraints-requires
write_constraints-requires c =
    let s = (goal.at.write_constraints-requires c).Start in
    let r = route_of s.args.route in
    let n = c.in_ok-c.c in
    let ok : Accepted s = (taken s.args.route (given s) (lengths (lent s)) (sym c.in_ok-c.ensures.refusal_value)).1 in
    let adds = c.in_ok-c.ensures.adds in
    (constrained-fits (given s) (lent s) r ok n.columns adds.1, adds.0, map-fits (given s) (lent s) r ok n.columns adds.1)

pub returns : goal.returns
returns c =
    let s = (goal.at.returns c).Start in
    let p = given s in
    let r = route_of s.args.route in
    let w = c.write_constraints.ensures in record {
      number = c.in_ok-c.ensures.refusal_value;
      tables = record {
        objective = objective-cut p r c.in_ok-c.c.columns c.in_ok-c.ensures.adds.1 c.write_objective.ensures;
        constrained = constrained-cut p r w.0;
        map = map-cut p r s.args.map_out.now w.1;
      };
    }
