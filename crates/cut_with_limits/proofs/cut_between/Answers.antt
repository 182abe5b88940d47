use Prim.Native.Nat.{ℕ}
use native.Mathlib.Omega.{arith}
use mathlib.Core.Path.{◌≡◌, refl, sym, ◌∙◌}
use Rattle.layout.specs.Problems.Problem.{Problem, compact}
use Rattle.layout.specs.Checks.{layout}
use Rattle.layout.specs.Calls.Cut.{lengths, outputs, constrained_of}
use Rattle.layout.specs.Calls.CutBetween.{limits_refusal, Limits, limits, limits_rooms}
use Rattle.layout.specs.Calls.Join.{added_count}
use Rattle.layout.proofs.Promises.{Taken}
use Rattle.constants.specs.Refusals.{number, refusal_of}
use Rattle.constants.proofs.Answers.{passed_on, number_positive}
use Rattle.problemdata.specs.Tables.{problem_of}
use Rattle.augment_standard.proofs.Constraints.{renamed, sound}
use Rattle.cut_compact.proofs.Laws.{few-rows}
use Rattle.cut_constraints.proofs.Routes.{system-fits}
use Rattle.cut_standard.specs.Fits.{ConstrainedFits}
use Rattle.cut_laws.proofs.Rooms.{only, objective-fits, constrained-fits, map-fits, objective-cut}
use Rattle.side_laws.proofs.Written.{between-refused, low_taken, both_fit, low-written, high-written}
use Rattle.cut_with_limits.proofs.cut_between.Goals as goal
use Rattle.cut_with_limits.proofs.cut_between.Goals.{Start}

abbrev given : Start → Problem
given s = problem_of s.args.problem.now

-- the outputs as passed
abbrev lent : Start → Limits
lent s =
    let a = s.args in
    limits (outputs a.p_starts_out.now a.p_rows_out.now a.p_values_out.now a.q_out.now a.a_starts_out.now a.a_rows_out.now
    a.a_values_out.now a.b_low_out.now a.cones_out.now a.alphas_out.now a.map_out.now) a.b_high_out.now

-- nothing is refused
abbrev Done : Start → Type 0
Done s = limits_refusal (given s) (given s).b s.args.high.now (limits_rooms (lent s)) ≡ 0

accepted : (s : Start) → Done s → Taken compact (given s) (lengths (lent s).cut)
accepted s done = low_taken (given s) (given s).b s.args.high.now (lent s) done

-- the outputs have room for the added rows and columns
fits : (s : Start) → Done s → (k : ℕ) → k ≡ added_count compact (layout (given s)) → ConstrainedFits compact (only (given s)) k (constrained_of (lent s).cut)
fits s done k e = constrained-fits (given s) (lent s).cut compact (accepted s done) k e

pub returns-in_err-c : goal.returns-in_err-c
returns-in_err-c c =
    let s = (goal.at.returns-in_err-c c).Start in
    let e = c.in_err-c.field-0.0 in
    let some = number_positive e in
    let r = c.from_residual.result in
    let same = passed_on r e c.from_residual.ensures in
    between-refused (refusal_of r) (λ z. omega (arith, some, same, z)) (given s) (given s).b s.args.high.now (lent s) (same ∙ c.in_err-c.ensures.refusal_value)

pub write_objective-requires : goal.write_objective-requires
write_objective-requires c =
    let s = (goal.at.write_objective-requires c).Start in
    objective-fits (given s) (lent s).cut compact (accepted s (sym c.in_ok-c.ensures.refusal_value)) c.in_ok-c.c.columns c.in_ok-c.ensures.adds.1

pub write_compact_a-requires : goal.write_compact_a-requires
write_compact_a-requires c =
    let s = (goal.at.write_compact_a-requires c).Start in
    let done = sym c.in_ok-c.ensures.refusal_value in
    let adds = c.in_ok-c.ensures.adds in record {
      fact = system-fits (fits s done c.in_ok-c.c.columns adds.1) adds.0;
      movable_sides = both_fit (given s) (given s).b s.args.high.now (lent s) done c.in_ok-c.c.rows adds.0;
    }

pub write_table-requires : goal.write_table-requires
write_table-requires c =
    let s = (goal.at.write_table-requires c).Start in
    let w = fits s (sym c.in_ok-c.ensures.refusal_value) c.in_ok-c.c.columns c.in_ok-c.ensures.adds.1 in
    record { sound = sound w.accepted; few = tt; words_in_bounds = w.cones }

pub write_table-requires-2 : goal.write_table-requires-2
write_table-requires-2 c =
    let s = (goal.at.write_table-requires-2 c).Start in
    let done = sym c.in_ok-c.ensures.refusal_value in
    let k = c.in_ok-c.c.columns in
    let adds = c.in_ok-c.ensures.adds in
    let w = fits s done k adds.1 in record {
      sound = sound w.accepted;
      few = few-rows w.accepted refl;
      words_in_bounds = map-fits (given s) (lent s).cut compact (accepted s done) k adds.1;
    }

pub returns : goal.returns
returns c =
    let s = (goal.at.returns c).Start in
    let a = s.args in
    let p = given s in
    let done = sym c.in_ok-c.ensures.refusal_value in
    let w = c.write_compact_a.ensures in record {
      number = c.in_ok-c.ensures.refusal_value;
      tables = record {
        objective = objective-cut p compact c.in_ok-c.c.columns c.in_ok-c.ensures.adds.1 c.write_objective.ensures;
        constrained = record {
          a_starts = w.0.a_starts;
          a_rows = w.0.a_rows;
          a_values = w.0.a_values;
          b = renamed a.b_low_out.now (low-written p p.b a.high.now (lent s) done) w.1;
          cones = c.write_table.ensures.out_after;
        };
        map = c.write_table-2.ensures.out_after;
      };
      b_high = renamed a.b_high_out.now (high-written p p.b a.high.now (lent s) done) w.2;
    }
