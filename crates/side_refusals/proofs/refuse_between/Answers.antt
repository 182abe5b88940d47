use Prim.Native.Nat.{ℕ, ◌<◌}
use native.Mathlib.Omega.{arith}
use mathlib.Core.Path.{◌≡◌, refl, sym, ap, ap₂, subst, ◌∙◌}
use mathlib.Core.Bool.{Bool, cond, ◌&&◌}
use mathlib.Core.List.{List, [], ◌∷◌}
use lib.ListN.{length, replicate}
use lib.Dec.{lit≤}
use Rattle.layout.specs.Problems.Problem.{Problem, compact}
use Rattle.layout.specs.Checks.{Checked, layout, covered_rows, check9, check10, check, first_failing, refusal}
use Rattle.layout.specs.Calls.Answers.{or_else, problem_refusal}
use Rattle.layout.specs.Calls.Cut.{sizes}
use Rattle.layout.specs.Calls.CutBetween.{limits_failing}
use Rattle.layout.proofs.Columns.OtherSide.{covers}
use Rattle.layout.proofs.Theorems.Between.{limits_iff}
use Rattle.layout.proofs.Checks.Accepted.{problem_checked}
use Rattle.constants.specs.Refusals.{number, refusal_of}
use Rattle.constants.proofs.Answers.{passed_on, number_positive}
use Rattle.problemdata.specs.Tables.{problem_of, parts_of}
use Rattle.check_problem.specs.Counted.{Counted}
use Rattle.check_covered.specs.declared.Covered.{Covered}
use Rattle.check_covered.specs.Covered.{sides_on}
use Rattle.chordal_info.specs.Sizes.{rows_fit}
use Rattle.chordal_info.proofs.Routes.{counted_rows}
use Rattle.decomp.proofs.Refusals.{counts_fit, sizes-written}
use Rattle.side_numbers.specs.Order.{with_another, limits_order}
use Rattle.side_numbers.proofs.Laws.{limits_passed}
use Rattle.side_refusals.proofs.Laws.{tables-few, rows-below}
use Rattle.side_refusals.proofs.Limits.{nines, only_covers, stopped_early, stopped_late, accepted-limits, by-rooms}
use Rattle.side_refusals.proofs.refuse_between.Goals as goal
use Rattle.side_refusals.proofs.refuse_between.Goals.{After-count_problem-counted, In_ok-d}

-- the number of checks 1 to 7 and 16
ordered : (c : After-count_problem-counted) → let p = problem_of c.args.problem.now in
    limits_order (refusal_of c.count_problem-counted.result) p.m p.b c.args.high.now ≡ limits_order (problem_refusal p) p.m p.b c.args.high.now
ordered c =
    let p = problem_of c.args.problem.now in
    ap (λ (r : ℕ). limits_order r p.m p.b c.args.high.now) c.count_problem-counted.ensures.refusal_value

pub returns-in_err-d-clause-refusal_value : goal.returns-in_err-d-clause-refusal_value
returns-in_err-d-clause-refusal_value c =
    let a = c.args in
    let k = (goal.at.returns-in_err-d-clause-refusal_value c).After-count_problem-counted in
    let e = c.in_err-d.field-0.0 in
    let some = number_positive e in
    passed_on c.from_residual.result e c.from_residual.ensures
    ∙ stopped_early (problem_of a.problem.now) a.problem.now.b.now a.high.now (with_another a.high_room a.rooms.now) (number e)
    (c.in_err-d.ensures.refusal_value ∙ ordered k) (λ z. omega (arith, some, z))

-- checks 1 to 7 and 16 have passed
passed : (c : In_ok-d) → let p = problem_of c.args.problem.now in limits_order (problem_refusal p) p.m p.b c.args.high.now ≡ 0
passed c =
    let p = problem_of c.args.problem.now in
    sym (c.in_ok-d.ensures.refusal_value ∙ ap (λ (r : ℕ). limits_order r p.m p.b c.args.high.now) c.count_problem-counted.ensures.refusal_value)

both : (c : In_ok-d) → let p = problem_of c.args.problem.now in (problem_refusal p ≡ 0) × (length c.args.high.now ≡ p.m)
both c = let p = problem_of c.args.problem.now in limits_passed (problem_refusal p) p.m p.b c.args.high.now (passed c)

checked : (c : In_ok-d) → Checked (problem_of c.args.problem.now)
checked c = problem_checked (problem_of c.args.problem.now) (both c).0

counts : (c : In_ok-d) → Counted (parts_of c.args.problem.now) c.in_ok-d.d
counts c = rw (← c.in_ok-d.ensures.kept refl) at c.count_problem-counted.ensures.counts

pub sides_right-c-requires : goal.sides_right-c-requires
sides_right-c-requires c =
    let k = (goal.at.sides_right-c-requires c).In_ok-d in
    let p = problem_of c.args.problem.now in
    let w = checked k in record { sound = w.sound; t = (rows-below p w, w.length_b, omega (arith, (both k).1)) }

-- the number of checks 9 and 10
abbrev later : In_ok-d → ℕ
later k =
    let p = problem_of k.args.problem.now in
    first_failing (check 9 (check9 compact p && covers p k.args.high.now) ∷ check 10 (check10 compact p.m (layout p)) ∷ [])

answered : (k : In_ok-d) (c : Covered) (ten : ℕ) → let p = problem_of k.args.problem.now in
    c.first ≡ check9 compact p → c.further ≡ sides_on (covered_rows (layout p)) p.m 0 1 k.args.high.now
    → ten ≡ cond (rows_fit compact p.m k.in_ok-d.d.rows k.in_ok-d.d.overlaps) 0 10
    → or_else (cond c.first 0 9) (or_else (cond c.further 0 9) ten) ≡ later k
answered k c ten e f h =
    let p = problem_of k.args.problem.now in
    let high = k.args.high.now in
    let d = k.in_ok-d.d in
    let g = counts k in
    let nine : Bool → ℕ = λ t. cond t 0 9 in
    ap₂ or_else (ap nine e) (ap₂ or_else (ap nine (f ∙ only_covers p high (both k).1)) (h ∙ counted_rows compact p.m (layout p) d.rows d.overlaps (g.0, g.1)))
    ∙ nines (check9 compact p) (covers p high) (check10 compact p.m (layout p))

-- no check up to 10 fails
ok : (k : In_ok-d) → 0 ≡ later k → let p = problem_of k.args.problem.now in limits_failing p p.b k.args.high.now ≡ 0
ok k e = let p = problem_of k.args.problem.now in accepted-limits p p.b k.args.high.now (passed k) 0 e refl

accepted : (k : In_ok-d) → 0 ≡ later k → refusal compact (problem_of k.args.problem.now) ≡ 0
accepted k e = let p = problem_of k.args.problem.now in ((limits_iff p p.b k.args.high.now).0 (ok k e)).0

pub returns-in_err-refuse_limits_rows-clause-refusal_value : goal.returns-in_err-refuse_limits_rows-clause-refusal_value
returns-in_err-refuse_limits_rows-clause-refusal_value c =
    let a = c.args in
    let k = (goal.at.returns-in_err-refuse_limits_rows-clause-refusal_value c).In_ok-d in
    let r = c.from_residual-in_err-refuse_limits_rows in
    let e = c.in_err-refuse_limits_rows.field-0.0 in
    let some = number_positive e in
    let s = c.sides_right-c.ensures in
    passed_on r.result e r.ensures
    ∙ stopped_late (problem_of a.problem.now) a.problem.now.b.now a.high.now (passed k) (with_another a.high_room a.rooms.now) (number e)
    (c.in_err-refuse_limits_rows.ensures ∙ answered k c.sides_right-c.result _ s.first_value s.further_value c.rows_refusal-ten.ensures) (λ z. omega (arith, some, z))

pub cut_needs-requires-clause-tables_few : goal.cut_needs-requires-clause-tables_few
cut_needs-requires-clause-tables_few c =
    let k = (goal.at.cut_needs-requires-clause-tables_few c).In_ok-d in
    tables-few (problem_of c.args.problem.now) (checked k)

pub cut_needs-requires-clause-fitting : goal.cut_needs-requires-clause-fitting
cut_needs-requires-clause-fitting c =
    let k = (goal.at.cut_needs-requires-clause-fitting c).In_ok-d in
    let s = c.sides_right-c.ensures in
    let d = c.in_ok-d.d in
    let g = counts k in
    let e = c.in_ok-refuse_limits_rows.ensures ∙ answered k c.sides_right-c.result _ s.first_value s.further_value c.rows_refusal-ten.ensures in
    counts_fit compact (problem_of c.args.problem.now) (accepted k e) d.rows d.overlaps d.cones g.0 g.1 g.2

pub returns-in_err-check_limits_rooms-clause-refusal_value : goal.returns-in_err-check_limits_rooms-clause-refusal_value
returns-in_err-check_limits_rooms-clause-refusal_value c =
    let a = c.args in
    let p = problem_of a.problem.now in
    let k = (goal.at.returns-in_err-check_limits_rooms-clause-refusal_value c).In_ok-d in
    let r = c.from_residual-in_err-check_limits_rooms in
    let s = c.sides_right-c.ensures in
    let d = c.in_ok-d.d in
    let g = counts k in
    let e : 0 ≡ later k = c.in_ok-refuse_limits_rows.ensures ∙ answered k c.sides_right-c.result _ s.first_value s.further_value c.rows_refusal-ten.ensures in
    let n : c.cut_needs.new.out ≡ sizes compact p = sizes-written compact p (accepted k e) d.rows d.overlaps d.cones g.0 g.1 g.2 (replicate 11 0) c.cut_needs.ensures in
    passed_on r.result c.in_err-check_limits_rooms.field-0.0 r.ensures
    ∙ (c.in_err-check_limits_rooms.ensures ∙ by-rooms p p.b a.high.now (ok k e) c.cut_needs.new.out (with_another a.high_room a.rooms.now) n)

pub returns-clause-refusal_value : goal.returns-clause-refusal_value
returns-clause-refusal_value c =
    let a = c.args in
    let p = problem_of a.problem.now in
    let k = (goal.at.returns-clause-refusal_value c).In_ok-d in
    let s = c.sides_right-c.ensures in
    let d = c.in_ok-d.d in
    let g = counts k in
    let e : 0 ≡ later k = c.in_ok-refuse_limits_rows.ensures ∙ answered k c.sides_right-c.result _ s.first_value s.further_value c.rows_refusal-ten.ensures in
    let n : c.cut_needs.new.out ≡ sizes compact p = sizes-written compact p (accepted k e) d.rows d.overlaps d.cones g.0 g.1 g.2 (replicate 11 0) c.cut_needs.ensures in
    c.in_ok-check_limits_rooms.ensures ∙ by-rooms p p.b a.high.now (ok k e) c.cut_needs.new.out (with_another a.high_room a.rooms.now) n
