use Prim.Native.Nat.{ℕ, ◌-◌, ◌*◌, ◌<◌}
use native.Mathlib.Omega.{arith}
use mathlib.Core.Path.{◌≡◌, refl, sym, ap, ap₂, subst, ◌∙◌}
use mathlib.Core.Bool.{Bool, cond}
use mathlib.Core.List.{List}
use lib.ListN.{length, get_or, replicate}
use lib.Dec.{lit≤}
use lib.Ieee.{Float}
use Rattle.layout.specs.Problems.Problem.{Problem, compact, with_b}
use Rattle.layout.specs.Checks.{Checked, layout, covered_rows, check9, check10, route_checks, first_failing, refusal}
use Rattle.layout.specs.Calls.Answers.{or_else, problem_refusal}
use Rattle.layout.specs.Calls.Cut.{sizes}
use Rattle.layout.specs.Calls.CutMany.{with_side}
use Rattle.layout.proofs.Checks.Accepted.{problem_checked}
use Rattle.constants.specs.Refusals.{number, refusal_of}
use Rattle.constants.proofs.Answers.{passed_on, number_positive}
use Rattle.problemdata.specs.Tables.{problem_of, parts_of}
use Rattle.check_problem.specs.Counted.{Counted}
use Rattle.check_covered.specs.declared.Covered.{Covered}
use Rattle.check_covered.specs.Covered.{entries_right, sides_on}
use Rattle.chordal_info.specs.Sizes.{entries_kept, Fitting, rows_fit}
use Rattle.chordal_info.proofs.Routes.{counted_rows}
use Rattle.decomp.proofs.Refusals.{counts_fit, sizes-written}
use Rattle.side_numbers.specs.Order.{sides_order}
use Rattle.side_numbers.proofs.Laws.{sides_passed}
use Rattle.side_refusals.proofs.Laws.{tables-few, rows-below}
use Rattle.side_refusals.proofs.Many.{nine_ten, further_covers, sides_few, stopped_early, stopped_late, accepted-first, by-others}
use Rattle.side_refusals.proofs.refuse_sides.Goals as goal
use Rattle.side_refusals.proofs.refuse_sides.Goals.{After-count_problem-counted, In_ok-d}

-- the problem with the whole list of sides as b, and the problem with the first side as b
abbrev given : After-count_problem-counted → Problem
given c = with_b (problem_of c.args.problem.now) c.args.sides.now

abbrev whole : In_ok-d → Problem
whole k = with_b (problem_of k.args.problem.now) k.args.sides.now

abbrev single : In_ok-d → Problem
single k = with_side (whole k) k.args.sides.now 0

-- the number of checks 1 to 7
ordered : (c : After-count_problem-counted) → let a = c.args in
    sides_order (refusal_of c.count_problem-counted.result) a.problem.now.m a.count (length a.sides.now)
    ≡ sides_order (problem_refusal (with_side (given c) a.sides.now 0)) a.problem.now.m a.count (length a.sides.now)
ordered c =
    let a = c.args in
    ap (λ (r : ℕ). sides_order r a.problem.now.m a.count (length a.sides.now))
    (c.count_problem-counted.ensures.refusal_value ∙ ap (λ (b : List Float). problem_refusal (with_b (given c) b)) c.requires.2)

pub returns-in_err-d-clause-refusal_value : goal.returns-in_err-d-clause-refusal_value
returns-in_err-d-clause-refusal_value c =
    let a = c.args in
    let k = (goal.at.returns-in_err-d-clause-refusal_value c).After-count_problem-counted in
    let e = c.in_err-d.field-0.0 in
    let some = number_positive e in
    passed_on c.from_residual.result e c.from_residual.ensures
    ∙ stopped_early (given k) a.count a.sides.now c.requires.0 c.requires.1 a.rooms.now (number e) (c.in_err-d.ensures.refusal_value ∙ ordered k) (λ z. omega (arith, some, z))

-- checks 1 to 7 have passed
passed : (c : In_ok-d) → let a = c.args in sides_order (problem_refusal (single c)) a.problem.now.m a.count (length a.sides.now) ≡ 0
passed c =
    let a = c.args in
    sym (c.in_ok-d.ensures.refusal_value
    ∙ ap (λ (r : ℕ). sides_order r a.problem.now.m a.count (length a.sides.now))
    (c.count_problem-counted.ensures.refusal_value ∙ ap (λ (b : List Float). problem_refusal (with_b (whole c) b)) c.requires.2))

both : (c : In_ok-d) → let a = c.args in (problem_refusal (single c) ≡ 0) × (length a.sides.now ≡ a.count * a.problem.now.m)
both c = let a = c.args in sides_passed (problem_refusal (single c)) a.problem.now.m a.count (length a.sides.now) (passed c)

checked : (c : In_ok-d) → Checked (single c)
checked c = problem_checked (single c) (both c).0

counts : (c : In_ok-d) → Counted (parts_of c.args.problem.now) c.in_ok-d.d
counts c = rw (← c.in_ok-d.ensures.kept refl) at c.count_problem-counted.ensures.counts

pub sides_right-c-requires : goal.sides_right-c-requires
sides_right-c-requires c =
    let k = (goal.at.sides_right-c-requires c).In_ok-d in
    let w = checked k in record { sound = w.sound; t = (rows-below (single k) w, ap length c.requires.2 ∙ w.length_b, omega (arith, (both k).1)) }

-- the number of checks 9 and 10 on the first side
abbrev later : In_ok-d → ℕ
later k = first_failing (route_checks compact (single k))

answered : (k : In_ok-d) (c : Covered) (ten : ℕ) → let p = problem_of k.args.problem.now in
    c.first ≡ entries_right p.m p.A.rows p.b (layout p)
    → ten ≡ cond (rows_fit compact p.m k.in_ok-d.d.rows k.in_ok-d.d.overlaps) 0 10
    → or_else (cond c.first 0 9) ten ≡ later k
answered k c ten e h =
    let p = single k in
    let d = k.in_ok-d.d in
    let g = counts k in
    ap₂ or_else (ap (λ (t : Bool). cond t 0 9) (e ∙ ap (λ (b : List Float). entries_right p.m p.A.rows b (layout p)) k.requires.2))
    (h ∙ counted_rows compact p.m (layout p) d.rows d.overlaps (g.0, g.1))
    ∙ nine_ten (check9 compact p) (check10 compact p.m (layout p))

-- the first side is accepted
ok : (k : In_ok-d) → 0 ≡ later k → refusal compact (single k) ≡ 0
ok k e = accepted-first (whole k) k.args.count k.args.sides.now k.requires.0 k.requires.1 (passed k) 0 e refl

fit : (k : In_ok-d) → 0 ≡ later k → let p = single k in
    Fitting compact p.n p.m (entries_kept compact p.n p.A.starts p.A.rows) k.in_ok-d.d.rows k.in_ok-d.d.overlaps k.in_ok-d.d.cones
fit k e =
    let d = k.in_ok-d.d in
    let g = counts k in
    counts_fit compact (single k) (ok k e) d.rows d.overlaps d.cones g.0 g.1 g.2

pub returns-in_err-refuse_first-clause-refusal_value : goal.returns-in_err-refuse_first-clause-refusal_value
returns-in_err-refuse_first-clause-refusal_value c =
    let a = c.args in
    let k = (goal.at.returns-in_err-refuse_first-clause-refusal_value c).In_ok-d in
    let r = c.from_residual-in_err-refuse_first in
    let e = c.in_err-refuse_first.field-0.0 in
    let some = number_positive e in
    passed_on r.result e r.ensures
    ∙ stopped_late (whole k) a.count a.sides.now c.requires.0 c.requires.1 (passed k) a.rooms.now (number e)
    (c.in_err-refuse_first.ensures ∙ answered k c.sides_right-c.result _ c.sides_right-c.ensures.first_value c.rows_refusal-ten.ensures) (λ z. omega (arith, some, z))

pub cut_needs-requires-clause-tables_few : goal.cut_needs-requires-clause-tables_few
cut_needs-requires-clause-tables_few c =
    let k = (goal.at.cut_needs-requires-clause-tables_few c).In_ok-d in
    tables-few (single k) (checked k)

pub cut_needs-requires-clause-fitting : goal.cut_needs-requires-clause-fitting
cut_needs-requires-clause-fitting c =
    let k = (goal.at.cut_needs-requires-clause-fitting c).In_ok-d in
    fit k (c.in_ok-refuse_first.ensures ∙ answered k c.sides_right-c.result _ c.sides_right-c.ensures.first_value c.rows_refusal-ten.ensures)

pub returns-in_err-refuse_further-clause-refusal_value : goal.returns-in_err-refuse_further-clause-refusal_value
returns-in_err-refuse_further-clause-refusal_value c =
    let a = c.args in
    let k = (goal.at.returns-in_err-refuse_further-clause-refusal_value c).In_ok-d in
    let r = c.from_residual-in_err-refuse_further in
    let d = c.in_ok-d.d in
    let g = counts k in
    let e : 0 ≡ later k = c.in_ok-refuse_first.ensures ∙ answered k c.sides_right-c.result _ c.sides_right-c.ensures.first_value c.rows_refusal-ten.ensures in
    let n : c.cut_needs.new.out ≡ sizes compact (single k) = sizes-written compact (single k) (ok k e) d.rows d.overlaps d.cones g.0 g.1 g.2 (replicate 11 0) c.cut_needs.ensures in
    passed_on r.result c.in_err-refuse_further.field-0.0 r.ensures
    ∙ (c.in_err-refuse_further.ensures
    ∙ ap₂ or_else (ap (λ (t : Bool). cond t 0 9) (c.sides_right-c.ensures.further_value ∙ further_covers (whole k) a.count a.sides.now)) c.check_sides_rooms-eleven.ensures
    ∙ by-others (whole k) a.count a.sides.now c.requires.0 c.requires.1 (passed k) 0 e refl c.cut_needs.new.out a.rooms.now n)

pub returns-clause-refusal_value : goal.returns-clause-refusal_value
returns-clause-refusal_value c =
    let a = c.args in
    let k = (goal.at.returns-clause-refusal_value c).In_ok-d in
    let d = c.in_ok-d.d in
    let g = counts k in
    let e : 0 ≡ later k = c.in_ok-refuse_first.ensures ∙ answered k c.sides_right-c.result _ c.sides_right-c.ensures.first_value c.rows_refusal-ten.ensures in
    let n : c.cut_needs.new.out ≡ sizes compact (single k) = sizes-written compact (single k) (ok k e) d.rows d.overlaps d.cones g.0 g.1 g.2 (replicate 11 0) c.cut_needs.ensures in
    c.in_ok-refuse_further.ensures
    ∙ ap₂ or_else (ap (λ (t : Bool). cond t 0 9) (c.sides_right-c.ensures.further_value ∙ further_covers (whole k) a.count a.sides.now)) c.check_sides_rooms-eleven.ensures
    ∙ by-others (whole k) a.count a.sides.now c.requires.0 c.requires.1 (passed k) 0 e refl c.cut_needs.new.out a.rooms.now n
