use mathlib.Core.Path.{◌≡◌, sym, ◌∙◌}
use mathlib.Core.Bool.{Bool}
use mathlib.Core.List.{List}
use Rattle.layout.specs.Checks.{check10}
use Rattle.layout.specs.Rows.Blocks.{Part}
use Rattle.layout.specs.Calls.Answers.{route_of}
use Rattle.problemdata.specs.Tables.{parts_of}
use Rattle.chordal_info.specs.Routes.{entries_check}
use Rattle.chordal_info.proofs.Routes.{counted_rows, entries_pass, entries_fail, entries_standard, entries_compact}
use Rattle.chordal_info.proofs.check_route.Goals as goal
use Rattle.chordal_info.proofs.check_route.Goals.{Start}

abbrev here : Start → List Part
here s = parts_of s.args.problem.now

-- whether checks 9 and 10 pass
abbrev nine : Start → Bool
nine s = let p = s.args.problem.now in entries_check (route_of s.args.route) p.m p.a.rows.now p.b.now (here s)

abbrev ten : Start → Bool
ten s = check10 (route_of s.args.route) s.args.problem.now.m (here s)

pub returns-then-route-eq-STANDARD : goal.returns-then-route-eq-STANDARD
returns-then-route-eq-STANDARD c =
    let s = (goal.at.returns-then-route-eq-STANDARD c).Start in
    let p = s.args.problem.now in
    c.rows_refusal.ensures
    ∙ counted_rows (route_of c.args.route) p.m (here s) c.args.rows c.args.overlaps c.requires.counted
    ∙ sym (entries_pass (nine s) (ten s) (entries_standard c.args.route p.m p.a.rows.now p.b.now (here s) c.if-route-eq-STANDARD.true))

pub returns-then-not-entries_right : goal.returns-then-not-entries_right
returns-then-not-entries_right c =
    let s = (goal.at.returns-then-not-entries_right c).Start in
    let p = s.args.problem.now in
    let e : nine s ≡ c.entries_right.result = entries_compact c.args.route p.m p.a.rows.now p.b.now (here s) c.if-route-eq-STANDARD.false ∙ sym c.entries_right.ensures in
    sym (entries_fail (nine s) (ten s) (e ∙ c.if-not-entries_right.true))

pub returns : goal.returns
returns c =
    let s = (goal.at.returns c).Start in
    let p = s.args.problem.now in
    let e : nine s ≡ c.entries_right.result = entries_compact c.args.route p.m p.a.rows.now p.b.now (here s) c.if-route-eq-STANDARD.false ∙ sym c.entries_right.ensures in
    c.rows_refusal-2.ensures
    ∙ counted_rows (route_of c.args.route) p.m (here s) c.args.rows c.args.overlaps c.requires.counted
    ∙ sym (entries_pass (nine s) (ten s) (e ∙ c.if-not-entries_right.false))
