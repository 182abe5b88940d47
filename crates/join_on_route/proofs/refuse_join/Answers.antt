use Prim.Native.Nat.{ℕ}
use native.Mathlib.Omega.{arith}
use mathlib.Core.Path.{◌≡◌, refl, sym, ap, ◌∙◌}
use mathlib.Core.Bool.{Bool, cond}
use mathlib.Core.List.{List, [], ◌∷◌}
use Rattle.layout.specs.Problems.Problem.{Route}
use Rattle.layout.specs.Calls.Answers.{route_of}
use Rattle.layout.specs.Calls.Join.{joined_parts, map_right}
use Rattle.layout.proofs.Checks.Routes.{route_standard, route_compact}
use Rattle.constants.specs.Refusals.{number}
use Rattle.constants.proofs.Answers.{passed_on, number_positive}
use Rattle.check_problem.proofs.Checked.{joined-sound}
use Rattle.chordal_info.specs.Routes.{Counted}
use Rattle.join_on_route.specs.Fits.{refusal_by}
use Rattle.join_on_route.proofs.Order.{counted_few, refused_early, counted_rows-few, refused_counted, by_map_lem}
use Rattle.join_on_route.proofs.refuse_join.Goals as goal
use Rattle.join_on_route.proofs.refuse_join.Goals.{Start, In_ok-c, In_ok-refuse_counted}

abbrev rooms : Start → List ℕ
rooms s = let a = s.args in a.x_room ∷ a.s_room ∷ a.z_room ∷ a.scalars_room ∷ []

counted : (c : In_ok-c) → Counted (joined_parts c.args.cones.now c.args.count c.args.words.now) c.in_ok-c.c.rows c.in_ok-c.c.overlaps
counted c = let g = c.in_ok-c.ensures.counts in (g.0, g.1)

pub returns-in_err-c : goal.returns-in_err-c
returns-in_err-c c =
    let s = (goal.at.returns-in_err-c c).Start in
    let a = c.args in
    let e = c.in_err-c.field-0.0 in
    let some = number_positive e in
    passed_on c.from_residual.result e c.from_residual.ensures
    ∙ refused_early (route_of a.route) a.n a.m a.cones.now a.count a.words.now a.x a.s a.z a.entries.now (rooms s)
    (number e) c.in_err-c.ensures.refusal_value (λ z. omega (arith, some, z))

pub refuse_counted-requires : goal.refuse_counted-requires
refuse_counted-requires c =
    let a = c.args in
    counted_few (route_of a.route) a.n a.m c.in_ok-c.c.rows c.in_ok-c.c.overlaps (joined_parts a.cones.now a.count a.words.now)
    (counted (goal.at.refuse_counted-requires c).In_ok-c)

pub returns-in_err-refuse_counted : goal.returns-in_err-refuse_counted
returns-in_err-refuse_counted c =
    let at = goal.at.returns-in_err-refuse_counted c in
    let a = c.args in
    let e = c.in_err-refuse_counted.field-0.0 in
    let r = c.from_residual-in_err-refuse_counted in
    let some = number_positive e in
    passed_on r.result e r.ensures
    ∙ refused_counted (route_of a.route) a.n a.m a.cones.now a.count a.words.now a.x a.s a.z a.entries.now (rooms at.Start)
    c.in_ok-c.c.rows c.in_ok-c.c.overlaps (counted at.In_ok-c) (sym c.in_ok-c.ensures.refusal_value) (number e) c.in_err-refuse_counted.ensures (λ z. omega (arith, some, z))

-- where checks 10 to 12 pass apart from the map, the map decides the number
decided : (c : In_ok-refuse_counted) → (route : Route) → route_of c.args.route ≡ route
    → let a = c.args in
    refusal_by (route_of a.route) a.n a.m a.cones.now a.count a.words.now a.x a.s a.z a.entries.now (a.x_room ∷ a.s_room ∷ a.z_room ∷ a.scalars_room ∷ [])
    ≡ cond (map_right route (joined_parts a.cones.now a.count a.words.now) a.entries.now) 0 12
decided c route f =
    let a = c.args in
    let g = c.in_ok-c.ensures.counts in
    by_map_lem (route_of a.route) a.n a.m a.cones.now a.count a.words.now a.x a.s a.z a.entries.now (a.x_room ∷ a.s_room ∷ a.z_room ∷ a.scalars_room ∷ [])
    c.in_ok-c.c.rows c.in_ok-c.c.overlaps (g.0, g.1) (sym c.in_ok-c.ensures.refusal_value) 0 c.in_ok-refuse_counted.ensures refl
    ∙ ap (λ (rt : Route). cond (map_right rt (joined_parts a.cones.now a.count a.words.now) a.entries.now) 0 12) f

pub returns-then-route-eq-STANDARD : goal.returns-then-route-eq-STANDARD
returns-then-route-eq-STANDARD c =
    sym (decided (goal.at.returns-then-route-eq-STANDARD c).In_ok-refuse_counted _ (route_standard _ c.if-route-eq-STANDARD.true))

pub map_right-requires : goal.map_right-requires
map_right-requires c =
    let at = goal.at.map_right-requires c in
    let a = c.args in
    let seven = sym c.in_ok-c.ensures.refusal_value in (
      joined-sound a.n a.m a.cones.now a.count a.words.now seven,
      counted_rows-few (route_of a.route) a.n a.m a.cones.now a.count a.words.now a.x a.s a.z a.entries.now (rooms at.Start)
          c.in_ok-c.c.rows c.in_ok-c.c.overlaps (counted at.In_ok-c) seven 0 c.in_ok-refuse_counted.ensures refl,
    )

pub returns-then-map_right : goal.returns-then-map_right
returns-then-map_right c =
    let k = (goal.at.returns-then-map_right c).In_ok-refuse_counted in
    sym (decided k _ (route_compact _ c.if-route-eq-STANDARD.false) ∙ ap (λ (t : Bool). cond t 0 12) (sym c.map_right.ensures ∙ c.if-map_right.true))

pub returns : goal.returns
returns c =
    let k = (goal.at.returns c).In_ok-refuse_counted in
    sym (decided k _ (route_compact _ c.if-route-eq-STANDARD.false) ∙ ap (λ (t : Bool). cond t 0 12) (sym c.map_right.ensures ∙ c.if-map_right.false))
