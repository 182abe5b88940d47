use Prim.Native.Nat.{ℕ}
use native.Mathlib.Omega.{arith}
use mathlib.Core.Path.{sym, ◌∙◌}
use mathlib.Core.Bool.{Bool, cond}
use mathlib.Core.List.{[], ◌∷◌}
use Rattle.layout.specs.Checks.{check}
use Rattle.layout.specs.Calls.Answers.{route_of, roomy}
use Rattle.layout.proofs.Checks.Order.{passed}
use Rattle.constants.proofs.Answers.{passed_on, number_positive}
use Rattle.chordal_info.specs.Sizes.{rows_fit}
use Rattle.chordal_info.proofs.Sizes.{rows_few}
use Rattle.join_on_route.specs.Fits.{lengths_fit, counted_refusal}
use Rattle.join_on_route.proofs.Order.{join_order}
use Rattle.join_on_route.proofs.refuse_counted.Goals as goal
use Rattle.join_on_route.proofs.refuse_counted.Goals.{Start}

-- checks 10, 11, and the lengths of 12
abbrev ten : Start → ℕ
ten s = let a = s.args in cond (rows_fit (route_of a.route) a.m a.rows a.overlaps) 0 10

abbrev room : Start → Bool
room s = let a = s.args in roomy (a.n ∷ a.m ∷ a.m ∷ 2 ∷ []) (a.x_room ∷ a.s_room ∷ a.z_room ∷ a.scalars_room ∷ [])

abbrev fit : Start → Bool
fit s = let a = s.args in lengths_fit (route_of a.route) a.n a.m a.rows a.overlaps a.x a.s a.z

pub returns-in_err-rows_refusal : goal.returns-in_err-rows_refusal
unfolding counted_refusal
returns-in_err-rows_refusal c =
    let s = (goal.at.returns-in_err-rows_refusal c).Start in
    let e = c.in_err-rows_refusal.field-0.0 in
    let some = number_positive e in
    passed_on c.from_residual.result e c.from_residual.ensures
    ∙ (c.in_err-rows_refusal.ensures ∙ sym ((join_order (ten s) (room s) (fit s)).0 (λ z. omega (arith, some, c.in_err-rows_refusal.ensures, z))))

pub returns-then-not-room_enough : goal.returns-then-not-room_enough
unfolding counted_refusal
returns-then-not-room_enough c =
    let s = (goal.at.returns-then-not-room_enough c).Start in
    sym ((join_order (ten s) (room s) (fit s)).1 (sym c.in_ok-rows_refusal.ensures) (sym c.room_enough.ensures ∙ c.if-not-room_enough.true))

pub lengths_fit-requires : goal.lengths_fit-requires
lengths_fit-requires c =
    let a = c.args in
    let tenth = check 10 (rows_fit (route_of a.route) a.m a.rows a.overlaps) in
    (rows_few (route_of a.route) a.m a.rows a.overlaps (passed 10 (tenth ∷ []) tt (sym c.in_ok-rows_refusal.ensures)), c.requires)

pub returns-then-not-lengths_fit : goal.returns-then-not-lengths_fit
unfolding counted_refusal
returns-then-not-lengths_fit c =
    let s = (goal.at.returns-then-not-lengths_fit c).Start in
    sym ((join_order (ten s) (room s) (fit s)).2 (sym c.in_ok-rows_refusal.ensures) (sym c.room_enough.ensures ∙ c.if-not-room_enough.false) (sym c.lengths_fit.ensures ∙ c.if-not-lengths_fit.true))

pub returns : goal.returns
unfolding counted_refusal
returns c =
    let s = (goal.at.returns c).Start in
    sym ((join_order (ten s) (room s) (fit s)).3 (sym c.in_ok-rows_refusal.ensures) (sym c.room_enough.ensures ∙ c.if-not-room_enough.false) (sym c.lengths_fit.ensures ∙ c.if-not-lengths_fit.false))
