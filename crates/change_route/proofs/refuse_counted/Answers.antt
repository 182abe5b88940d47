use Prim.Native.Nat.{◌+◌, ◌≤◌}
use native.Mathlib.Omega.{arith}
use mathlib.Core.Path.{sym, ◌∙◌}
use mathlib.Core.Bool.{Bool}
use mathlib.Core.List.{[], ◌∷◌}
use Rattle.layout.specs.Problems.Problem.{standard, compact}
use Rattle.layout.specs.Calls.Answers.{roomy}
use Rattle.layout.proofs.Lists.Tests.{and_iff, leb_iff, passes}
use Rattle.chordal_info.specs.Sizes.{rows_fit}
use Rattle.join_on_route.specs.Fits.{lengths_fit}
use Rattle.change_route.specs.Counted.{counted_refusal}
use Rattle.change_route.proofs.Order.{in_order}
use Rattle.change_route.proofs.refuse_counted.Goals as goal
use Rattle.change_route.proofs.refuse_counted.Goals.{Start, Else-not-rows_right-2}

-- the four tests
module _ (s : Start) where
  abbrev few : Bool
  few = let a = s.args in rows_fit standard a.m a.rows a.overlaps

  abbrev fewer : Bool
  fewer = let a = s.args in rows_fit compact a.m a.rows a.overlaps

  abbrev room : Bool
  room = let a = s.args in roomy ((a.n + a.overlaps) ∷ a.rows ∷ a.rows ∷ 2 ∷ []) (a.x_room ∷ a.s_room ∷ a.z_room ∷ a.scalars_room ∷ [])

  abbrev fit : Bool
  fit = let a = s.args in lengths_fit standard a.n a.m a.rows a.overlaps a.x a.s a.z

counts : (c : Else-not-rows_right-2) → let a = c.args in (a.rows ≤ 262144) × (a.overlaps ≤ 131072)
counts c = simp (and_iff, leb_iff) at (passes _ (sym c.rows_right-2.ensures ∙ c.if-not-rows_right-2.false))

pub returns-then-not-rows_right : goal.returns-then-not-rows_right
unfolding counted_refusal
returns-then-not-rows_right c =
    let s = (goal.at.returns-then-not-rows_right c).Start in
    sym ((in_order (few s) (fewer s) (room s) (fit s)).0 (sym c.rows_right.ensures ∙ c.if-not-rows_right.true))

pub returns-then-not-rows_right-2 : goal.returns-then-not-rows_right-2
unfolding counted_refusal
returns-then-not-rows_right-2 c =
    let s = (goal.at.returns-then-not-rows_right-2 c).Start in
    sym ((in_order (few s) (fewer s) (room s) (fit s)).1 (sym c.rows_right.ensures ∙ c.if-not-rows_right.false) (sym c.rows_right-2.ensures ∙ c.if-not-rows_right-2.true))

pub overflow_cast-overlaps : goal.overflow_cast-overlaps
overflow_cast-overlaps c = omega (arith, counts (goal.at.overflow_cast-overlaps c).Else-not-rows_right-2)

pub overflow_add-n : goal.overflow_add-n
overflow_add-n c = omega (arith, counts (goal.at.overflow_add-n c).Else-not-rows_right-2)

pub overflow_cast-rows : goal.overflow_cast-rows
overflow_cast-rows c = omega (arith, counts (goal.at.overflow_cast-rows c).Else-not-rows_right-2)

pub returns-then-not-room_enough : goal.returns-then-not-room_enough
unfolding counted_refusal
returns-then-not-room_enough c =
    let s = (goal.at.returns-then-not-room_enough c).Start in
    sym ((in_order (few s) (fewer s) (room s) (fit s)).2 (sym c.rows_right.ensures ∙ c.if-not-rows_right.false) (sym c.rows_right-2.ensures ∙ c.if-not-rows_right-2.false)
    (sym c.room_enough.ensures ∙ c.if-not-room_enough.true))

pub lengths_fit-requires : goal.lengths_fit-requires
lengths_fit-requires c = ((counts (goal.at.lengths_fit-requires c).Else-not-rows_right-2).0, c.requires.1)

pub returns-then-not-lengths_fit : goal.returns-then-not-lengths_fit
unfolding counted_refusal
returns-then-not-lengths_fit c =
    let s = (goal.at.returns-then-not-lengths_fit c).Start in
    sym ((in_order (few s) (fewer s) (room s) (fit s)).3 (sym c.rows_right.ensures ∙ c.if-not-rows_right.false) (sym c.rows_right-2.ensures ∙ c.if-not-rows_right-2.false)
    (sym c.room_enough.ensures ∙ c.if-not-room_enough.false) (sym c.lengths_fit.ensures ∙ c.if-not-lengths_fit.true))

pub returns : goal.returns
unfolding counted_refusal
returns c =
    let s = (goal.at.returns c).Start in
    sym ((in_order (few s) (fewer s) (room s) (fit s)).4 (sym c.rows_right.ensures ∙ c.if-not-rows_right.false) (sym c.rows_right-2.ensures ∙ c.if-not-rows_right-2.false)
    (sym c.room_enough.ensures ∙ c.if-not-room_enough.false) (sym c.lengths_fit.ensures ∙ c.if-not-lengths_fit.false))
