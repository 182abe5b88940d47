use mathlib.Core.Path.{sym, ap, ◌∙◌}
use mathlib.Core.Bool.{Bool, cond}
use Rattle.layout.proofs.Checks.Rooms.{room-step, room_less, room_missing, room-done}
use native.Mathlib.Omega.{arith}
use Rattle.utils.proofs.check_rooms.Goals as goal
use Rattle.utils.proofs.check_rooms.Goals.{then-rooms-i-via-then-rooms-i, then-rooms-i-via-else-rooms-i+then-rooms-i-2}

pub returns-then-rooms-i : goal.returns-then-rooms-i
returns-then-rooms-i c =
    let a = c.args in
    let i = c.loop-i.i in
    sym (ap (λ (t : Bool). cond t 0 11) (c.loop-i.invariant ∙ elim c.then-rooms-i.branch [
      | then-rooms-i-via-then-rooms-i w ↦ room_missing a.needs.now a.rooms.now i c.loop-i-test.true w.if-rooms-i.true
      | then-rooms-i-via-else-rooms-i+then-rooms-i-2 w ↦ room_less a.needs.now a.rooms.now i c.loop-i-test.true w.if-rooms-i.false w.if-rooms-i-2.true
    ]))

pub loop-i-preserved : goal.loop-i-preserved
loop-i-preserved c =
    let a = c.args in
    c.loop-i.invariant ∙ room-step a.needs.now a.rooms.now c.loop-i.i (omega arith) (omega arith) c.if-rooms-i-2.false

pub returns : goal.returns
returns c =
    let a = c.args in
    sym (ap (λ (t : Bool). cond t 0 11) (c.loop-i.invariant ∙ room-done a.needs.now a.rooms.now c.loop-i.i c.loop-i-test.false))
