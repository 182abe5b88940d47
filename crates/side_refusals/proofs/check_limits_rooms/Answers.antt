use mathlib.Core.Path.{sym, ap, ◌∙◌}
use mathlib.Core.Bool.{Bool, cond}
use lib.ListN.{get_or}
use borrow.Author.Tests.{le-leb, lt-leb}
use Rattle.side_numbers.proofs.Laws.{another_room}
use Rattle.side_refusals.proofs.check_limits_rooms.Goals as goal

pub returns-then-high_room-needs : goal.returns-then-high_room-needs
returns-then-high_room-needs c =
    let a = c.args in
    let ks = a.needs.now in
    sym (ap (λ (t : Bool). cond t 0 11) (another_room (get_or ks 7 0) a.high_room ks a.rooms.now c.requires.0 c.requires.1)
    ∙ rw (lt-leb (get_or ks 7 0) a.high_room c.if-high_room-needs.true))

pub returns : goal.returns
returns c =
    let a = c.args in
    let ks = a.needs.now in
    c.check_rooms.ensures
    ∙ sym (ap (λ (t : Bool). cond t 0 11) (another_room (get_or ks 7 0) a.high_room ks a.rooms.now c.requires.0 c.requires.1)
    ∙ rw (le-leb (get_or ks 7 0) a.high_room c.if-high_room-needs.false))
