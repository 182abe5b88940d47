use mathlib.Core.Path.{sym, ◌∙◌}
use Prim.Native.Nat.{◌+◌, ◌≤◌}
use lib.ListN.{length}
use borrow.Author.Tests.{not-true, not-false, leb-true}
use native.Mathlib.Omega.{arith}
use borrow.Author.Rules.{rules}
use Rattle.supernode_tree.proofs.Words.{head-none, head-stands}
use Rattle.supernode_tree.proofs.Pattern.stands.Statement.{statement}
use Rattle.supernode_tree.proofs.Pattern.stands.Tie as tie

has-room-requires : tie.Need-has_room-requires
has-room-requires c κs = search rules

returns : tie.Need-returns-then-not-has_room
returns c =
    let s = c.before.before.before in
    sym (head-none s.args.words.now s.args.at (sym c.has_room.ensures ∙ not-true _ c.if-not-has_room.true-raw))

-- there are three words
three : (c : tie.Else-not-has_room) → let s = c.before.before.before in s.args.at + 3 ≤ length s.args.words.now
three c = leb-true _ _ (sym c.has_room.ensures ∙ not-false _ c.if-not-has_room.false-raw)

add-has-room : tie.Need-overflow_add-at
add-has-room c = omega (arith, three c)

add-word : tie.Need-overflow_add-at-2
add-word c = omega (arith, three c)

word-requires : tie.Need-word-requires
word-requires c κs = omega (arith, three c)

has-room-requires-2 : tie.Need-has_room-requires-2
has-room-requires-2 c κs = search rules

returns-2 : tie.Need-returns
returns-2 c =
    let b = c.before in
    let e = b.before in
    let s = e.before.before.before in
    c.has_room-2.ensures ∙ head-stands s.args.words.now s.args.at _ b.word.ensures.0 (sym e.has_room.ensures ∙ not-false _ e.if-not-has_room.false-raw)

pub stands_spec : {M : Type 1} → statement M
stands_spec =
    tie.close
    (tie.spec
    has-room-requires
    returns
    add-has-room
    add-word
    word-requires
    has-room-requires-2
    returns-2)
