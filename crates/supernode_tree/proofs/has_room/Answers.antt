use Prim.Native.Nat.{◌+◌}
use mathlib.Core.Path.{sym, ◌∙◌}
use lib.ListN.{length}
use borrow.Author.Tests.{lt-leb}
use native.Mathlib.Omega.{arith}
use Rattle.supernode_tree.proofs.Words.{room_after}
use Rattle.supernode_tree.proofs.has_room.Goals as goal

pub overflow_sub-result : goal.overflow_sub-result
overflow_sub-result c = c.if-at-words.true

pub returns-then-at-words : goal.returns-then-at-words
returns-then-at-words c = room_after c.args.at c.args.size _ c.if-at-words.true

pub returns-else-at-words : goal.returns-else-at-words
returns-else-at-words c =
    let n = length c.args.words.now in
    lt-leb c.args.at n c.if-at-words.false ∙ sym (lt-leb (c.args.at + c.args.size) n (omega arith))
