use native.Mathlib.Nat.{mul-one}
use mathlib.Core.Path.{ap, ◌∙◌}
use lib.ListN.{length, get_or}
use lib.Dec.{lit≤}
use Rattle.supernode_tree.proofs.Offsets.{after, after-clique}
use Rattle.supernode_tree.proofs.clique_offsets.Goals as goal

pub offsets_every-requires : goal.offsets_every-requires
offsets_every-requires c =
    record { whole = c.requires.whole; step_nonzero = (lit≤ tt, rw (mul-one (length c.args.out.now)) c.requires.count_in_bounds) }

pub shape_of-out : goal.shape_of-out
shape_of-out c = c.offsets_every.auto.out

pub returns : goal.returns
returns c =
    let ws = c.args.words.now in
    λ d l. after-clique ws c.args.first c.args.count c.requires.whole d (get_or c.offsets_every.new.out d 0) l (c.offsets_every.ensures d (rw (mul-one d) l) ∙ ap (after ws c.args.first) (mul-one d))
