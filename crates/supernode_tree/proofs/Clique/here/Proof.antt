use Prim.Native.Nat.{◌+◌, ◌≤◌}
use native.Mathlib.Omega.{arith}
use mathlib.Core.Path.{refl}
use lib.ListN.{length, get_or}
use Rattle.supernode_tree.proofs.Words.{clique-fits, clique_made}
use Rattle.supernode_tree.proofs.Clique.here.Statement.{statement}
use Rattle.supernode_tree.proofs.Clique.here.Tie as tie

fits : (s : tie.Start) → let ws = s.args.words.now in let at = s.args.at in at + 3 + get_or ws (at + 1) 0 + get_or ws (at + 2) 0 ≤ length ws
fits s = clique-fits s.args.words.now s.args.at s.requires

mul-parent : tie.Need-offset_bounds-words-at
mul-parent c = omega (arith, fits c.before)

shared-slice-read-parent : tie.Need-bounds-words-at
shared-slice-read-parent c = omega (arith, fits c.before.before)

add-word : tie.Need-overflow_add-at
add-word c = omega (arith, fits c.before.before)

word-requires : tie.Need-word-snode_count-requires
word-requires c κs = omega (arith, fits c.before.before)

add-word-2 : tie.Need-overflow_add-at-2
add-word-2 c = omega (arith, fits c.before.before.before)

word-requires-2 : tie.Need-word-separator_count-requires
word-requires-2 c κs = omega (arith, fits c.before.before.before)

-- the clique ends inside the words, by the counts that were read
fits_read : (c : tie.After-word-separator_count) → let s = c.before.before.before.before in s.args.at + 3 + c.word-snode_count.result + c.word-separator_count.result ≤ length s.args.words.now
fits_read c = omega (arith, fits c.before.before.before.before)

add-snode : tie.Need-overflow_add-snode
add-snode c = omega (arith, fits_read c)

add-separator : tie.Need-overflow_add-separator
add-separator c = omega (arith, fits_read c)

add-t8 : tie.Need-overflow_add-result
add-t8 c = omega (arith, fits_read c)

returns : tie.Need-returns
returns c =
    let s = c.before.before.before.before in
    (clique_made s.args.words.now s.args.at _ _ c.word-snode_count.ensures.0 c.word-separator_count.ensures.0 (fits s), (refl, refl, refl, fits_read c))

pub here_spec : {M : Type 1} → statement M
here_spec =
    tie.close
    (tie.spec
    mul-parent
    shared-slice-read-parent
    add-word
    word-requires
    add-word-2
    word-requires-2
    add-snode
    add-separator
    add-t8
    returns)
