use Prim.Native.Nat.{◌+◌, ◌≤◌}
use native.Mathlib.Omega.{arith}
use mathlib.Core.Path.{refl}
use lib.ListN.{length, get_or}
use Rattle.supernode_tree.proofs.Words.{head-fits, head_made}
use Rattle.supernode_tree.proofs.Pattern.here.Statement.{statement}
use Rattle.supernode_tree.proofs.Pattern.here.Tie as tie

fits : (s : tie.Start) → let ws = s.args.words.now in let at = s.args.at in at + 3 + get_or ws (at + 1) 0 ≤ length ws
fits s = head-fits s.args.words.now s.args.at s.requires

mul-orig-index : tie.Need-offset_bounds-words-at
mul-orig-index c = omega (arith, fits c.before)

shared-slice-read-orig-index : tie.Need-bounds-words-at
shared-slice-read-orig-index c = omega (arith, fits c.before.before)

add-word : tie.Need-overflow_add-at
add-word c = omega (arith, fits c.before.before)

word-requires : tie.Need-word-vertex_count-requires
word-requires c κs = omega (arith, fits c.before.before)

add-clique-count : tie.Need-overflow_add-clique_count
add-clique-count c = omega (arith, fits c.before.before.before)

mul-clique-count : tie.Need-offset_bounds-words-at-2
mul-clique-count c = omega (arith, fits c.before.before.before)

shared-slice-read-clique-count : tie.Need-bounds-words-at-2
shared-slice-read-clique-count c = omega (arith, fits c.before.before.before.before)

-- the head ends inside the words, by the count that was read
fits_read : (c : tie.After-word-vertex_count) → let s = c.before.before.before in s.args.at + 3 + c.word-vertex_count.result ≤ length s.args.words.now
fits_read c = omega (arith, fits c.before.before.before)

add-ordering : tie.Need-overflow_add-ordering
add-ordering c = omega (arith, fits_read c.before)

add-t7 : tie.Need-overflow_add-result
add-t7 c = omega (arith, fits_read c.before)

returns : tie.Need-returns
returns c =
    let v = c.before in
    let s = v.before.before.before in
    (head_made s.args.words.now s.args.at _ v.word-vertex_count.ensures.0 (fits s), (refl, refl, fits_read v, v.word-vertex_count.ensures.1))

pub here_spec : {M : Type 1} → statement M
here_spec =
    tie.close
    (tie.spec
    mul-orig-index
    shared-slice-read-orig-index
    add-word
    word-requires
    add-clique-count
    mul-clique-count
    shared-slice-read-clique-count
    add-ordering
    add-t7
    returns)
