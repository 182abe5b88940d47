use native.Mathlib.Nat.{div-le_self, div-mul-le_self, lt_of_mul-lt-mul_right}
use Prim.Native.Nat.{◌+◌, ◌-◌, ◌*◌, ◌/◌, ◌≤◌, ◌<◌}
use mathlib.Core.Path.{◌≡◌, sym, ap, ◌∙◌}
use lib.ListN.{length, get_or, drop, get_or-eq_default}
use Rattle.layout.specs.Problems.Patterns.{no_clique, members, read_clique}
use Rattle.supernode_tree.specs.Reads.{value_or, cliques_from}
use Rattle.supernode_tree.proofs.Many.{many-length}
use Rattle.supernode_tree.proofs.Cliques.{first-whole, members-part}
use Rattle.supernode_tree.proofs.Offsets.{after, whole_front, after-whole, after_more, after-clique}
use native.Mathlib.Omega.{arith}
use Rattle.supernode_tree.proofs.members_by.Statement.{statement}
use Rattle.supernode_tree.proofs.members_by.Tie as tie

-- the offset used is that of clique c or of one before it
passed_le : (c : tie.Else-count-c) → let s = c.before.before.before in s.args.c / s.args.step * s.args.step ≤ s.args.c
passed_le c = let s = c.before.before.before in div-mul-le_self s.args.c s.args.step

-- and that clique is one of the pattern's
passed_less : (c : tie.Else-count-c) → let s = c.before.before.before in s.args.c / s.args.step * s.args.step < s.args.count
passed_less c = omega (arith, passed_le c)

offset-inside : (c : tie.Else-count-c) → let s = c.before.before.before in s.args.c / s.args.step < length s.args.offsets.now
offset-inside c = let s = c.before.before.before in lt_of_mul-lt-mul_right s.args.step (omega (arith, passed_le c))

returns : tie.Need-returns-then-count-c
returns c =
    let s = c.before.before.before in
    let cs = cliques_from s.args.words.now s.args.first s.args.count in
    let l : length cs ≡ s.args.count = many-length read_clique s.args.count (drop s.args.first s.args.words.now) s.requires.0 in
    (ap members (sym (get_or-eq_default cs no_clique {n = s.args.c} (omega arith))), omega arith, omega arith)

div-i : tie.Need-nonzero_div-i
div-i c = omega arith

cast-cliques-next : tie.Need-overflow_cast-i
cast-cliques-next c = omega (arith, div-le_self c.args.c c.args.step)

mul-cliques-next : tie.Need-offset_bounds-offsets-i
mul-cliques-next c = omega (arith, offset-inside c)

shared-slice-read-cliques-next : tie.Need-bounds-offsets-i
shared-slice-read-cliques-next c = offset-inside c.before

mul-cliques-next-2 : tie.Need-overflow_mul-i
mul-cliques-next-2 c = omega (arith, passed_le c.before)

sub-cliques-next : tie.Need-overflow_sub-c
sub-cliques-next c = passed_le c.before

cliques-next-requires : tie.Need-cliques_next-at-requires
cliques-next-requires c κs =
    let e = c.before in
    let s = e.before.before.before in
    let i = s.args.c / s.args.step in
    let at = get_or s.args.offsets.now i 0 in
    whole_front s.args.words.now at (s.args.c - i * s.args.step) (s.args.count - i * s.args.step) (omega (arith, passed_le e))
    (after-whole s.args.words.now s.args.first s.args.count s.requires.0 (i * s.args.step) at (omega (arith, passed_less e))
    (s.requires.1.1 i (passed_less e)))

-- the offset reached is that of clique c
found : (c : tie.After-cliques_next-at) → let s = c.before.before.before.before.before in
    drop c.cliques_next-at.result s.args.words.now ≡ after s.args.words.now s.args.first s.args.c
found c =
    let e = c.before.before in
    let s = e.before.before.before in
    let ws = s.args.words.now in
    let i = s.args.c / s.args.step in
    let q : i * s.args.step + (s.args.c - i * s.args.step) ≡ s.args.c = omega (arith, passed_le e) in
    rw q at (after_more ws s.args.first s.args.count s.requires.0 (i * s.args.step) (get_or s.args.offsets.now i 0) (omega (arith, passed_less e))
    (s.requires.1.1 i (passed_less e)) (s.args.c - i * s.args.step) c.cliques_next-at.result (omega (arith, passed_le e)) c.cliques_next-at.ensures)

-- clique c is one of the pattern's
less : (c : tie.After-cliques_next-at) → let s = c.before.before.before.before.before in s.args.c < s.args.count
less c = c.if-count-c.false

here-requires : tie.Need-here-q-requires
here-requires c κs =
    let s = c.before.before.before.before.before in
    let ws = s.args.words.now in
    first-whole ws c.cliques_next-at.result (s.args.count - s.args.c) (omega arith)
    (after-whole ws s.args.first s.args.count s.requires.0 s.args.c c.cliques_next-at.result (omega arith) (found c))

returns-2 : tie.Need-returns
returns-2 c =
    let f = c.before in
    let s = f.before.before.before.before.before in
    let ws = s.args.words.now in
    let q = c.here-q.result in
    let at = f.cliques_next-at.result in (
      members-part ws at q c.here-q.ensures.1
          ∙ ap members (ap (value_or no_clique) (c.here-q.ensures.0 ∙ after-clique ws s.args.first s.args.count s.requires.0 s.args.c at (less f) (found f))),
      omega (arith, c.here-q.ensures.1),
      c.here-q.ensures.1.3,
    )

pub members_by_spec : {M : Type 1} → statement M
members_by_spec =
    tie.close
    (tie.spec
    returns
    div-i
    cast-cliques-next
    mul-cliques-next
    shared-slice-read-cliques-next
    mul-cliques-next-2
    sub-cliques-next
    cliques-next-requires
    here-requires
    returns-2)
