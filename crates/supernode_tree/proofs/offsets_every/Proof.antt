use lib.ListN.{set, length-set, length, drop}
use Rattle.supernode_tree.specs.Reads.{Whole}
use Prim.Native.Nat.{◌<◌, ◌-◌, ◌+◌, ◌*◌}
use native.Mathlib.Nat.{zero-mul}
use mathlib.Core.Path.{◌≡◌, refl, sym, ap, ◌∙◌}
use Rattle.supernode_tree.proofs.Offsets.{after, Written, written_more, written_all, more_steps, inside, whole_front, after-whole, after_more}
use native.Mathlib.Omega.{arith}
use Rattle.supernode_tree.proofs.offsets_every.Statement.{statement}
use Rattle.supernode_tree.proofs.offsets_every.Tie as tie

abbrev invariant-loop : tie.invariant-loop-left
invariant-loop words first count step out₀ at₀ left₀ i₀ out at left i =
    (length out ≡ length out₀) × (left + i * step ≡ count) × (drop at words ≡ after words first (i * step)) × Written words first step i out

abbrev decreases-loop : tie.decreases-loop-left
decreases-loop words first count step out₀ at₀ left₀ i₀ out at left i = left

-- the cliques left are complete
whole-left : (l : tie.At-loop-left invariant-loop decreases-loop) → Whole l.args.words.now l.loop-left.at l.loop-left.left
whole-left l =
    let s = l.before.before.before in
    let ws = s.args.words.now in
    let k : s.args.count - l.loop-left.i * s.args.step ≡ l.loop-left.left = omega arith in
    rw k at (after-whole ws s.args.first s.args.count s.requires.0 (l.loop-left.i * s.args.step) l.loop-left.at (omega arith) l.loop-left.invariant.2)

inside-out : (l : tie.At-loop-left invariant-loop decreases-loop) → 0 < l.loop-left.left → l.loop-left.i < length l.loop-left.out
inside-out l more =
    let s = l.before.before.before in
    inside l.loop-left.i (length l.loop-left.out) s.args.step l.loop-left.left s.args.count more l.loop-left.invariant.1 (rw l.loop-left.invariant.0 s.requires.1.1)

loop-holds : tie.Need-loop-left-init invariant-loop decreases-loop
loop-holds c =
    let s = c.before.before in
    let e : 0 * s.args.step ≡ 0 = zero-mul s.args.step in
    (refl, omega arith, ap (after s.args.words.now s.args.first) (sym e), λ j l. absurd (omega arith))

mul-out : tie.Need-offset_bounds-out-i invariant-loop decreases-loop
mul-out c = omega (arith, inside-out c.before (omega arith))

slice-write-out : tie.Need-bounds-out-i invariant-loop decreases-loop
slice-write-out c = inside-out c.before (omega arith)

cliques-next-requires : tie.Need-cliques_next-at-requires invariant-loop decreases-loop
cliques-next-requires c κs =
    let l = c.before in
    whole_front l.args.words.now l.loop-left.at l.args.step l.loop-left.left (omega arith) (whole-left l)

sub-left : tie.Need-overflow_sub-left invariant-loop decreases-loop
sub-left c = omega arith

add-i : tie.Need-overflow_add-i invariant-loop decreases-loop
add-i c = omega (arith, inside-out c.before.before (omega arith))

loop-less : tie.Need-loop-left-smaller invariant-loop decreases-loop
loop-less c = omega arith

loop-again : tie.Need-loop-left-preserved invariant-loop decreases-loop
loop-again c =
    let l = c.before.before in
    let s = l.before.before.before in
    let ws = s.args.words.now in
    let i = l.loop-left.i in
    let step = s.args.step in (
      simp length-set l.loop-left.invariant.0,
      omega (arith, more_steps i step),
      after_more ws s.args.first s.args.count s.requires.0 (i * step) l.loop-left.at (omega arith) l.loop-left.invariant.2 step c.cliques_next-at.result (omega arith) c.cliques_next-at.ensures
          ∙ ap (after ws s.args.first) (sym (more_steps i step)),
      written_more ws s.args.first step l.loop-left.out i l.loop-left.at (inside-out l (omega arith)) l.loop-left.invariant.3 l.loop-left.invariant.2,
    )

same_length : tie.Need-shape_of-out-then-left-eq0 invariant-loop decreases-loop
same_length c = c.loop-left.invariant.0

returns : tie.Need-returns-then-left-eq0 invariant-loop decreases-loop
returns c =
    let l = c.before.before in
    let s = l.before.before.before in
    written_all s.args.words.now s.args.first s.args.step l.loop-left.out l.loop-left.i s.args.count (omega arith) l.loop-left.invariant.3

mul-out-2 : tie.Need-offset_bounds-out-i-2 invariant-loop decreases-loop
mul-out-2 c = omega (arith, inside-out c.before.before (omega arith))

slice-write-out-2 : tie.Need-bounds-out-i-2 invariant-loop decreases-loop
slice-write-out-2 c = inside-out c.before.before (omega arith)

same-length-2 : tie.Need-shape_of-out invariant-loop decreases-loop
same-length-2 c = simp length-set c.loop-left.invariant.0

returns-2 : tie.Need-returns invariant-loop decreases-loop
returns-2 c =
    let l = c.before.before in
    let s = l.before.before.before in
    let ws = s.args.words.now in
    let i = l.loop-left.i in
    let step = s.args.step in
    written_all ws s.args.first step (set l.loop-left.out i l.loop-left.at) (i + 1) s.args.count (omega (arith, more_steps i step))
    (written_more ws s.args.first step l.loop-left.out i l.loop-left.at (inside-out l (omega arith)) l.loop-left.invariant.3 l.loop-left.invariant.2)

pub offsets_every_spec : {M : Type 1} → statement M
offsets_every_spec =
    tie.close
    (tie.spec
    invariant-loop
    decreases-loop
    loop-holds
    mul-out
    slice-write-out
    cliques-next-requires
    sub-left
    add-i
    loop-less
    loop-again
    same_length
    returns
    mul-out-2
    slice-write-out-2
    same-length-2
    returns-2)
