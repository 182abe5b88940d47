use Prim.Native.Nat.{ℕ, ◌+◌, ◌-◌}
use native.Mathlib.Omega.{arith}
use mathlib.Core.Bool.{Bool, true}
use mathlib.Core.Path.{◌≡◌, refl, sym, ap, ◌∙◌}
use mathlib.Core.List.{List, [], ◌++◌, append_assoc, append-nil}
use lib.ListN.{length}
use Rattle.layout.specs.General.Lists.{keep, distinct}
use Rattle.layout.specs.Problems.Patterns.{Clique}
use Rattle.layout.proofs.Lists.Tests.{passes, passed}
use Rattle.utils.specs.Windows.{within, Marked}
use Rattle.utils.proofs.Windows.{marked-none}
use Rattle.supernode_tree.specs.Reads.{cliques_from, clique_of}
use Rattle.supernode_tree.proofs.Cliques.{first-whole, whole-next, from_next, from-none, snode-part}
use Rattle.check_cliques.specs.Trees.{snodes_of}
use Rattle.check_cliques.proofs.Snodes.{repeats_front}
use Rattle.check_cliques.proofs.snodes_once_within.Goals as goal
use Rattle.check_cliques.proofs.snodes_once_within.Goals.{After-mark}

-- the state after the snode of the clique just read is marked
stepped : (c : After-mark) → let ws = c.args.words.now in
    let q = c.here-q.result in
    let now = c.loop.invariant.1.0 ++ (clique_of ws q).snode in
    (now ++ snodes_of (cliques_from ws q.next (c.args.p.clique_count - c.loop.counter - 1)) ≡ snodes_of (cliques_from ws c.args.p.cliques c.args.p.clique_count))
    × (c.mark.result ≡ distinct (keep (within c.args.low (length c.loop.marks)) now))
    × (c.mark.result ≡ true → Marked c.args.low c.mark.new.marks now)
stepped c =
    let ws = c.args.words.now in
    let q = c.here-q.result in
    let left = c.args.p.clique_count - c.loop.counter in
    let (met, all, marked, once) = c.loop.invariant.1 in
    let done = rw (snode-part ws c.loop.at q c.here-q.ensures.clique_inside) at (c.mark.ensures met marked once) in (
      append_assoc met (clique_of ws q).snode (snodes_of (cliques_from ws q.next (left - 1)))
          ∙ ap (λ (cs : List Clique). met ++ snodes_of cs) (sym (from_next ws c.loop.at left _ c.here-q.ensures.result_value (omega arith) q refl c.loop.invariant.0))
          ∙ all,
      done.0,
      done.1,
    )

pub loop-init : goal.loop-init
loop-init c =
    let e : c.args.p.clique_count - 0 ≡ c.args.p.clique_count = omega arith in
    rw e (c.requires, ([], refl, rw c.clear.ensures (marked-none c.args.low (length c.args.marks.now)), tt))

pub here-q-requires : goal.here-q-requires
here-q-requires c = first-whole c.args.words.now c.loop.at (c.args.p.clique_count - c.loop.counter) (omega arith) c.loop.invariant.0

pub returns-then-not-mark : goal.returns-then-not-mark
returns-then-not-mark c =
    let ws = c.args.words.now in
    let q = c.here-q.result in
    let m = stepped (goal.at.returns-then-not-mark c).After-mark in
    let n : length c.loop.marks ≡ length c.args.marks.now = omega arith in
    let p : ℕ → Bool = within c.args.low (length c.args.marks.now) in
    sym (ap (λ (x : List ℕ). distinct (keep p x)) (sym m.0)
    ∙ repeats_front p (c.loop.invariant.1.0 ++ (clique_of ws q).snode) (snodes_of (cliques_from ws q.next (c.args.p.clique_count - c.loop.counter - 1)))
    (rw n at (sym m.1 ∙ c.if-not-mark.true)))

pub loop-preserved : goal.loop-preserved
loop-preserved c =
    let ws = c.args.words.now in
    let q = c.here-q.result in
    let left = c.args.p.clique_count - c.loop.counter in
    let e : c.args.p.clique_count - (c.loop.counter + 1) ≡ left - 1 = omega arith in
    let m = stepped (goal.at.loop-preserved c).After-mark in
    let n : length c.mark.new.marks ≡ length c.loop.marks = c.mark.auto.marks in
    rw e (
      sym (whole-next ws c.loop.at left _ c.here-q.ensures.result_value (omega arith) q refl) ∙ c.loop.invariant.0,
      (c.loop.invariant.1.0 ++ (clique_of ws q).snode, m.0, m.2 c.if-not-mark.false, rw n (passes _ (sym m.1 ∙ c.if-not-mark.false))),
    )

pub returns : goal.returns
returns c =
    let ws = c.args.words.now in
    let (met, all, marked, once) = c.loop.invariant.1 in
    let n : length c.loop.marks ≡ length c.args.marks.now = omega arith in
    let e : met ≡ snodes_of (cliques_from ws c.args.p.cliques c.args.p.clique_count) =
    sym (append-nil met) ∙ ap (λ (cs : List Clique). met ++ snodes_of cs) (sym (from-none ws c.loop.at (c.args.p.clique_count - c.loop.counter) (omega arith))) ∙ all in
    sym (passed _ (rw (e, n) at once))
