use Prim.Native.Nat.{◌+◌, ◌-◌}
use native.Mathlib.Omega.{arith}
use mathlib.Core.Path.{◌≡◌, sym, ap, ◌∙◌}
use lib.Dec.{ltb}
use Rattle.layout.specs.General.Lists.{all}
use Rattle.supernode_tree.specs.Reads.{clique_of}
use Rattle.supernode_tree.proofs.Cliques.{first-whole, snode-part}
use Rattle.check_cliques.proofs.Snodes.{counting_above, counting_goes}
use Rattle.check_cliques.proofs.snodes_fill.Goals as goal
use Rattle.check_cliques.proofs.snodes_fill.Goals.{After-all_below}

-- the result for the snode of the clique just read
looked : (c : After-all_below) → c.all_below.result ≡ all (λ x. ltb x c.args.p.vertex_count) (clique_of c.args.words.now c.here-q.result).snode
looked c =
    c.all_below.ensures ∙ ap (all (λ x. ltb x c.args.p.vertex_count)) (snode-part c.args.words.now c.loop.at c.here-q.result c.here-q.ensures.clique_inside)

pub here-q-requires : goal.here-q-requires
here-q-requires c = first-whole c.args.words.now c.loop.at (c.args.p.clique_count - c.loop.counter) (omega arith) c.loop.invariant.stand

pub returns-then-not-all_below : goal.returns-then-not-all_below
returns-then-not-all_below c =
    let p = c.args.p in
    counting_above p.vertex_count c.args.words.now p.cliques p.clique_count c.loop.total c.loop.at (p.clique_count - c.loop.counter) c.loop.invariant (omega arith)
    c.here-q.result c.here-q.ensures.result_value c.here-q.ensures.clique_inside
    (sym (looked (goal.at.returns-then-not-all_below c).After-all_below) ∙ c.if-not-all_below.true)

pub loop-preserved : goal.loop-preserved
loop-preserved c =
    let p = c.args.p in
    let left = p.clique_count - c.loop.counter in
    let e : p.clique_count - (c.loop.counter + 1) ≡ left - 1 = omega arith in
    rw e (counting_goes p.vertex_count c.args.words.now p.cliques p.clique_count c.loop.total c.loop.at left c.loop.invariant (omega arith)
    c.here-q.result c.here-q.ensures.result_value c.here-q.ensures.clique_inside c.if-q-eq0.false
    (sym (looked (goal.at.loop-preserved c).After-all_below) ∙ c.if-not-all_below.false))
