use native.Mathlib.Omega.{arith}
use mathlib.Core.Path.{◌≡◌}
use borrow.Author.Tests.{eqb-true}
use Rattle.check_patterns.proofs.Walked.{walked_none, walked_stops, walked_more, walked_all, walked_clear, walked_many}
use Rattle.check_patterns.proofs.snodes_hold.Goals as goal

pub loop-c-init : goal.loop-c-init
loop-c-init c = (c.requires.cliques_in_bounds.0, omega arith, walked_none c.args.words.now c.args.p c.args.marks.now c.args.offsets.now c.requires.met)

pub returns-then-not-snode_holds-clause-value : goal.returns-then-not-snode_holds-clause-value
returns-then-not-snode_holds-clause-value c =
    let l = c.loop-c in
    walked_stops c.args.words.now c.args.p l.marks l.offsets l.total l.at l.c l.invariant.2 c.snode_holds.result c.snode_holds.ensures c.loop-c-test.true c.if-not-snode_holds.true

pub loop-c-preserved : goal.loop-c-preserved
loop-c-preserved c =
    let l = c.loop-c in
    let inside = c.here-q.ensures.clique_inside in (
      inside.3,
      omega (arith, inside),
      walked_more c.args.words.now c.args.p l.marks l.offsets l.total l.at l.c l.invariant.2 c.here-q.result c.snode_holds.new.marks c.snode_holds.result
          c.here-q.ensures.result_value inside c.snode_holds.ensures c.if-not-snode_holds.false (omega arith) c.loop-c-test.true,
    )

pub returns-clause-value : goal.returns-clause-value
returns-clause-value c =
    let l = c.loop-c in
    walked_many c.args.words.now c.args.p l.marks l.offsets l.total l.at l.c l.invariant.2 (omega arith)

pub returns-clause-snodes_hold : goal.returns-clause-snodes_hold
returns-clause-snodes_hold c =
    let l = c.loop-c in
    let end : l.c ≡ c.args.p.clique_count = omega arith in
    λ z. let all : l.total ≡ c.args.p.vertex_count = eqb-true _ _ z in (
      walked_all c.args.words.now c.args.p l.marks l.offsets l.total l.at l.c l.invariant.2 end all,
      walked_clear c.args.words.now c.args.p l.marks l.offsets l.total l.at l.c l.invariant.2 end all,
    )
