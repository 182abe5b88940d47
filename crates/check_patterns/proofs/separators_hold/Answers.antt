use Prim.Native.Nat.{◌+◌, ◌-◌}
use native.Mathlib.Omega.{arith}
use mathlib.Core.Path.{◌≡◌, sym}
use Rattle.check_patterns.proofs.Separators.{seen_more, seen_stops}
use Rattle.check_patterns.proofs.separators_hold.Goals as goal

pub returns-then-not-separator_holds-clause-value : goal.returns-then-not-separator_holds-clause-value
returns-then-not-separator_holds-clause-value c =
    sym (seen_stops c.args.words.now c.args.p c.loop.b (c.args.p.clique_count - c.loop.counter) c.loop.invariant (omega arith)
    c.here-q.result c.here-q.ensures.result_value c.here-q.ensures.clique_inside c.separator_holds.result c.separator_holds.ensures c.if-not-separator_holds.true)

pub loop-preserved : goal.loop-preserved
loop-preserved c =
    let left = c.args.p.clique_count - c.loop.counter in
    let e : c.args.p.clique_count - (c.loop.counter + 1) ≡ left - 1 = omega arith in
    rw e (seen_more c.args.words.now c.args.p c.loop.b left c.loop.invariant (omega arith) c.here-q.result c.here-q.ensures.result_value c.here-q.ensures.clique_inside
    c.separator_holds.result c.separator_holds.ensures c.if-not-separator_holds.false c.with_clique-b.result c.with_clique-b.ensures)
