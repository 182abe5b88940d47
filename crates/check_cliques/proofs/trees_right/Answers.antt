use Prim.Native.Nat.{◌+◌, ◌-◌}
use native.Mathlib.Omega.{arith}
use mathlib.Core.Path.{◌≡◌, sym}
use Rattle.layout.specs.Checks.{tree_right}
use Rattle.supernode_tree.proofs.Patterns.{whole-later, all_stops, all_goes}
use Rattle.check_cliques.proofs.trees_right.Goals as goal

pub returns-then-not-tree_right : goal.returns-then-not-tree_right
returns-then-not-tree_right c =
    sym (all_stops c.args.words.now c.loop-i.at (c.args.count - c.loop-i.i) (omega arith) c.loop-i.invariant.0 tree_right _ _ c.loop-i.invariant.1 c.tree_right.ensures c.if-not-tree_right.true)

pub loop-i-preserved : goal.loop-i-preserved
loop-i-preserved c =
    let ws = c.args.words.now in
    let left = c.args.count - c.loop-i.i in
    let e : c.args.count - (c.loop-i.i + 1) ≡ left - 1 = omega arith in
    let next = c.pattern_next-at in
    rw e (
      whole-later ws c.loop-i.at left (omega arith) c.loop-i.invariant.0 next.result next.ensures,
      all_goes ws c.loop-i.at left (omega arith) c.loop-i.invariant.0 tree_right _ _ c.loop-i.invariant.1 c.tree_right.ensures next.result next.ensures c.if-not-tree_right.false,
    )
