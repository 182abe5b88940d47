use Prim.Native.Nat.{◌-◌, ◌+◌}
use native.Mathlib.Omega.{arith}
use mathlib.Core.Path.{◌≡◌, sym}
use Rattle.sparsity_pattern.specs.Sparsity.{pattern_right}
use Rattle.supernode_tree.proofs.Patterns.{pattern_first, whole-later, all_stops, all_goes}
use Rattle.sparsity_pattern.proofs.patterns_right.Goals as goal

pub returns-then-not-pattern_right : goal.returns-then-not-pattern_right
returns-then-not-pattern_right c =
    let left = c.args.count - c.loop-i.i in
    sym (all_stops c.args.words.now c.loop-i.at left (omega arith) c.loop-i.invariant.0 (pattern_right c.args.cones.now) _ _ c.loop-i.invariant.1 c.pattern_right.ensures c.if-not-pattern_right.true)

pub pattern_next-at-requires : goal.pattern_next-at-requires
pattern_next-at-requires c =
    pattern_first c.args.words.now c.loop-i.at (c.args.count - c.loop-i.i) (omega arith) c.loop-i.invariant.0

pub loop-i-preserved : goal.loop-i-preserved
loop-i-preserved c =
    let ws = c.args.words.now in
    let left = c.args.count - c.loop-i.i in
    let next = c.pattern_next-at.result in
    let e : c.args.count - (c.loop-i.i + 1) ≡ left - 1 = omega arith in
    rw e (
      whole-later ws c.loop-i.at left (omega arith) c.loop-i.invariant.0 next c.pattern_next-at.ensures,
      all_goes ws c.loop-i.at left (omega arith) c.loop-i.invariant.0 (pattern_right c.args.cones.now) _ _ c.loop-i.invariant.1 c.pattern_right.ensures next c.pattern_next-at.ensures c.if-not-pattern_right.false,
    )
