use Prim.Native.Nat.{◌-◌, ◌+◌}
use native.Mathlib.Omega.{arith}
use native.Mathlib.Numerals.{add-one}
use mathlib.Core.Path.{◌≡◌, sym, ap, ◌∙◌}
use borrow.Author.Tests.{le-leb}
use Rattle.layout.specs.Problems.Patterns.{Pattern}
use Rattle.supernode_tree.specs.Reads.{pattern_at, head_of}
use Rattle.supernode_tree.proofs.Cliques.{pattern_head}
use Rattle.supernode_tree.proofs.Patterns.{pattern_first, whole-later, patterns-next}
use Rattle.sparsity_pattern.specs.Sparsity.{origins_rise_from}
use Rattle.sparsity_pattern.proofs.origins_rise.Goals as goal

pub pattern_next-at-requires : goal.pattern_next-at-requires
pattern_next-at-requires c =
    pattern_first c.args.words.now c.loop-i.at (c.args.count - c.loop-i.i) (omega arith) c.loop-i.invariant.0

pub loop-i-preserved : goal.loop-i-preserved
loop-i-preserved c =
    let ws = c.args.words.now in
    let left = c.args.count - c.loop-i.i in
    let next = c.pattern_next-at.result in
    let p = c.here-origin.result in
    let whole = pattern_first ws c.loop-i.at left (omega arith) c.loop-i.invariant.0 in
    let o : (pattern_at ws c.loop-i.at).orig_index ≡ p.orig_index =
    ap (λ (q : Pattern). q.orig_index) (pattern_head ws c.loop-i.at (head_of ws p) p.cliques (sym c.here-origin.ensures.result_value) whole) in
    let e : c.args.count - (c.loop-i.i + 1) ≡ left - 1 = omega arith in
    rw e (
      whole-later ws c.loop-i.at left (omega arith) c.loop-i.invariant.0 next c.pattern_next-at.ensures,
      c.loop-i.invariant.1
          ∙ ap (origins_rise_from c.loop-i.least) (patterns-next ws c.loop-i.at left (omega arith) c.loop-i.invariant.0 next c.pattern_next-at.ensures)
          ∙ rw (o, le-leb c.loop-i.least p.orig_index c.if-origin-least.false, add-one),
    )
