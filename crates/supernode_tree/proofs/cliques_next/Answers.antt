use Prim.Native.Nat.{◌-◌, ◌+◌}
use native.Mathlib.Omega.{arith}
use mathlib.Core.Path.{◌≡◌, refl, sym, ◌∙◌}
use Rattle.supernode_tree.proofs.Cliques.{first-whole, whole-next, rest-next, rest-none}
use Rattle.supernode_tree.proofs.cliques_next.Goals as goal

pub here-at-requires : goal.here-at-requires
here-at-requires c = first-whole c.args.words.now c.loop.at (c.args.count - c.loop.counter) (omega arith) c.loop.invariant.0

pub loop-preserved : goal.loop-preserved
loop-preserved c =
    let ws = c.args.words.now in
    let q = c.here-at.result in
    let left = c.args.count - c.loop.counter in
    let e : c.args.count - (c.loop.counter + 1) ≡ left - 1 = omega arith in
    rw e (
      sym (whole-next ws c.loop.at left _ c.here-at.ensures.result_value (omega arith) q refl) ∙ c.loop.invariant.0,
      c.loop.invariant.1 ∙ rest-next ws c.loop.at left _ c.here-at.ensures.result_value (omega arith) q refl,
    )

pub returns : goal.returns
returns c = c.loop.invariant.1 ∙ rest-none c.args.words.now c.loop.at (c.args.count - c.loop.counter) (omega arith)
