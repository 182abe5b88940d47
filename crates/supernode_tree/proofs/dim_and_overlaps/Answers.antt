use Prim.Native.Nat.{◌+◌, ◌-◌, ◌≤◌}
use native.Mathlib.Omega.{arith}
use mathlib.Core.Path.{◌≡◌, refl, sym, ap, ◌∙◌}
use Rattle.layout.specs.General.Triangle.{triangle}
use Rattle.supernode_tree.specs.Reads.{cliques_from, clique_of}
use Rattle.supernode_tree.specs.Sizes.{block_at_most, dim_of, overlaps_of}
use Rattle.supernode_tree.proofs.Cliques.{whole-next, from_next, separator-size, block_size_lem}
use Rattle.supernode_tree.proofs.Sizes.{all_cons, sum-cons, first-small}
use Rattle.supernode_tree.proofs.dim_and_overlaps.Goals as goal
use Rattle.supernode_tree.proofs.dim_and_overlaps.Goals.{After-here-q}

small : (c : After-here-q) → c.here-q.result.snode_count + c.here-q.result.separator_count ≤ 256
small c =
    first-small c.args.words.now c.loop.at (c.args.count - c.loop.counter) (omega arith) c.here-q.result c.here-q.ensures.result_value c.here-q.ensures.clique_inside
    c.loop.invariant.0 c.loop.invariant.1

pub overflow_cast-get_nblk : goal.overflow_cast-get_nblk
overflow_cast-get_nblk c = omega (arith, small (goal.at.overflow_cast-get_nblk c).After-here-q)

pub triangular_number-requires : goal.triangular_number-requires
triangular_number-requires c = omega (arith, small (goal.at.triangular_number-requires c).After-here-q)

pub triangular_number-requires-in-loop : goal.triangular_number-requires-in-loop
triangular_number-requires-in-loop c = omega (arith, small (goal.at.triangular_number-requires-in-loop c).After-here-q)

pub loop-preserved : goal.loop-preserved
loop-preserved c =
    let ws = c.args.words.now in
    let q = c.here-q.result in
    let left = c.args.count - c.loop.counter in
    let e : c.args.count - (c.loop.counter + 1) ≡ left - 1 = omega arith in
    let others = cliques_from ws q.next (left - 1) in
    let cs = cliques_from ws c.loop.at left in
    let first = from_next ws c.loop.at left _ c.here-q.ensures.result_value (omega arith) q refl c.loop.invariant.0 in
    rw e (
      sym (whole-next ws c.loop.at left _ c.here-q.ensures.result_value (omega arith) q refl) ∙ c.loop.invariant.0,
      (all_cons (block_at_most 256) (clique_of ws q) others cs first c.loop.invariant.1).1,
      sum-cons dim_of (clique_of ws q) others cs c.loop.dim c.triangular_number.result _ first (c.triangular_number.ensures
          ∙ ap triangle (c.get_nblk.ensures ∙ sym (block_size_lem ws c.loop.at q c.here-q.ensures.clique_inside))) c.loop.invariant.2,
      sum-cons overlaps_of (clique_of ws q) others cs c.loop.overlaps c.triangular_number-in-loop.result _ first (c.triangular_number-in-loop.ensures
          ∙ ap triangle (sym (separator-size ws c.loop.at q c.here-q.ensures.clique_inside))) c.loop.invariant.3,
      omega arith,
      omega arith,
    )
