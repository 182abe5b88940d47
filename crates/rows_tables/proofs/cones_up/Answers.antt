use Prim.Native.Nat.{ℕ, ◌<◌, ◌-◌, ◌+◌, ◌*◌}
use mathlib.Core.Path.{◌≡◌, ap, sym, ◌∙◌}
use mathlib.Core.List.{List, ◌++◌}
use lib.ListN.{take}
use Rattle.layout.specs.Problems.Patterns.{Clique, block_size}
use Rattle.layout.specs.Cuts.Compact.{psd_words}
use Rattle.supernode_tree.specs.Reads.{cliques_from, clique_of}
use Rattle.supernode_tree.specs.Sizes.{block_at_most}
use Rattle.supernode_tree.proofs.Cliques.{whole-next, from_next, block_size_lem}
use Rattle.supernode_tree.proofs.Sizes.{all_cons}
use Rattle.rows_tables.proofs.Laws.{up_more}
use Rattle.rows_tables.proofs.Cones.{cones_of, first_small}
use native.Mathlib.Omega.{arith}
use mathlib.Core.Path.{refl}
use Rattle.rows_tables.proofs.cones_up.Goals as goal

pub overflow_cast-get_nblk : goal.overflow_cast-get_nblk
overflow_cast-get_nblk c =
    let h = c.here-q.ensures in
    let q = c.here-q.result in
    let ws = c.args.words.now in
    let left : ℕ = c.args.count - c.loop-i.i in
    let cs = from_next ws c.loop-i.at left _ h.result_value (omega arith) q refl c.loop-i.invariant.0 in
    let few = first_small _ _ _ cs c.loop-i.invariant.1 in
    omega (arith, block_size_lem ws c.loop-i.at q h.clique_inside, few, c.get_nblk.ensures)

pub loop-i-preserved : goal.loop-i-preserved
loop-i-preserved c =
    let h = c.here-q.ensures in
    let q = c.here-q.result in
    let ws = c.args.words.now in
    let at = c.loop-i.at in
    let out = c.loop-i.out in
    let i = c.loop-i.i in
    let t : ℕ = i * 3 in
    let left : ℕ = c.args.count - i in
    let more : 0 < left = omega arith in
    let others = cliques_from ws q.next (left - 1) in
    let cs = from_next ws at left _ h.result_value more q refl c.loop-i.invariant.0 in
    let n = c.get_nblk.result in
    let e : block_size (clique_of ws q) ≡ n = block_size_lem ws at q h.clique_inside ∙ sym c.get_nblk.ensures in
    let next : left - 1 ≡ c.args.count - (i + 1) = omega arith in
    let after : t + 3 ≡ (i + 1) * 3 = omega arith in
    let step = up_more out t 6 n 0 (omega arith) c.put.new.out (cones_of others) (cones_of (cliques_from ws c.args.first c.args.count)) c.put.ensures c.args.out.now
    (sym (ap (λ (cs : List Clique). take t out ++ cones_of cs) cs ∙ ap (λ (m : ℕ). take t out ++ (psd_words m ++ cones_of others)) e) ∙ c.loop-i.invariant.3)
    c.loop-i.invariant.4 in
    rw (← next, ← after) (
      sym (whole-next ws at left _ h.result_value more q refl) ∙ c.loop-i.invariant.0,
      (all_cons (block_at_most 256) (clique_of ws q) others (cliques_from ws at left) cs c.loop-i.invariant.1).1,
      omega arith,
      step.0,
      step.1,
    )
