use Prim.Native.Nat.{ℕ, ◌<◌, ◌-◌, ◌+◌, ◌*◌}
use mathlib.Core.Path.{◌≡◌, refl, ap, sym, ◌∙◌}
use mathlib.Core.List.{List, ◌++◌, map, reverse}
use lib.ListN.{length, drop, length-map, length-reverse}
use Rattle.layout.specs.Problems.Patterns.{Clique, read_clique, block_size}
use Rattle.layout.specs.Cuts.Compact.{psd_words}
use Rattle.supernode_tree.specs.Reads.{cliques_from, clique_of}
use Rattle.supernode_tree.specs.Sizes.{block_at_most}
use Rattle.supernode_tree.proofs.Cliques.{whole-next, from_next, block_size_lem}
use Rattle.supernode_tree.proofs.Many.{many-length}
use Rattle.supernode_tree.proofs.Sizes.{all_cons}
use Rattle.rows_tables.proofs.Laws.{down_more, threes}
use Rattle.rows_tables.proofs.Cones.{cones_back, back_more, first_small}
use native.Mathlib.Omega.{arith}
use Rattle.rows_tables.proofs.cones_down.Goals as goal

pub overflow_cast-get_nblk : goal.overflow_cast-get_nblk
overflow_cast-get_nblk c =
    let h = c.here-q.ensures in
    let q = c.here-q.result in
    let ws = c.args.words.now in
    let cs = from_next ws c.loop-i.at c.loop-i.i _ h.result_value c.loop-i-test.true q refl c.loop-i.invariant.0 in
    let few = first_small _ _ _ cs c.loop-i.invariant.1 in
    omega (arith, block_size_lem ws c.loop-i.at q h.clique_inside, few, c.get_nblk.ensures)

pub loop-i-preserved : goal.loop-i-preserved
loop-i-preserved c =
    let h = c.here-q.ensures in
    let q = c.here-q.result in
    let ws = c.args.words.now in
    let at = c.loop-i.at in
    let out = c.loop-i.out in
    let left = c.loop-i.i in
    let more : 0 < left = c.loop-i-test.true in
    let others = cliques_from ws q.next (left - 1) in
    let cs = from_next ws at left _ h.result_value more q refl c.loop-i.invariant.0 in
    let n = c.get_nblk.result in
    let e : block_size (clique_of ws q) ≡ n = block_size_lem ws at q h.clique_inside ∙ sym c.get_nblk.ensures in
    let t : ℕ = (left - 1) * 3 in
    let f : left * 3 ≡ t + 3 = omega arith in
    let read : cones_back (cliques_from ws at left) ≡ cones_back others ++ psd_words n =
    ap (λ (cs : List Clique). cones_back cs) cs ∙ back_more (clique_of ws q) others ∙ ap (λ (m : ℕ). cones_back others ++ psd_words m) e in (
      sym (whole-next ws at left _ h.result_value more q refl) ∙ c.loop-i.invariant.0,
      (all_cons (block_at_most 256) (clique_of ws q) others (cliques_from ws at left) cs c.loop-i.invariant.1).1,
      omega arith,
      down_more out t 6 n 0 (omega arith) c.put.new.out (cones_back others) _ c.put.ensures
          (ap (λ (m : ℕ). (cones_back others ++ psd_words n) ++ drop m out) (sym f)
          ∙ ap (λ (xs : List ℕ). xs ++ drop (left * 3) out) (sym read) ∙ c.loop-i.invariant.3),
    )

pub returns-clause-out_after : goal.returns-clause-out_after
returns-clause-out_after c =
    let ws = c.args.words.now in
    let cs = cliques_from ws c.args.first c.args.count in
    let z : c.loop-i.i ≡ 0 = omega arith in
    let count : length (cones_back cs) ≡ c.args.count * 3 =
    threes psd_words (λ k. refl) (reverse (map block_size cs))
    ∙ ap (λ (n : ℕ). n * 3) (length-reverse (map block_size cs) ∙ length-map cs block_size ∙ many-length read_clique c.args.count (drop c.args.first ws) c.requires.whole.0) in
    sym (ap (λ (n : ℕ). cones_back (cliques_from ws c.loop-i.at n) ++ drop (n * 3) c.loop-i.out) z) ∙ c.loop-i.invariant.3
    ∙ ap (λ (n : ℕ). cones_back cs ++ drop n c.args.out.now) (sym count)
