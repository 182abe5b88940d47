use Prim.Native.Nat.{ℕ}
use mathlib.Core.Bool.{true}
use mathlib.Core.Path.{ap, sym, ◌∙◌}
use mathlib.Core.List.{List, map}
use lib.ListN.{length}
use Rattle.layout.specs.Rows.Blocks.{pairs, pair_row}
use Rattle.rows_blocks.specs.Cliques.{rows_here}
use Rattle.rows_blocks.proofs.Cliques.{vertices_rise, vertices-few, vertices_fit}
use Rattle.rows_blocks.specs.Vertices.{marked}
use native.Mathlib.Omega.{arith}
use Rattle.check_covered.proofs.mark_clique.Goals as goal

pub slice_bounds-vertices-end : goal.slice_bounds-vertices-end
slice_bounds-vertices-end c =
    omega (arith, c.clique_vertices-k.ensures.value, vertices-few c.args.words.now c.args.ordering.now c.args.at, c.requires.clique_stands.sortable.few)

pub slice_bounds-mark_block-end : goal.slice_bounds-mark_block-end
slice_bounds-mark_block-end c =
    c.clique_vertices-k.ensures.value ∙ sym (ap length c.clique_vertices-k.ensures.out_after)

pub mark_block-requires : goal.mark_block-requires
mark_block-requires c =
    let ws = c.args.words.now in
    let o = c.args.ordering.now in
    rw c.clique_vertices-k.ensures.out_after
    (vertices_rise ws o c.args.at, vertices_fit ws o c.args.at c.args.base 65536 c.requires.block_fits.0, vertices_fit ws o c.args.at c.args.base (length c.args.covered.now) c.requires.block_fits.1)

pub returns : goal.returns
unfolding rows_here
returns c =
    let a = c.args in
    c.mark_block.ensures ∙ ap (λ (vs : List ℕ). marked true (map (pair_row a.base) (pairs vs)) a.covered.now) c.clique_vertices-k.ensures.out_after
