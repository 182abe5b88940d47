use mathlib.Core.Path.{◌≡◌, sym, ap, ◌∙◌}
use Rattle.layout.specs.General.Lists.{all}
use Rattle.layout.specs.Problems.Patterns.{Pattern, with_cliques}
use Rattle.layout.specs.Rows.Blocks.{block_rows, overlap_rows}
use Rattle.supernode_tree.specs.Reads.{pattern_at, head_of, Whole, cliques_from}
use Rattle.supernode_tree.proofs.Cliques.{right-head, right-whole, pattern_whole}
use Rattle.supernode_tree.specs.Sizes.{block_at_most}
use Rattle.supernode_tree.proofs.Sizes.{blocks-small}
use Rattle.supernode_tree.proofs.get_decomposed_dim_and_overlaps.Statement.{statement}
use Rattle.supernode_tree.proofs.get_decomposed_dim_and_overlaps.Tie as tie

module _ (c : tie.After-here-p) where
  -- the cliques are complete
  whole-at : let p = c.here-p.result in Whole c.args.words.now p.cliques p.clique_count
  whole-at =
      let s = c.before.before in
      let ws = s.args.words.now in
      right-whole ws s.args.at (head_of ws c.here-p.result) c.here-p.result.cliques (sym c.here-p.ensures.0) s.requires.0.tree

  pattern_at_lem : let s = c.before.before in
      let ws = s.args.words.now in
      let p = c.here-p.result in
      pattern_at ws s.args.at ≡ with_cliques (head_of ws p) (cliques_from ws p.cliques p.clique_count)
  pattern_at_lem =
      let s = c.before.before in
      let ws = s.args.words.now in
      pattern_whole ws s.args.at (head_of ws c.here-p.result) c.here-p.result.cliques (sym c.here-p.ensures.0) whole-at

here-requires : tie.Need-here-p-requires
here-requires c κs = let s = c.before in right-head s.args.words.now s.args.at s.requires.0.tree

dim-and-overlaps-requires : tie.Need-dim_and_overlaps-requires
dim-and-overlaps-requires c κs =
    let s = c.before.before in
    let p = pattern_at s.args.words.now s.args.at in
    (whole-at c, sym (ap (λ (p : Pattern). all (block_at_most 256) p.cliques) (pattern_at_lem c)) ∙ blocks-small p 256 s.requires.0 s.requires.1)

returns : tie.Need-returns
returns c =
    let e = pattern_at_lem c.before in (
      c.dim_and_overlaps.ensures.0 ∙ ap block_rows (sym e),
      c.dim_and_overlaps.ensures.1 ∙ ap overlap_rows (sym e),
    )

pub get_decomposed_dim_and_overlaps_spec : {M : Type 1} → statement M
get_decomposed_dim_and_overlaps_spec =
    tie.close
    (tie.spec
    here-requires
    dim-and-overlaps-requires
    returns)
