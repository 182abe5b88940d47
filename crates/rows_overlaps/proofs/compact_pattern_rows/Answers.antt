use mathlib.Core.Path.{refl, sym, ap, ◌∙◌}
use lib.ListN.{length}
use Rattle.layout.specs.General.Lists.{written}
use lib.Seq.{length-take-le}
use Rattle.supernode_tree.specs.Reads.{pattern_at}
use Rattle.rows_blocks.proofs.Offsets.{count-few, offsets-room, ordering-part, part-many, part-stand}
use Rattle.rows_overlaps.proofs.Patterns.{sizes-sum, cliques_tied, pattern_codes, cut-rows-count}
use native.Mathlib.Omega.{arith}
use Rattle.rows_overlaps.proofs.compact_pattern_rows.Goals as goal

pub clique_offsets-requires-clause-count_in_bounds : goal.clique_offsets-requires-clause-count_in_bounds
clique_offsets-requires-clause-count_in_bounds c =
    count-few c.args.words.now c.args.at _ c.requires.right_pattern c.here-p.ensures.result_value c.here-p.result refl c.requires.at_bound.0

pub slice_bounds-offsets-end : goal.slice_bounds-offsets-end
slice_bounds-offsets-end c =
    offsets-room c.args.words.now c.args.at _ c.requires.right_pattern c.here-p.ensures.result_value c.here-p.result refl c.requires.at_bound.0 _ c.clique_offsets.auto.out

pub slice_bounds-offsets-end-2 : goal.slice_bounds-offsets-end-2
slice_bounds-offsets-end-2 c =
    let r = c.requires in
    let room = offsets-room c.args.words.now c.args.at _ r.right_pattern c.here-p.ensures.result_value c.here-p.result refl r.at_bound.0 _ c.clique_offsets.auto.out in
    sym (length-take-le _ c.clique_offsets.new.out room)

pub block_codes-requires-clause-offsets_bound : goal.block_codes-requires-clause-offsets_bound
block_codes-requires-clause-offsets_bound c =
    let r = c.requires in
    let ws = c.args.words.now in
    let read = c.here-p.ensures.result_value in
    let o = c.clique_offsets in
    let many = part-many ws c.args.at _ r.right_pattern read c.here-p.result refl r.at_bound.0 _ o.auto.out o.ensures in
    let stand = part-stand ws c.args.at _ r.right_pattern read c.here-p.result refl r.at_bound.0 _ o.auto.out o.ensures in
    omega (arith, sizes-sum (pattern_at ws c.args.at) r.right_pattern ws _ many stand, r.at_bound_2.0)

pub block_codes-requires-clause-cliques_tied : goal.block_codes-requires-clause-cliques_tied
block_codes-requires-clause-cliques_tied c starts room rows =
    let r = c.requires in
    let ws = c.args.words.now in
    let h = c.here-p.ensures in
    let o = c.clique_offsets in
    let p = pattern_at ws c.args.at in
    let many = part-many ws c.args.at _ r.right_pattern h.result_value c.here-p.result refl r.at_bound.0 _ o.auto.out o.ensures in
    let stand = part-stand ws c.args.at _ r.right_pattern h.result_value c.here-p.result refl r.at_bound.0 _ o.auto.out o.ensures in
    let codes = pattern_codes p r.right_pattern ws _ many stand c.args.first starts room rows c.args.base in
    rw (ordering-part ws c.args.at _ r.right_pattern h.result_value c.here-p.result refl h.pattern_inside) (
      cliques_tied p r.right_pattern ws _ many stand c.args.first starts room rows r.at_bound.0 r.at_bound_2.0,
      omega (arith, ap length codes, cut-rows-count p r.right_pattern c.args.base c.args.first, r.at_bound_2.1),
    )

pub returns-clause-value : goal.returns-clause-value
returns-clause-value c =
    let r = c.requires in
    let ws = c.args.words.now in
    let h = c.here-p.ensures in
    let o = c.clique_offsets in
    let p = pattern_at ws c.args.at in
    let many = part-many ws c.args.at _ r.right_pattern h.result_value c.here-p.result refl r.at_bound.0 _ o.auto.out o.ensures in
    let stand = part-stand ws c.args.at _ r.right_pattern h.result_value c.here-p.result refl r.at_bound.0 _ o.auto.out o.ensures in
    let coded = c.block_codes.ensures in
    let codes = pattern_codes p r.right_pattern ws _ many stand c.args.first coded.starts coded.room coded.rows c.args.base in
    (rw (ordering-part ws c.args.at _ r.right_pattern h.result_value c.here-p.result refl h.pattern_inside) at coded.count)
    ∙ ap length codes ∙ cut-rows-count p r.right_pattern c.args.base c.args.first

pub returns-clause-out_after : goal.returns-clause-out_after
returns-clause-out_after c =
    let r = c.requires in
    let ws = c.args.words.now in
    let h = c.here-p.ensures in
    let o = c.clique_offsets in
    let many = part-many ws c.args.at _ r.right_pattern h.result_value c.here-p.result refl r.at_bound.0 _ o.auto.out o.ensures in
    let stand = part-stand ws c.args.at _ r.right_pattern h.result_value c.here-p.result refl r.at_bound.0 _ o.auto.out o.ensures in
    let coded = c.block_codes.ensures in
    let codes = pattern_codes (pattern_at ws c.args.at) r.right_pattern ws _ many stand c.args.first coded.starts coded.room coded.rows c.args.base in
    (rw (ordering-part ws c.args.at _ r.right_pattern h.result_value c.here-p.result refl h.pattern_inside) at coded.wrote)
    ∙ ap (λ xs. written xs c.args.out.now) codes
