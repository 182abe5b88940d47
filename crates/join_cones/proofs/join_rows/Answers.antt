use Rattle.std.proofs.Common.{ℕ, ap, ◌∙◌, length, drop, replicate, arith}
use lib.Ieee.{of_bits}
use Rattle.layout.specs.General.Floats.{zero64}
use Rattle.layout.specs.General.Triangle.{triangle}
use Rattle.layout.specs.Problems.Patterns.{Pattern}
use Rattle.supernode_tree.specs.Reads.{pattern_at}
use Rattle.join_blocks.specs.Joins.{own_rows}
use Rattle.join_cones.specs.Parts.{CountsRows}
use Rattle.join_cones.proofs.Laws.{rows-kept, averaged-cut, cleared_again}
use Rattle.join_cones.proofs.join_rows.Goals as goal

pub returns-clause-z_out_after : goal.returns-clause-z_out_after
unfolding of_bits
returns-clause-z_out_after c =
    let a = c.args in
    let j = c.join_pattern-end in
    let p : Pattern = pattern_at a.words.now a.at in
    let room : CountsRows a.standard (length j.new.z_out) j.new.counts =
    rows-kept a.standard (length a.s_out.now) (length j.new.z_out) a.counts.now j.new.counts (omega arith) j.auto.counts c.requires.counts_rows.0 in
    averaged-cut a.standard (own_rows a.standard p) a.counts.now j.new.counts (drop a.t a.z.now) (replicate (triangle p.vertex_count) zero64)
    c.fill-2.new.self j.new.z_out c.average.new.z room c.requires.counts_rows.1 j.ensures.counts c.average.ensures.z_after j.ensures.z_out_after
    (c.fill-2.ensures.after (λ y e. e) ∙ ap (λ (n : ℕ). replicate n zero64) c.requires.s_out_len.1)

pub returns-clause-cleared : goal.returns-clause-cleared
returns-clause-cleared c =
    let a = c.args in
    let j = c.join_pattern-end in
    cleared_again a.standard (pattern_at a.words.now a.at) (length j.new.z_out) a.counts.now j.new.counts c.average.new.counts (omega arith)
    c.requires.counts_rows.1 j.ensures.counts c.average.ensures.clears_rows
