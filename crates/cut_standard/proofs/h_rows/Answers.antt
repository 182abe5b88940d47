use native.Mathlib.Omega.{arith}
use mathlib.Core.Path.{◌∙◌}
use Rattle.layout.specs.Rows.Blocks.{standard_rows}
use Rattle.layout.specs.Calls.Join.{joined_parts}
use Rattle.layout.proofs.Lists.Buffers.{length_tail}
use Rattle.cut_standard.proofs.Laws.{rows-count, spread_in_place}
use Rattle.cut_standard.proofs.h_rows.Goals as goal

pub write_table-requires : goal.write_table-requires
write_table-requires c =
    record { sound = c.requires.sound; few = tt; words_in_bounds = omega (arith, rows-count c.requires.sound, length_tail c.args.out.now c.args.k, c.requires.k_value) }

pub returns : goal.returns
returns c =
    let a = c.args in
    let os = standard_rows (joined_parts a.cones.now a.count a.words.now) in
    c.spread_rows.ensures
    ∙ spread_in_place a.m a.k os a.out.now (omega (arith, rows-count c.requires.sound, c.requires.k_value.0)) c.requires.k_value.2 c.write_table.ensures.out_after
