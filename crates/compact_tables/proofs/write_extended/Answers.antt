use native.Mathlib.Omega.{arith}
use lib.ListN.{replicate}
use Rattle.layout.specs.Files.FileWords.{word_tables}
use Rattle.file_shape.proofs.Parts.{stands_long}
use Rattle.compact_tables.specs.Writers.{extended_tables}
use Rattle.compact_tables.proofs.Extended.{starts-extended, costs_fit, costs-extended, extended-given, file_written}
use Rattle.compact_tables.proofs.write_extended.Goals as goal

pub bounds-words-2 : goal.bounds-words-2
bounds-words-2 c = omega (arith, stands_long c.args.words.now c.requires.well_shaped.0)

pub write_patterns-requires : goal.write_patterns-requires
write_patterns-requires c =
    let x = c.requires.extends.0 in costs_fit c.args.words.now c.requires.well_shaped.0 8192 c.words_of-2.ensures (omega (arith, x.wide, x.few_columns))

pub returns : goal.returns
returns c =
    let a = c.args in
    let ws = a.words.now in
    let ok = c.requires.well_shaped.0 in
    let x = c.requires.extends.0 in
    file_written (extended_tables (word_tables ws) a.columns a.a_starts.now a.a_rows.now a.a_values.now a.b.now a.cones.now) a.out.now
    (extended-given ws ok a.columns a.a_starts.now a.a_rows.now a.a_values.now a.b.now a.cones.now
    (starts-extended ws ok a.columns (replicate 16384 0) c.count_at-n.ensures.0 c.words_of.ensures (omega (arith, c.count_at-n.ensures.0, x.wide)) c.extend_front.ensures)
    c.words_of-3.ensures c.patterns_of.ensures
    (costs-extended ws ok a.columns c.count_at-n.ensures.0 c.words_of-2.ensures (omega (arith, c.count_at-n.ensures.0, x.wide)) x.few_columns c.write_patterns.ensures)
    c.patterns_of-2.ensures)
    c.write_file.ensures x.passes (omega (arith, x.short, c.requires.extends.1))
