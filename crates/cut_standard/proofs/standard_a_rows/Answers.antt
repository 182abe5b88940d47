use native.Mathlib.Omega.{arith}
use Rattle.layout.specs.Rows.Blocks.{standard_rows}
use Rattle.layout.specs.Calls.Join.{joined_parts}
use Rattle.layout.proofs.Lists.Buffers.{written_after, length_tail}
use Rattle.augment_standard.specs.Beside.{h_rows}
use Rattle.augment_standard.proofs.Columns.{length-h_rows}
use Rattle.cut_standard.proofs.Laws.{rows-count}
use lib.ListN.{length}
use mathlib.Core.Path.{refl}
use Rattle.cut_standard.proofs.standard_a_rows.Goals as goal

pub h_rows-requires : goal.h_rows-requires
h_rows-requires c =
    record { sound = c.requires.sound; k_value = (c.requires.k_value.0, c.requires.k_value.1, omega (arith, c.requires.k_value.2, length_tail c.copy_front.new.out (length c.args.a_rows.now), c.copy_front.auto.out)) }

pub returns : goal.returns
returns c =
    let a = c.args in
    let os = standard_rows (joined_parts a.cones.now a.count a.words.now) in
    written_after a.a_rows.now (h_rows a.m os) a.out.now (length a.a_rows.now) refl (omega (arith, length-h_rows a.m os, rows-count c.requires.sound, c.requires.k_value)) c.copy_front.ensures c.h_rows.ensures
