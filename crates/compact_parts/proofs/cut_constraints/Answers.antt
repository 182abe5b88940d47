use native.Mathlib.Omega.{arith}
use Rattle.file_shape.proofs.Parts.{stands_long}
use Rattle.compact_parts.proofs.Given.{constraints-given, fits_as, rows_as, held_as}
use Rattle.compact_parts.proofs.cut_constraints.Goals as goal

pub bounds-words-6 : goal.bounds-words-6
bounds-words-6 c = omega (arith, stands_long c.args.words.now c.requires.well_shaped.0)

pub decomp_augment_compact-requires : goal.decomp_augment_compact-requires
decomp_augment_compact-requires c =
    let e = constraints-given c.args.words.now
    c.words_of.ensures
    c.words_of-2.ensures
    c.doubles_of.ensures
    c.doubles_of-2.ensures
    c.words_of-3.ensures
    c.words_of-4.ensures in
    (fits_as e c.requires.fact.0, rows_as e c.requires.fact.1)

pub returns : goal.returns
returns c =
    held_as
    (constraints-given c.args.words.now
    c.words_of.ensures
    c.words_of-2.ensures
    c.doubles_of.ensures
    c.doubles_of-2.ensures
    c.words_of-3.ensures
    c.words_of-4.ensures)
    c.decomp_augment_compact.ensures
