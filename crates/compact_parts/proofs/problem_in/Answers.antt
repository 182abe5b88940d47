use native.Mathlib.Omega.{arith}
use Rattle.file_shape.proofs.Parts.{stands_long}
use Rattle.compact_parts.proofs.Given.{problem-given}
use Rattle.compact_parts.proofs.problem_in.Goals as goal

pub bounds-words-6 : goal.bounds-words-6
bounds-words-6 c = omega (arith, stands_long c.args.words.now c.requires.0)

pub returns : goal.returns
returns c =
    problem-given c.args.words.now
    c.words_of.ensures
    c.words_of-2.ensures
    c.doubles_of.ensures
    c.doubles_of-2.ensures
    c.words_of-3.ensures
    c.words_of-4.ensures
    c.doubles_of-3.ensures
    c.doubles_of-4.ensures
    c.words_of-5.ensures
    c.doubles_of-5.ensures
    c.words_of-6.ensures
