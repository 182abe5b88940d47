use mathlib.Core.Path.{sym}
use Rattle.layout.proofs.Files.FileWalks.{gap_none, gap_outside, gap_one}
use Rattle.file_shape.proofs.gap_zero.Goals as goal

pub returns-then-a : goal.returns-then-a
returns-then-a c = sym (gap_none c.args.a c.args.words.now c.if-a.true)

pub returns-then-words-a : goal.returns-then-words-a
returns-then-words-a c =
    sym (gap_outside c.args.a c.args.words.now c.if-words-a.true)

pub returns : goal.returns
returns c =
    sym (gap_one c.args.a c.args.words.now c.requires.0 c.if-a.false c.if-words-a.false)
