use native.Mathlib.Omega.{arith}
use Rattle.file_shape.proofs.Parts.{stands_long}
use Rattle.file_views.proofs.Doubles.{words_view, words_inside}
use Rattle.file_views.proofs.words_of.Goals as goal

pub start_of-from-requires : goal.start_of-from-requires
start_of-from-requires c = omega (arith, c.requires.1, stands_long c.args.words.now c.requires.0)

pub table_size-size-requires : goal.table_size-size-requires
table_size-size-requires c = (stands_long c.args.words.now c.requires.0, c.requires.1)

pub slice_bounds-result-end : goal.slice_bounds-result-end
slice_bounds-result-end c =
    words_inside c.args.words.now c.requires.0 c.args.i c.start_of-from.result c.table_size-size.result c.start_of-from.ensures.0 c.table_size-size.ensures.0 c.requires.1

pub returns : goal.returns
returns c =
    words_view c.args.words.now c.requires.0 c.args.i c.start_of-from.result c.table_size-size.result c.start_of-from.ensures.0 c.table_size-size.ensures.0
