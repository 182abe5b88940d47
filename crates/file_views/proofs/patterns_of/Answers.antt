use native.Mathlib.Omega.{arith}
use mathlib.Core.Path.{ap, ◌∙◌}
use lib.ListN.{length}
use Prim.Native.Nat.{◌+◌, ◌/◌}
use Rattle.layout.specs.General.Lists.{part}
use Rattle.file_shape.proofs.Parts.{stands_long}
use Rattle.file_views.proofs.Doubles.{pairs_view, pairs-inside}
use Rattle.file_views.proofs.patterns_of.Goals as goal

pub start_of-from-requires : goal.start_of-from-requires
start_of-from-requires c = omega (arith, c.requires.2, stands_long c.args.words.now c.requires.0)

pub table_size-size-requires : goal.table_size-size-requires
table_size-size-requires c = (stands_long c.args.words.now c.requires.0, c.requires.2)

pub slice_bounds-result-end : goal.slice_bounds-result-end
slice_bounds-result-end c =
    omega (arith, ap length c.requires.1, pairs-inside c.args.words.now c.requires.0 c.args.i c.start_of-from.result c.table_size-size.result c.start_of-from.ensures.0 c.table_size-size.ensures.0 c.requires.2)

pub returns : goal.returns
returns c =
    let at = c.start_of-from.result / 2 in
    ap (part at (at + c.table_size-size.result / 8)) c.requires.1
    ∙ pairs_view c.args.words.now c.requires.0 c.args.i c.start_of-from.result c.table_size-size.result c.start_of-from.ensures.0 c.table_size-size.ensures.0 c.requires.2
