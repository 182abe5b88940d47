use lib.Ieee.{of_bits, neg}
use Rattle.layout.specs.General.Floats.{one64, minus_one64}
use Rattle.layout.proofs.Lists.Buffers.{written_after}
use Rattle.augment_standard.specs.Beside.{pair_values}
use Rattle.augment_compact.specs.Cut.{tied_rows}
use Rattle.augment_compact.proofs.write_overlaps.Goals as goal

pub returns : goal.returns
unfolding of_bits neg
returns c =
    record { behind = λ xs old e l f. written_after xs (tied_rows 0 c.args.codes.now) old c.args.count e l f c.write_overlap_rows.ensures; behind_2 = λ xs old e l f. written_after xs (pair_values minus_one64 one64 c.args.k) old c.args.count e l f c.write_pairs.ensures }
