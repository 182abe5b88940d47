use native.Mathlib.Omega.{arith}
use lib.Ieee.{of_bits, neg}
use Rattle.layout.specs.General.Floats.{one64, minus_one64}
use Rattle.augment_standard.specs.Beside.{pair_values}
use Rattle.augment_standard.proofs.Columns.{length_pairs}
use Rattle.layout.proofs.Lists.Buffers.{written_after}
use lib.ListN.{length}
use mathlib.Core.Path.{refl}
use Rattle.augment_standard.proofs.write_values.Goals as goal

pub returns : goal.returns
unfolding of_bits neg
returns c =
    let a = c.args in
    written_after a.values.now (pair_values one64 minus_one64 a.k) a.out.now (length a.values.now) refl (omega (arith, length_pairs one64 minus_one64 a.k)) c.copy_front.ensures c.write_pairs.ensures
