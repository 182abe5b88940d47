use native.Mathlib.Omega.{arith}
use Rattle.layout.proofs.Lists.Buffers.{written_after}
use Rattle.augment_standard.specs.Beside.{h_starts}
use Rattle.augment_standard.proofs.Columns.{length-h_starts}
use lib.ListN.{length}
use mathlib.Core.Path.{refl}
use Rattle.augment_standard.proofs.write_starts.Goals as goal

pub returns : goal.returns
returns c =
    let a = c.args in
    written_after a.starts.now (h_starts a.entries a.k) a.out.now (length a.starts.now) refl (omega (arith, length-h_starts a.entries a.k)) c.copy_front.ensures c.write_h_starts.ensures
