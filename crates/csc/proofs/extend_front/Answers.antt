use native.Mathlib.Omega.{arith}
use lib.ListN.{replicate, length-replicate, length}
use Rattle.layout.proofs.Lists.Buffers.{written_after}
use mathlib.Core.Path.{refl}
use Rattle.csc.proofs.extend_front.Goals as goal

pub returns : goal.returns
returns g c =
    let a = c.args in
    written_after a.src.now (replicate a.k a.v) a.out.now (length a.src.now) refl (omega (arith, length-replicate a.k a.v))
    c.copy_front.ensures c.fill_front.ensures
