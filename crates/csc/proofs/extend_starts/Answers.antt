use native.Mathlib.Omega.{arith}
use mathlib.Core.Path.{refl}
use lib.ListN.{length, replicate, length-replicate}
use Rattle.layout.proofs.Lists.Buffers.{written_after}
use Rattle.csc.proofs.extend_starts.Goals as goal

pub returns : goal.returns
returns c =
    let a = c.args in
    rw (← c.nnz.ensures)
    (written_after a.starts.now (replicate a.k c.nnz.result) a.out.now (length a.starts.now) refl (omega (arith, length-replicate a.k c.nnz.result))
    c.copy_front.ensures c.fill_front.ensures)
