use native.Mathlib.Omega.{arith}
use mathlib.Core.Path.{ap, ◌∙◌}
use lib.ListN.{length-set, take, set}
use Rattle.layout.specs.General.Lists.{written}
use Rattle.layout.proofs.Lists.Buffers.{copy_more, copy_done}
use Rattle.csc.proofs.copy_front.Goals as goal

pub loop-i-preserved : goal.loop-i-preserved
loop-i-preserved g c =
    let a = c.args in
    let i = c.loop-i.i in
    let x = c.index-src-i in (
      omega arith,
      simp length-set c.loop-i.invariant.1,
      rw c.loop-i.invariant.2 (ap (λ v. set (written (take i a.src.now) a.out.now) i v) x.is ∙ copy_more a.src.now a.out.now i x.result (omega arith) c.requires),
    )

pub returns : goal.returns
returns g c = c.loop-i.invariant.2 ∙ copy_done c.args.src.now c.args.out.now c.loop-i.i (omega arith)
