use native.Mathlib.Omega.{arith}
use mathlib.Core.Path.{◌≡◌}
use lib.ListN.{length-set}
use Rattle.layout.proofs.Lists.Buffers.{fill_more}
use Rattle.csc.proofs.fill_front.Goals as goal

pub loop-i-preserved : goal.loop-i-preserved
loop-i-preserved g c =
    let a = c.args in (
      omega arith,
      simp length-set c.loop-i.invariant.1,
      rw c.loop-i.invariant.2 (fill_more a.out.now c.loop-i.i a.v (omega arith)),
    )

pub shape_of-out : goal.shape_of-out
shape_of-out g c = c.loop-i.invariant.1

pub returns : goal.returns
returns g c = let e : c.loop-i.i ≡ c.args.k = omega arith in rw e at c.loop-i.invariant.2
