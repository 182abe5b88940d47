use mathlib.Core.Path.{refl}
use mathlib.Core.List.{[]}
use Rattle.layout.proofs.Lists.Buffers.{two_more}
use native.Mathlib.Omega.{arith}
use Rattle.join_on_route.proofs.write_scalars.Goals as goal

pub returns : goal.returns
returns c =
    let a = c.args in
    two_more [] a.out.now a.scalars.tau a.scalars.kappa 0 refl (omega arith)
