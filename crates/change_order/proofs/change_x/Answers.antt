use native.Mathlib.Omega.{arith}
use mathlib.Core.Path.{sym}
use lib.Seq.{length-take-le}
use lib.Ieee.{of_bits}
use Rattle.change_order.proofs.change_x.Goals as goal

pub slice_bounds-extend_front-end : goal.slice_bounds-extend_front-end
slice_bounds-extend_front-end c =
    sym (length-take-le c.args.n c.args.x.now (omega arith))

pub extend_front-requires : goal.extend_front-requires
extend_front-requires c =
    omega (arith, length-take-le c.args.n c.args.x.now (omega arith))

pub returns : goal.returns
unfolding of_bits
returns c = c.extend_front.ensures
