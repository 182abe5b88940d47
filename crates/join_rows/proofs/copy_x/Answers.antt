use mathlib.Core.Path.{sym}
use native.Mathlib.Omega.{arith}
use lib.Seq.{length-take-le}
use Rattle.join_rows.proofs.copy_x.Goals as goal

pub slice_bounds-copy_front-end : goal.slice_bounds-copy_front-end
slice_bounds-copy_front-end c =
    sym (length-take-le c.args.n c.args.x.now (omega arith))

pub copy_front-requires : goal.copy_front-requires
copy_front-requires c =
    omega (arith, length-take-le c.args.n c.args.x.now (omega arith))
