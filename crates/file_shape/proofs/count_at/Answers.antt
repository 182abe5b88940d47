use mathlib.Core.Path.{refl}
use native.Mathlib.Omega.{arith}
use Rattle.file_shape.proofs.count_at.Goals as goal

pub overflow_cast-result : goal.overflow_cast-result
overflow_cast-result c = omega (arith, c.shared_slice_known-1.given c.args.i)

pub returns : goal.returns
returns c = (refl, omega (arith, c.shared_slice_known-1.given c.args.i))
