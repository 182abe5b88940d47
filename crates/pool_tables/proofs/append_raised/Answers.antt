use native.Mathlib.Omega.{arith}
use Prim.Native.Nat.{◌+◌}
use mathlib.Core.Path.{refl}
use lib.ListN.{length, length-map}
use Rattle.layout.proofs.Lists.Buffers.{written_after}
use Rattle.pool_tables.specs.Stacked.{raised}
use Rattle.pool_tables.proofs.append_raised.Goals as goal

pub returns : goal.returns
returns c =
    let a = c.args in
    written_after a.xs.now (raised a.k a.ys.now) a.out.now (length a.xs.now) refl
    (omega (arith, c.requires.ys_in_bounds, length-map a.ys.now (λ y. a.k + y))) c.copy_front.ensures c.raise_numbers.ensures
