use Prim.Native.Nat.{◌*◌}
use native.Mathlib.Omega.{arith}
use mathlib.Core.Path.{◌≡◌}
use lib.ListN.{length}
use Rattle.augment_standard.specs.Beside.{pair_values}
use Rattle.augment_standard.proofs.Columns.{length_pairs, pairs_more}
use Rattle.layout.proofs.Lists.Buffers.{two_more}
use Rattle.augment_standard.proofs.write_pairs.Goals as goal

pub loop-i-preserved : goal.loop-i-preserved
loop-i-preserved c =
    let a = c.args in
    let i = c.loop-i.i in
    let seam : 2 * i ≡ length (pair_values a.first a.second i) = omega (arith, length_pairs a.first a.second i) in
    rw (c.loop-i.invariant, pairs_more a.first a.second i) (two_more (pair_values a.first a.second i) a.out.now a.first a.second (2 * i) seam (omega arith))

pub returns : goal.returns
returns c = let e : c.loop-i.i ≡ c.args.k = omega arith in rw e at c.loop-i.invariant
