use Prim.Native.Nat.{◌+◌}
use native.Mathlib.Omega.{arith}
use mathlib.Core.Path.{◌≡◌, sym}
use Rattle.layout.proofs.Lists.Buffers.{set-written}
use Rattle.augment_standard.specs.Beside.{h_starts}
use Rattle.augment_standard.proofs.Columns.{length-h_starts, starts_more}
use Rattle.augment_standard.proofs.write_h_starts.Goals as goal

pub loop-i-preserved : goal.loop-i-preserved
loop-i-preserved c =
    let a = c.args in
    let i = c.loop-i.i in (
      omega arith,
      rw (c.loop-i.invariant.1, starts_more a.entries i c.loop-i.end c.loop-i.invariant.0)
          (set-written (h_starts a.entries i) a.out.now (c.loop-i.end + 2) i (sym (length-h_starts a.entries i)) (omega arith)),
    )

pub returns : goal.returns
returns c = let e : c.loop-i.i ≡ c.args.k = omega arith in rw e at c.loop-i.invariant.1
