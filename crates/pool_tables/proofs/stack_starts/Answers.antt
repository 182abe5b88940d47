use Prim.Native.Nat.{suc}
use mathlib.Core.Path.{◌≡◌}
use Rattle.layout.proofs.Lists.Buffers.{mapped_more}
use native.Mathlib.Omega.{arith}
use Rattle.pool_tables.proofs.stack_starts.Invariants.{start_sum}
use Rattle.pool_tables.proofs.stack_starts.Goals as goal

pub loop-c-preserved : goal.loop-c-preserved
loop-c-preserved c =
    let a = c.args in
    rw c.loop-c.invariant (mapped_more (start_sum a.starts.now a.starts2.now) a.out.now c.loop-c.c (omega (arith, c.requires.starts_len)))

pub returns : goal.returns
returns c =
    let e : c.loop-c.c ≡ suc c.args.n = omega (arith, c.requires.starts_len) in
    rw e at c.loop-c.invariant
