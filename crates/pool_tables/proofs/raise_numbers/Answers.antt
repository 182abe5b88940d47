use Prim.Native.Nat.{ℕ, ◌+◌}
use mathlib.Core.Path.{sym, ap, ◌∙◌}
use lib.ListN.{take, set, length-map}
use Rattle.layout.specs.General.Lists.{written}
use Rattle.layout.proofs.Lists.Buffers.{copy_more, copy_done}
use Rattle.layout.proofs.Lists.Members.{get_or_map}
use Rattle.pool_tables.specs.Stacked.{raised}
use native.Mathlib.Omega.{arith}
use Rattle.pool_tables.proofs.raise_numbers.Goals as goal

pub loop-i-preserved : goal.loop-i-preserved
loop-i-preserved c =
    let a = c.args in
    let xs = raised a.k a.src.now in
    let i = c.loop-i.i in
    let many = length-map a.src.now (λ x. a.k + x) in
    rw c.loop-i.invariant
    (ap (λ (v : ℕ). set (written (take i xs) a.out.now) i v) (sym (get_or_map (λ x. a.k + x) a.src.now i 0 0 c.loop-i-test.true))
    ∙ copy_more xs a.out.now i 0 (omega arith) (omega (arith, c.requires.src_in_bounds)))

pub returns : goal.returns
returns c =
    let a = c.args in
    c.loop-i.invariant
    ∙ copy_done (raised a.k a.src.now) a.out.now c.loop-i.i (omega (arith, c.loop-i-test.false, length-map a.src.now (λ x. a.k + x)))
