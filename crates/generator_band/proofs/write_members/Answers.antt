use Prim.Native.Nat.{ℕ, ◌+◌}
use native.Mathlib.Omega.{arith}
use mathlib.Core.Path.{◌≡◌, sym, ap, ◌∙◌}
use mathlib.Core.List.{List}
use Rattle.layout.specs.General.Lists.{up_from, written}
use Rattle.layout.proofs.Lists.Buffers.{set-written}
use Rattle.layout.proofs.Lists.Members.{length-up_from}
use Rattle.generator_band.proofs.Rows.{up_from_more}
use Rattle.generator_band.proofs.write_members.Goals as goal

pub loop-i-preserved : goal.loop-i-preserved
loop-i-preserved c =
    let a = c.args in
    let i = c.loop-i.i in
    rw c.loop-i.invariant (set-written (up_from a.first i) a.out.now (a.first + i) i (sym (length-up_from a.first i)) (omega arith)
    ∙ ap (λ (xs : List ℕ). written xs a.out.now) (sym (up_from_more a.first i)))

pub returns : goal.returns
returns c =
    let e : c.loop-i.i ≡ c.args.count = omega arith in
    rw e at c.loop-i.invariant
