use Prim.Native.Nat.{ℕ}
use native.Mathlib.Omega.{arith}
use mathlib.Core.Path.{◌≡◌, sym, ap, ◌∙◌}
use mathlib.Core.List.{List}
use lib.ListN.{length}
use Rattle.layout.specs.General.Lists.{below, written}
use Rattle.layout.proofs.Lists.Buffers.{set-written, written-whole}
use Rattle.layout.proofs.Lists.Keeps.{below_more}
use Rattle.layout.proofs.Lists.Members.{length-below}
use Rattle.generator_draws.proofs.count_up.Goals as goal

pub loop-i-preserved : goal.loop-i-preserved
loop-i-preserved c =
    let old = c.args.out.now in
    let i = c.loop-i.i in
    rw c.loop-i.invariant (set-written (below i) old i i (sym (length-below i)) (omega arith) ∙ ap (λ (xs : List ℕ). written xs old) (sym (below_more i)))

pub returns : goal.returns
returns c =
    let old = c.args.out.now in
    let e : c.loop-i.i ≡ length old = omega arith in
    c.loop-i.invariant ∙ written-whole (below c.loop-i.i) old (sym e ∙ sym (length-below c.loop-i.i)) ∙ ap below e
