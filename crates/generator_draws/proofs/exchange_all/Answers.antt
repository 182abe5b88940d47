use Prim.Native.Nat.{ℕ, ◌+◌, ◌-◌, ◌%◌, ◌<◌}
use native.Mathlib.Nat.{mod-lt}
use native.Mathlib.Omega.{arith}
use mathlib.Core.Path.{◌≡◌, sym, ◌∙◌}
use lib.ListN.{length}
use Rattle.layout.proofs.Generators.Orderings.{exchanges-step, draws-step}
use Rattle.generator_draws.proofs.exchange_all.Goals as goal

pub exchange_entries-requires : goal.exchange_entries-requires
exchange_entries-requires c =
    let i : ℕ = length c.args.out.now - c.loop-done.done in
    let low : c.draw-s.result % (i + 1) < i + 1 = mod-lt c.draw-s.result (omega arith) in
    (omega arith, omega arith)

pub loop-done-preserved : goal.loop-done-preserved
loop-done-preserved c =
    let count = length c.args.out.now in
    let i = count - c.loop-done.done in
    let s = c.loop-done.s in
    let less : count - (c.loop-done.done + 1) ≡ i - 1 = omega arith in
    let drawn = c.draw-s.ensures in (
      rw (less, drawn) (sym (draws-step i s (omega arith)) ∙ c.loop-done.invariant.0),
      rw (less, c.exchange_entries.ensures, drawn) (sym (exchanges-step i s c.loop-done.out (omega arith)) ∙ c.loop-done.invariant.1),
    )

pub returns : goal.returns
returns c =
    let e : length c.args.out.now - c.loop-done.done ≡ 0 = omega arith in
    record { value = rw e at c.loop-done.invariant.0; out_after = rw e at c.loop-done.invariant.1 }
