use Rattle.std.proofs.Common.{ℕ, List, ap, subst, ◌∙◌, arith}
use mathlib.Core.Path.{ap₂}
use native.Mathlib.Nat.{le_refl}
use lib.ListN.{get_or, set}
use lib.Ieee.{Float, nan}
use Rattle.layout.proofs.Lists.Buffers.{mapped_more, mapped-done}
use Rattle.reverse_standard.specs.Averages.{averaged_by, shared, Clears}
use Rattle.reverse_standard.proofs.Laws.{mapped_next, clears_more}
use Rattle.reverse_standard.proofs.take_averages.Goals as goal

pub loop-i-preserved : goal.loop-i-preserved
loop-i-preserved c =
    let a = c.args in
    let i = c.loop-i.i in
    let f = averaged_by a.counts.now a.z.now in (
      ap (set c.loop-i.z i)
          (c.row_average.ensures
          ∙ ap₂ shared ((c.loop-i.invariant.1 i).1 (le_refl i)) (ap (λ (z : List Float). get_or z i nan) c.loop-i.invariant.0 ∙ mapped_next f a.z.now i nan))
          ∙ ap (λ (z : List Float). set z i (f i)) c.loop-i.invariant.0
          ∙ mapped_more f a.z.now i (omega arith),
      clears_more i a.counts.now c.loop-i.counts (omega arith) c.loop-i.invariant.1,
    )

pub returns : goal.returns
returns c =
    let a = c.args in
    record {
      z_after = c.loop-i.invariant.0 ∙ mapped-done (averaged_by a.counts.now a.z.now) a.z.now c.loop-i.i (omega arith);
      clears = subst (λ (n : ℕ). Clears n a.counts.now c.loop-i.counts) (omega arith) c.loop-i.invariant.1;
    }
