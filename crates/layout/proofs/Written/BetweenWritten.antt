-- Limits of a right side on written outputs, from the contracts of the cut with limits and of the single cuts alone.
use mathlib.Core.Path.{◌≡◌, sym, subst, ◌∙◌}
use mathlib.Core.Bool.{cond}
use mathlib.Core.List.{List}
use lib.ListN.{length, take}
use lib.Dec.{T}
use lib.Ieee.{Float}
use Rattle.layout.specs.General.Lists.{written}
use Rattle.layout.specs.Problems.Problem.{Problem, with_b, compact}
use Rattle.layout.specs.Cuts.Compact.{compact_b}
use Rattle.layout.specs.Calls.Cut.{Augmented, augmented, augmented_with_b, Holds, Cut, front_on}
use Rattle.layout.specs.Calls.Answers.{roomy}
use Rattle.layout.specs.Calls.CutBetween.{between, limits_failing, limits_sizes, Limits, limits_rooms, CutBetween}
use Rattle.layout.specs.Written.BetweenWritten.{SameButB, low_written, high_written, BetweenWritten}
use Rattle.layout.proofs.Lists.Buffers.{front_read}
use Rattle.layout.proofs.Checks.Order.{or_else-zero}
use Rattle.layout.proofs.Theorems.Between.{carries}

-- two outputs with the same table written to their start have the same prefix
same_fronts : {A : Type 0} (new old old2 : List A) {out out2 : List A} → out ≡ written new old → out2 ≡ written new old2
    → take (length new) out ≡ take (length new) out2
same_fronts new old old2 w w2 = front_read new old w ∙ sym (front_read new old2 w2)

-- the outputs of a cut with right side b agree, but for b, with outputs that hold the rest of a cut with right side c
pub same_but_b : (p : Problem) (b c new : List Float) {before before2 after after2 : Augmented} → Holds 0 (augmented compact (with_b p b)) before after
    → Holds 0 (augmented_with_b (augmented compact (with_b p c)) new) before2 after2 → SameButB (with_b p b) (with_b p c) after after2
same_but_b p b c new {before} {before2} h g =
    let all = augmented compact p in
    record {
      p_starts = same_fronts all.P.starts before.P.starts before2.P.starts h.objective.p_starts g.objective.p_starts;
      p_rows = same_fronts all.P.rows before.P.rows before2.P.rows h.objective.p_rows g.objective.p_rows;
      p_values = same_fronts all.P.values before.P.values before2.P.values h.objective.p_values g.objective.p_values;
      q = same_fronts all.q before.q before2.q h.objective.q g.objective.q;
      a_starts = same_fronts all.A.starts before.A.starts before2.A.starts h.constrained.a_starts g.constrained.a_starts;
      a_rows = same_fronts all.A.rows before.A.rows before2.A.rows h.constrained.a_rows g.constrained.a_rows;
      a_values = same_fronts all.A.values before.A.values before2.A.values h.constrained.a_values g.constrained.a_values;
      cones = same_fronts all.cones before.cones before2.cones h.constrained.cones g.constrained.cones;
      alphas = same_fronts all.alphas before.alphas before2.alphas h.objective.alphas g.objective.alphas;
      map = same_fronts all.map before.map before2.map h.map g.map;
    }

module _ (p : Problem) (low high : List Float) {before after : Limits} (call : CutBetween p low high before after 0) where
  -- no check up to 10 or 16 fails
  accepted-limits : limits_failing p low high ≡ 0
  accepted-limits = ((or_else-zero (limits_failing p low high) (cond (roomy (limits_sizes p low high) (limits_rooms before)) 0 11)).0 (sym call.number)).0

  low_read : low_written p low after ≡ compact_b (with_b p low)
  low_read = front_read (compact_b (with_b p low)) before.cut.b call.tables.constrained.b

  high_read : high_written p high after ≡ compact_b (with_b p high)
  high_read = front_read (compact_b (with_b p high)) before.high call.b_high

  own_read : (b : List Float) {lent own : Augmented} → Cut 1 (with_b p b) lent own 0 → front_on compact (with_b p b) 7 own.b ≡ compact_b (with_b p b)
  own_read b {lent} cut = front_read (compact_b (with_b p b)) lent.b cut.tables.constrained.b

  -- between the two written right sides is between the two augmentations
  as_written : (v : List Float) → between (low_written p low after) v (high_written p high after) ≡ between (compact_b (with_b p low)) v (compact_b (with_b p high))
  as_written v = λ i. between (low_read i) v (high_read i)

  pub between-written : BetweenWritten p low high after
  between-written =
      let c = carries p low high accepted-limits in
      record {
        accepted = c.accepted;
        carried = λ b h {lent} {own} cut.
            subst (λ (v : List Float). T (between (low_written p low after) v (high_written p high after))) (sym (own_read b cut))
            (subst T (sym (as_written (compact_b (with_b p b)))) (c.carried b h));
        others = λ b h {lent} {own} cut. same_but_b p b low (compact_b (with_b p low)) cut.tables call.tables;
        reached = λ v h. c.reached v (subst T (as_written v) h);
        written = λ b {lent} {own} cut. own_read b cut;
      }
