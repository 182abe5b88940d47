-- Same layout in terms of written outputs: what the outputs of two cuts have in common. Only the contracts of same layout and of the cuts
-- are used.
use Prim.Native.Nat.{ℕ}
use native.Mathlib.Omega.{arith}
use mathlib.Core.Path.{◌≡◌, sym, ap, subst, ◌∙◌}
use mathlib.Core.Bool.{Bool, true, false, cond}
use mathlib.Core.List.{List}
use lib.ListN.{length, get_or, take}
use lib.Dec.{T}
use lib.Ieee.{Float}
use Rattle.layout.specs.General.Lists.{written, same_by}
use Rattle.layout.specs.General.Floats.{same_bits}
use Rattle.layout.specs.Problems.Problem.{Problem, Route}
use Rattle.layout.specs.Checks.{refusal}
use Rattle.layout.specs.Calls.Cut.{Augmented, lengths, augmented, cut_refusal, Holds, Cut}
use Rattle.layout.specs.Calls.Answers.{or_else, route_of, roomy}
use Rattle.layout.specs.Calls.SameLayout.{same_layout, SameLayout}
use Rattle.layout.specs.Written.SameWritten.{SameWritten}
use Rattle.layout.proofs.Lists.Buffers.{front_read}
use Rattle.layout.proofs.Promises.{taken}
use Rattle.layout.proofs.Theorems.SameLayout.{same_augmented}

-- the written number 1 means that the layouts agree
told : (b : Bool) (k : ℕ) → k ≡ cond b 1 0 → k ≡ 1 → T b
told true k e f = tt
told false k e f = absurd (omega (arith, e, f))

layouts_told : (p q : Problem) {before after : List ℕ} → SameLayout p q before after 0 → get_or after 0 0 ≡ 1 → T (same_layout p q)
layouts_told p q {before} {after} same one = told (same_layout p q) (get_or after 0 0) (ap (λ (ws : List ℕ). get_or ws 0 0) same.out) one

-- two outputs to which equal tables were written agree in what was written
both_fronts : {A : Type 0} (new new2 old old2 : List A) {out out2 : List A} → out ≡ written new old → out2 ≡ written new2 old2 → new ≡ new2
    → take (length new) out ≡ take (length new2) out2
both_fronts new new2 old old2 w w2 e = front_read new old w ∙ e ∙ sym (front_read new2 old2 w2)

module _ (route : Route) (p q : Problem) (same : T (same_layout p q)) (okp : refusal route p ≡ 0) (okq : refusal route q ≡ 0) where
  same_rooms : (rooms : List ℕ) → cut_refusal route p rooms ≡ cut_refusal route q rooms
  same_rooms rooms = λ i. or_else ((okp ∙ sym okq) i) (cond (roomy ((same_augmented route p q same okp okq).lengths i) rooms) 0 11)

  held : {before before2 after after2 : Augmented} → Holds 0 (augmented route p) before after → Holds 0 (augmented route q) before2 after2
      → SameWritten route p q after after2
  held {before} {before2} {after} {after2} h g =
      let e = same_augmented route p q same okp okq in
      let new = augmented route p in
      let new2 = augmented route q in
      record {
        p_starts = both_fronts new.P.starts new2.P.starts before.P.starts before2.P.starts h.objective.p_starts g.objective.p_starts e.starts_p;
        p_rows = both_fronts new.P.rows new2.P.rows before.P.rows before2.P.rows h.objective.p_rows g.objective.p_rows e.rows_p;
        a_starts = both_fronts new.A.starts new2.A.starts before.A.starts before2.A.starts h.constrained.a_starts g.constrained.a_starts e.starts;
        a_rows = both_fronts new.A.rows new2.A.rows before.A.rows before2.A.rows h.constrained.a_rows g.constrained.a_rows e.rows;
        cones = both_fronts new.cones new2.cones before.cones before2.cones h.constrained.cones g.constrained.cones e.cones;
        alphas =
            subst (λ (xs : List Float). T (same_by same_bits xs (take (length new2.alphas) after2.alphas)))
            (sym (front_read new.alphas before.alphas h.objective.alphas))
            (subst (λ (ys : List Float). T (same_by same_bits new.alphas ys))
            (sym (front_read new2.alphas before2.alphas g.objective.alphas))
            e.alphas);
        map = both_fronts new.map new2.map before.map before2.map h.map g.map e.map;
        lengths = e.lengths;
        rooms = same_rooms;
      }

-- If same layout returns 0 and writes 1, and both cuts on one route return 0, their outputs agree.
pub same_written : (route : ℕ) (p q : Problem) {answer₀ answer : List ℕ} → SameLayout p q answer₀ answer 0 → get_or answer 0 0 ≡ 1
    → {before before2 after after2 : Augmented} → Cut route p before after 0 → Cut route q before2 after2 0
    → SameWritten (route_of route) p q after after2
same_written route p q same one {before} {before2} cut cut2 =
    held (route_of route) p q (layouts_told p q same one)
    (taken route p (lengths before) (sym cut.number)).1.0
    (taken route q (lengths before2) (sym cut2.number)).1.0
    cut.tables cut2.tables
