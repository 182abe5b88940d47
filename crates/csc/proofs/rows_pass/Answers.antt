use Prim.Native.Nat.{ℕ, ◌+◌, ◌-◌}
use native.Mathlib.Numerals.{add-one}
use mathlib.Core.Path.{◌≡◌, refl, sym, ◌∙◌}
use mathlib.Core.Bool.{Bool}
use mathlib.Core.List.{List}
use lib.ListN.{get_or, take, drop}
use Rattle.std.proofs.Common.{Bor}
use Rattle.std.specs.Fn.{FnReturnsAt, Shared}
use Rattle.layout.specs.Checks.{column_rows}
use Rattle.csc.specs.Matrix.{table}
use Rattle.csc.proofs.Fronts.{empty_passes, below_step, below_fails, below-done}
use Rattle.csc.proofs.rows_pass.Goals as goal

-- the result of the call at the rows of column c
told : {F : Type 0} (g : Shared F (Bor (List ℕ) × Unit {0}) Bool) (f : F) (p : List ℕ → Bool)
    → ((xs : List ℕ) (b : Bool) → FnReturnsAt g f xs b → b ≡ p xs)
    → (starts rows : List ℕ) (c : ℕ) (part : Bor (List ℕ)) (b : Bool)
    → part.now ≡ take (get_or starts (c + 1) 0 - get_or starts c 0) (drop (get_or starts c 0) rows) → g.post f (part, tt) b
    → b ≡ p (column_rows (table starts rows) c)
told g f p h starts rows c part b e met =
    h (column_rows (table starts rows) c) b (record { shown = part; shows = rw (← add-one c) e; says = record { met = met } })

pub returns-then-rows-eq0 : goal.returns-then-rows-eq0
returns-then-rows-eq0 g c = λ p e h. let a = c.args in sym (empty_passes p e a.m a.n a.starts.now a.rows.now c.if-rows-eq0.true)

pub returns-then-not-all_below : goal.returns-then-not-all_below
returns-then-not-all_below g c = λ p e h. rw (sym c.all_below.ensures ∙ c.if-not-all_below.true)

pub returns-then-not-ordered : goal.returns-then-not-ordered
returns-then-not-ordered g c = λ p e h.
    let a = c.args in
    let passes : ℕ → Bool = λ k. p (column_rows (table a.starts.now a.rows.now) k) in
    let here = told g.F.Fn a.ordered p h a.starts.now a.rows.now c.loop-c.c _ _ refl c.if-not-ordered.ensures in
    rw (sym c.all_below.ensures ∙ c.if-not-all_below.false)
    (sym (c.loop-c.invariant p h ∙ below_fails passes a.n c.loop-c.c c.loop-c-test.true (sym here)))

pub loop-c-preserved : goal.loop-c-preserved
loop-c-preserved g c = λ p h.
    let a = c.args in
    let passes : ℕ → Bool = λ k. p (column_rows (table a.starts.now a.rows.now) k) in
    let here = told g.F.Fn a.ordered p h a.starts.now a.rows.now c.loop-c.c _ _ refl c.if-not-ordered.ensures in
    c.loop-c.invariant p h ∙ below_step passes a.n c.loop-c.c c.loop-c-test.true (sym here)

pub returns : goal.returns
returns g c = λ p e h.
    let a = c.args in
    let passes : ℕ → Bool = λ k. p (column_rows (table a.starts.now a.rows.now) k) in
    rw (sym c.all_below.ensures ∙ c.if-not-all_below.false)
    (sym (c.loop-c.invariant p h ∙ below-done passes a.n c.loop-c.c c.loop-c-test.false))
