use Prim.Native.Nat.{ℕ, ◌-◌, ◌≤◌}
use native.Mathlib.Omega.{arith}
use mathlib.Core.Path.{◌≡◌, ap, ◌∙◌}
use lib.ListN.{length, replicate, take, length-replicate}
use lib.Seq.{length-take-le}
use Rattle.layout.specs.General.Lists.{written}
use Rattle.layout.specs.Calls.Generate.{draws, drawn_ordering, band_rows}
use Rattle.generator.proofs.draw_rows.Goals as goal

size : (v : ℕ) → v ≤ 64 → length {A = ℕ} (take v (replicate 64 0)) ≡ v
size v l = length-take-le {A = ℕ} v (replicate 64 0) (omega (arith, length-replicate {A = ℕ} 64 0))

pub returns-clause-state_value : goal.returns-clause-state_value
returns-clause-state_value c =
    let a = c.args in
    let e = size a.v c.requires.1 in
    let w = c.draw_band.ensures.state_value in
    (w.0 ∙ ap (λ (k : ℕ). draws (k - 1) a.seed) e, w.1 ∙ ap (λ (k : ℕ). length (band_rows (drawn_ordering a.seed k) k a.w)) e)

pub returns-clause-rows_after : goal.returns-clause-rows_after
returns-clause-rows_after c =
    let a = c.args in
    c.draw_band.ensures.rows_after ∙ ap (λ (k : ℕ). written (band_rows (drawn_ordering a.seed k) k a.w) a.rows.now) (size a.v c.requires.1)
