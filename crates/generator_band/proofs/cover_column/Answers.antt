use Prim.Native.Nat.{ℕ, ◌+◌}
use native.Mathlib.Omega.{arith}
use mathlib.Core.Path.{◌≡◌, sym, ap, ◌∙◌}
use mathlib.Core.List.{[], ◌∷◌}
use lib.ListN.{length-append}
use Rattle.layout.specs.General.Lists.{keep, up_from}
use Rattle.layout.specs.General.Triangle.{triangle}
use Rattle.layout.proofs.Lists.Buffers.{set-written}
use Rattle.layout.proofs.Generators.BandRows.{in_band_at, band-pair-at}
use Rattle.generator_band.proofs.Rows.{row_hit, row_miss, rows_few}
use Rattle.generator_band.proofs.cover_column.Goals.{then-is_within, else-is_within}
use Rattle.generator_band.proofs.cover_column.Goals as goal

pub bounds-rows-count : goal.bounds-rows-count
bounds-rows-count c =
    let a = c.args in
    omega (arith, rows_few (in_band_at a.places.now a.w) (triangle a.j) c.loop-i.i, c.loop-i.invariant.0, c.loop-i.auto.rows, c.requires.first_value)

pub loop-i-preserved : goal.loop-i-preserved
loop-i-preserved c =
    let a = c.args in
    let p = in_band_at a.places.now a.w in
    let t = triangle a.j in
    let i = c.loop-i.i in
    let ks = keep p (up_from t i) in
    let few = rows_few p t i in
    let in_band : p (t + i) ≡ c.is_within.result =
    band-pair-at a.places.now a.w i a.j (omega arith) (omega (arith, c.requires.j_in_bounds)) ∙ sym c.is_within.ensures in
    elim c.if-is_within.branch [
      | then-is_within w ↦
          let more = row_hit p t i (in_band ∙ w.if-is_within.true) in
          let here : a.first + i ≡ t + i = ap (λ (k : ℕ). k + i) c.requires.first_value.0 in (
            w.count-is ∙ rw more (omega (arith, length-append ks ((t + i) ∷ []), c.loop-i.invariant.0)),
            w.rows-is ∙ rw (more, here, c.loop-i.invariant.1) (set-written ks a.rows.now (t + i) c.loop-i.count c.loop-i.invariant.0 (omega (arith, few, c.loop-i.invariant.0, c.requires.first_value))),
          )
      | else-is_within w ↦
          let same = row_miss p t i (in_band ∙ w.if-is_within.false) in
          (w.count-is ∙ rw same c.loop-i.invariant.0, w.rows-is ∙ rw same c.loop-i.invariant.1)
    ]
