use Prim.Native.Nat.{ℕ, ◌+◌, ◌≤◌}
use native.Mathlib.Omega.{arith}
use mathlib.Core.Path.{sym, ap, ◌∙◌}
use mathlib.Core.List.{List}
use lib.ListN.{length, length-append}
use Rattle.layout.specs.General.Lists.{keep, below, up_from, written}
use Rattle.layout.specs.General.Triangle.{triangle}
use Rattle.layout.proofs.Lists.Buffers.{written_after, length_tail}
use Rattle.layout.proofs.Generators.BandRows.{in_band_at}
use Rattle.layout.proofs.Numbers.Triangles.{triangle_mono}
use Rattle.generator_band.proofs.Rows.{rows_few, column-after, next-column}
use Rattle.generator_band.proofs.cover_rows.Goals as goal

pub cover_column-count-requires-clause-first_value : goal.cover_column-count-requires-clause-first_value
cover_column-count-requires-clause-first_value c =
    let a = c.args in
    let j = c.loop-j.j in
    let p = in_band_at a.places.now a.w in
    let up = triangle_mono (j + 1) (length a.places.now) (omega arith) in
    let few = rows_few p 0 (triangle j) in
    (c.loop-j.invariant.0, omega (arith, c.requires.3, column-after p j, up, few, c.loop-j.invariant.1, c.loop-j.auto.rows, length_tail c.loop-j.rows c.loop-j.count))

pub loop-j-preserved : goal.loop-j-preserved
loop-j-preserved c =
    let a = c.args in
    let j = c.loop-j.j in
    let p = in_band_at a.places.now a.w in
    let up = triangle_mono (j + 1) (length a.places.now) (omega arith) in
    let more = next-column p j in
    let ks = keep p (below (triangle j)) in
    let new = keep p (up_from (triangle j) (j + 1)) in
    let fits : length ks + length new ≤ length a.rows.now =
    omega (arith, c.requires.3, column-after p j, up, rows_few p 0 (triangle j), rows_few p (triangle j) (j + 1)) in (
      omega (arith, column-after p j, c.loop-j.invariant.0),
      rw (more, length-append ks new) (omega (arith, c.cover_column-count.ensures.value, c.loop-j.invariant.1)),
      written_after ks new a.rows.now c.loop-j.count c.loop-j.invariant.1 fits c.loop-j.invariant.2 c.cover_column-count.ensures.rows_after
          ∙ ap (λ (xs : List ℕ). written xs a.rows.now) (sym more),
    )
