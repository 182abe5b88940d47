use Prim.Native.Nat.{ℕ}
use native.Mathlib.Omega.{arith}
use mathlib.Core.Path.{ap, ◌∙◌}
use mathlib.Core.List.{List}
use lib.ListN.{length}
use Rattle.layout.specs.General.Lists.{written}
use Rattle.layout.specs.General.Triangle.{triangle}
use Rattle.layout.proofs.Numbers.Triangles.{triangle_mono}
use Rattle.generator.proofs.Rows.{ordering-low, places_long, places_low, places_rows}
use Rattle.generator.proofs.draw_band.Goals as goal

pub scatter-requires : goal.scatter-requires
scatter-requires c =
    let v = length c.args.ordering.now in record { below = ordering-low c.args.seed v (omega arith) c.draw_ordering-state.new.out c.draw_ordering-state.ensures.out_after (length c.args.places.now) (omega arith); words_len_bound = omega arith }

pub cover_rows-count-requires : goal.cover_rows-count-requires
cover_rows-count-requires c =
    let v = length c.args.ordering.now in
    let os = c.draw_ordering-state.new.out in
    let ps = c.scatter.new.out in
    let long = places_long c.args.seed v (omega arith) os ps c.args.places.now c.draw_ordering-state.ensures.out_after c.scatter.ensures c.requires.2 in
    let low = places_low c.args.seed v (omega arith) os ps c.args.places.now c.draw_ordering-state.ensures.out_after c.scatter.ensures c.requires.2 in
    (omega (arith, long), low (omega arith), omega arith, omega (arith, ap triangle long, triangle_mono v 64 (omega arith), c.requires.3))

pub returns : goal.returns
returns c =
    let v = length c.args.ordering.now in
    let os = c.draw_ordering-state.new.out in
    let ps = c.scatter.new.out in
    let rows = places_rows c.args.seed v (omega arith) os ps c.args.places.now c.draw_ordering-state.ensures.out_after c.scatter.ensures c.requires.2
    c.args.w c.requires.0 c.requires.1 in record { state_value = (c.draw_ordering-state.ensures.value, c.cover_rows-count.ensures.value ∙ ap length rows); rows_after = c.cover_rows-count.ensures.rows_after ∙ ap (λ (xs : List ℕ). written xs c.args.rows.now) rows }
