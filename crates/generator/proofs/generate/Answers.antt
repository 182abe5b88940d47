use Prim.Native.Nat.{◌≤◌, ◌<◌}
use native.Mathlib.Omega.{arith}
use mathlib.Core.Path.{◌≡◌, sym}
use Rattle.layout.specs.Calls.Generate.{drawn_ordering, generated}
use Rattle.layout.specs.Calls.Tables.{Tables, tables, table_rooms}
use Rattle.layout.proofs.Generators.Band.{band-words}
use Rattle.layout.proofs.Generators.Orderings.{ordering_permutes}
use Rattle.layout.proofs.Promises.{TablesFit, tables_fit}
use Rattle.layout.proofs.Theorems.Generated.{generate_done, ranges}
use Rattle.generator.proofs.generate.Goals as goal
use Rattle.generator.proofs.generate.Goals.{Start}

-- the outputs before the call
abbrev lent : Start → Tables
lent s =
    let a = s.args in
    tables a.p_starts_out.now a.p_rows_out.now a.p_values_out.now a.q_out.now a.a_starts_out.now a.a_rows_out.now
    a.a_values_out.now a.b_out.now a.cones_out.now a.alphas_out.now a.pattern_words_out.now

pub write_layout-requires : goal.write_layout-requires
write_layout-requires c =
    let s = (goal.at.write_layout-requires c).Start in
    let a = c.args in
    let (ok, room) = generate_done a.seed a.v a.w a.n (table_rooms (lent s)) (sym c.in_ok-write_constraints.ensures.value) in
    let fits : TablesFit (generated a.seed a.v a.w a.n) (lent s) = tables_fit (generated a.seed a.v a.w a.n) (lent s) room in
    let (_, few, _, narrow, _, _) = ranges a.seed a.v a.w a.n ok in
    (narrow, few, fits.cones, omega (arith, fits.pattern_words, band-words (drawn_ordering a.seed a.v) a.v a.w narrow, (ordering_permutes a.seed a.v (omega arith)).1))
