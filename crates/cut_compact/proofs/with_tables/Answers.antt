use Prim.Native.Nat.{ℕ}
use mathlib.Core.Path.{ap, ◌∙◌}
use mathlib.Core.List.{List}
use lib.ListN.{length}
use Rattle.layout.specs.Cuts.Runs.{sums}
use Rattle.csc.specs.Matrix.{matrix}
use Rattle.augment_compact.specs.Cut.{cut_rows, cut_values}
use Rattle.augment_standard.proofs.Constraints.{renamed, sound}
use Rattle.cut_compact.proofs.Laws.{few-overlaps, rows_inside, columns_inside, columns_right, coded, placeable, starts_A, rows_A, values_A, values_b}
use Rattle.cut_compact.proofs.with_tables.Goals as goal

pub write_starts-requires-clause-columns_inside : goal.write_starts-requires-clause-columns_inside
write_starts-requires-clause-columns_inside g c = columns_inside c.requires.fact.accepted

pub write_starts-requires-clause-k_in_bounds : goal.write_starts-requires-clause-k_in_bounds
write_starts-requires-clause-k_in_bounds g c = (c.requires.fact.starts, few-overlaps c.requires.fact.accepted c.args.k c.requires.fact.overlaps)

pub write_sides-requires-clause-sound : goal.write_sides-requires-clause-sound
write_sides-requires-clause-sound g c = sound c.requires.fact.accepted

pub write_sides-requires-clause-rows_inside : goal.write_sides-requires-clause-rows_inside
write_sides-requires-clause-rows_inside g c = rows_inside c.requires.fact.accepted

pub write_entries-requires-clause-fact : goal.write_entries-requires-clause-fact
write_entries-requires-clause-fact g c =
    let f = c.requires.fact in
    columns_right f.accepted c.args.k c.args.a_starts_out.now f.starts c.write_starts.ensures

pub write_entries-requires-clause-rows_inside : goal.write_entries-requires-clause-rows_inside
write_entries-requires-clause-rows_inside g c =
    let f = c.requires.fact in
    let r = c.requires.rows_bound in
    let codes = coded f.accepted f.blocks r.0 c.write_sides.ensures.table_after in
    (placeable f.accepted f.blocks g.row.PLACES g.row.FLAGS c.args.k (length c.args.a_rows_out.now) (length c.args.a_values_out.now) codes.0 r.2 r.1 c.requires.sizes.1 f.overlaps f.entries f.values).0

pub write_entries-requires-clause-fact_2 : goal.write_entries-requires-clause-fact_2
write_entries-requires-clause-fact_2 g c =
    let f = c.requires.fact in
    let r = c.requires.rows_bound in
    let codes = coded f.accepted f.blocks r.0 c.write_sides.ensures.table_after in
    (placeable f.accepted f.blocks g.row.PLACES g.row.FLAGS c.args.k (length c.args.a_rows_out.now) (length c.args.a_values_out.now) codes.0 r.2 r.1 c.requires.sizes.1 f.overlaps f.entries f.values).1

pub returns : goal.returns
returns g c =
    let a = c.args in
    let f = c.requires.fact in
    let A = matrix a.a_starts.now a.a_rows.now a.a_values.now in
    let codes = coded f.accepted f.blocks c.requires.rows_bound.0 c.write_sides.ensures.table_after in (
      record {
        a_starts = renamed a.a_starts_out.now (starts_A f.accepted a.k f.overlaps) c.write_starts.ensures;
        a_rows = renamed a.a_rows_out.now (ap (cut_rows a.n (sums a.n A)) codes.0 ∙ rows_A f.accepted) c.write_entries.ensures.rows_out_after;
        a_values = renamed a.a_values_out.now (ap (λ (cs : List ℕ). cut_values a.n (sums a.n A) cs a.k) codes.0 ∙ values_A f.accepted a.k f.overlaps) c.write_entries.ensures.values_out_after;
      },
      renamed a.sides_out.now (values_b f.accepted a.sides.now a.side_count) c.write_sides.ensures.sides_out_after,
      renamed a.others_out.now (values_b f.accepted a.others.now a.other_count) c.write_sides.ensures.others_out_after,
    )
