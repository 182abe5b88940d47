use Rattle.std.proofs.Common.{◌≡◌, ◌∙◌, List, ℕ, length, get_or, sym, subst, arith}
use native.Mathlib.Nat.{le_refl}
use Rattle.layout.specs.General.Floats.{one64, minus_one64}
use Rattle.layout.specs.Cuts.Compact.{Entry, csc}
use Rattle.layout.specs.Cuts.Runs.{sums, run_count}
use Rattle.layout.proofs.Columns.Columns.{starts-right}
use Rattle.csc.specs.Matrix.{matrix}
use Rattle.augment_standard.proofs.Columns.{length_pairs}
use Rattle.augment_compact.proofs.Columns.{columns_start}
use Rattle.augment_compact.specs.Cut.{coded_columns, tied_rows, Behind}
use Rattle.augment_compact.proofs.write_entries.Goals as goal

pub write_columns-requires : goal.write_columns-requires
write_columns-requires c = record {
  fact = c.requires.fact;
  placing = (rw c.write_place.ensures c.requires.rows_inside.1, c.requires.rows_inside.2);
  fact_2 = (omega (arith, c.requires.fact_2.0), omega (arith, c.requires.fact_2.1));
}

pub write_overlaps-requires : goal.write_overlaps-requires
write_overlaps-requires c =
    let a = c.args in
    let last = c.requires.fact.2.1 a.n (le_refl a.n) in
    rw c.write_columns.ensures.codes_unchanged (
      omega (arith, last, c.requires.fact_2.0),
      omega (arith, last, c.requires.fact_2.1),
      c.requires.rows_inside.1.few,
    )

pub returns : goal.returns
returns c =
    let a = c.args in
    let M = matrix a.starts.now a.rows.now a.values.now in
    let codes = a.codes.now in
    let count = get_or a.run_starts.now a.n 0 in
    let moved = csc (coded_columns a.n (sums a.n M) codes) in
    let last : count ≡ run_count a.n M = c.requires.fact.2.1 a.n (le_refl a.n) in
    let right = starts-right a.n M c.requires.fact.0 in
    let rows-count : length moved.rows ≡ run_count a.n M =
    columns_start a.n M codes _ right c.requires.fact.1 c.requires.rows_inside.1 (λ (e : Entry). e.row) a.n (le_refl a.n) in
    let values-count : length moved.values ≡ run_count a.n M =
    columns_start a.n M codes _ right c.requires.fact.1 c.requires.rows_inside.1 (λ (e : Entry). e.value) a.n (le_refl a.n) in
    let o = c.write_overlaps.ensures in
    let e = c.write_columns.ensures in
    let tied : Behind count (tied_rows 0 codes) c.write_columns.new.rows_out c.write_overlaps.new.rows_out =
    subst (λ (codes : List ℕ). Behind count (tied_rows 0 codes) c.write_columns.new.rows_out c.write_overlaps.new.rows_out) e.codes_unchanged o.behind in record {
      rows_out_after = tied moved.rows a.rows_out.now (last ∙ sym rows-count) (omega (arith, rows-count, c.requires.fact_2.0)) e.rows_out_after;
      values_out_after = o.behind_2 moved.values a.values_out.now (last ∙ sym values-count) (omega (arith, values-count, length_pairs minus_one64 one64 a.k, c.requires.fact_2.1)) e.values_out_after;
      codes_unchanged = e.codes_unchanged;
      place_after = c.write_place.ensures;
      chunks_unchanged = e.chunks_unchanged;
    }
