-- The compact problem of accepted tables whose compact file has at most 65,536 bytes: the lengths of its tables, and its tables in terms of
-- the cut's outputs.
use Prim.Native.Nat.{ℕ, suc, ◌+◌, ◌-◌, ◌≤◌, ◌<◌}
use native.Mathlib.Omega.{arith}
use mathlib.Core.Path.{◌≡◌, sym, ap, subst, ◌∙◌}
use mathlib.Core.List.{List, [], ◌∷◌, ◌++◌}
use lib.ListN.{length, get_or, take, replicate, length-map}
use lib.Dec.{lit<}
use lib.Ieee.{Float, binary64, of_bits, to_bits}
use Rattle.layout.specs.General.Floats.{floats, bits}
use Rattle.layout.specs.Problems.Problem.{Problem, compact}
use Rattle.layout.specs.Rows.Blocks.{block_row_count, overlap_count}
use Rattle.layout.specs.Checks.{layout, refusal}
use Rattle.layout.specs.Calls.Cut.{Augmented, augmented, sizes, Constrained, constrained, constrained_of, HoldsConstrained}
use Rattle.layout.specs.Calls.Answers.{problem_refusal}
use Rattle.layout.specs.Files.File.{bit_tables, BitTables, problem_of, widths, products, file_of, compact_tables}
use Rattle.layout.proofs.Columns.Sizes.{compact_sizes_lem}
use Rattle.layout.proofs.Files.Offsets.{table-inside}
use Rattle.layout.proofs.Theorems.Program.{compact_length}
use Rattle.cut_standard.specs.Fits.{ConstrainedFits}
use Rattle.compact_parts.specs.Problem.{constraints_of}
use Rattle.compact_tables.specs.Writers.{Writes, extended_tables, Extends}
use Rattle.compact_tables.proofs.Fronts.{front}

module _ (t : BitTables) (lengths : List ℕ) (w : Writes t lengths) where
  abbrev p : Problem
  p = problem_of t

  abbrev a : Augmented
  a = augmented compact (problem_of t)

  abbrev k : ℕ
  k = overlap_count (layout (problem_of t))

  abbrev ok : refusal compact (problem_of t) ≡ 0
  ok = w.accepted

  abbrev bytes : List ℕ
  bytes = products widths (take 10 (sizes compact p) ++ (0 ∷ []))

  fits : (i : ℕ) → i < 11 → get_or bytes i 0 ≤ 65536
  fits i l = omega (arith, table-inside 80 bytes i l, compact_length t, w.short)

  -- the lengths are those that `sizes` gives
  given : (i : ℕ) → get_or lengths i 0 ≡ get_or (take 10 (sizes compact (problem_of t)) ++ (0 ∷ [])) i 0
  given i = ap (λ (l : List ℕ). get_or l i 0) w.sized

  pub count-lengths : length lengths ≡ 11
  count-lengths = ap length w.sized

  pub columns_is : get_or lengths 3 0 ≡ t.n + overlap_count (layout (problem_of t))
  columns_is = given 3 ∙ ap (λ (l : List ℕ). get_or l 3 0) (compact_sizes_lem p ok)

  starts_is : suc (get_or lengths 3 0) ≡ length (augmented compact (problem_of t)).A.starts
  starts_is = ap suc columns_is ∙ sym (ap (λ (l : List ℕ). get_or l 4 0) (compact_sizes_lem p ok))

  entries_is : get_or lengths 5 0 ≡ length (augmented compact (problem_of t)).A.rows
  entries_is = given 5

  values_is : get_or lengths 5 0 ≡ length (augmented compact (problem_of t)).A.values
  values_is = given 5 ∙ ap (λ (l : List ℕ). get_or l 5 0) (compact_sizes_lem p ok) ∙ sym (ap (λ (l : List ℕ). get_or l 6 0) (compact_sizes_lem p ok))

  side_is : get_or lengths 7 0 ≡ length (augmented compact (problem_of t)).b
  side_is = given 7

  pub rows_is : get_or lengths 7 0 ≡ block_row_count (layout (problem_of t))
  rows_is = given 7 ∙ ap (λ (l : List ℕ). get_or l 7 0) (compact_sizes_lem p ok)

  cones_is : get_or lengths 8 0 ≡ length (augmented compact (problem_of t)).cones
  cones_is = given 8

  -- the buffers are long enough for these lengths
  pub room_columns : get_or lengths 3 0 ≤ 8192
  room_columns = omega (arith, fits 3 (lit< tt), given 3)

  pub room-entries : get_or lengths 5 0 ≤ 8192
  room-entries = omega (arith, fits 6 (lit< tt), values_is)

  pub room-rows : get_or lengths 7 0 ≤ 8192
  room-rows = omega (arith, fits 7 (lit< tt), given 7)

  pub room-cones : get_or lengths 8 0 ≤ 16384
  room-cones = omega (arith, fits 8 (lit< tt), given 8)

  -- the preconditions of the cut
  pub cut_fits : (j : ℕ) {starts rows cones : List ℕ} {values b : List Float} → j ≡ get_or lengths 3 0 - t.n
      → length starts ≡ 16384 → length rows ≡ 16384 → length values ≡ 8192 → length b ≡ 8192 → length cones ≡ 16384
      → ConstrainedFits compact (constraints_of t) j (constrained starts rows values b cones)
  cut_fits j e ls lr lv lb lc = record {
    accepted = record { P = p.P; q = p.q; alphas = p.alphas; accepted = ok };
    added = omega (arith, e, columns_is);
    starts = omega (arith, e, columns_is, room_columns, ls);
    rows = omega (arith, entries_is, room-entries, lr);
    values = omega (arith, values_is, room-entries, lv);
    slacks = omega (arith, rows_is, room-rows, lb);
    cones = omega (arith, cones_is, room-cones, lc);
  }

  -- the tables that are written, from the outputs of the cut: those of the compact problem
  module _ {before after : Constrained} (h : HoldsConstrained 0 (constrained_of (augmented compact (constraints_of t))) before after)
      {columns entries rows records : ℕ} (e3 : columns ≡ get_or lengths 3 0) (e5 : entries ≡ get_or lengths 5 0) (e7 : rows ≡ get_or lengths 7 0)
      (e8 : records ≡ get_or lengths 8 0) where
    values-cut : take entries after.A.values ≡ (augmented compact (problem_of t)).A.values
    values-cut = front a.A.values before.A.values entries h.a_values (e5 ∙ values_is)

    side_cut : take rows after.b ≡ (augmented compact (problem_of t)).b
    side_cut = front a.b before.b rows h.b (e7 ∙ side_is)

    pub cut-tables : extended_tables t columns (take (columns + 1) after.A.starts) (take entries after.A.rows)
        (bits (take entries after.A.values)) (bits (take rows after.b)) (take records after.cones) ≡ compact_tables t
    cut-tables =
        let wide : columns ≡ t.n + k = e3 ∙ columns_is in
        let added : columns - t.n ≡ k = omega arith in
        let stored : length t.p_values ≡ length (floats t.p_values) = sym (length-map t.p_values (of_bits binary64)) in
        let es = front a.A.starts before.A.starts (columns + 1) h.a_starts (omega (arith, e3, starts_is)) in
        let er = front a.A.rows before.A.rows entries h.a_rows (e5 ∙ entries_is) in
        let ec = front a.cones before.cones records h.cones (e8 ∙ cones_is) in
        let slacks : length (bits (take rows after.b)) ≡ block_row_count (layout p) = length-map (take rows after.b) (to_bits binary64) ∙ ap length side_cut ∙ sym side_is ∙ rows_is in
        λ i. bit_tables (wide i) (slacks i) (t.p_starts ++ replicate (added i) (stored i)) t.p_rows t.p_values (t.q ++ replicate (added i) 0)
        (es i) (er i) (bits (values-cut i)) (bits (side_cut i)) (ec i) t.alphas 0 []

    pub cut_extends : Extends t columns (take (columns + 1) after.A.starts) (take entries after.A.rows)
        (bits (take entries after.A.values)) (bits (take rows after.b)) (take records after.cones)
    cut_extends = record {
      passes = ap (λ (u : BitTables). problem_refusal (problem_of u)) cut-tables ∙ w.passes;
      short = subst (λ (u : BitTables). length (file_of u) ≤ 65536) (sym cut-tables) w.short;
      wide = omega (arith, e3, columns_is);
      few_columns = omega (arith, e3, room_columns);
      few_entries = omega (arith, length-map (take entries after.A.values) (to_bits binary64), ap length values-cut, values_is, room-entries);
      few_rows = omega (arith, length-map (take rows after.b) (to_bits binary64), ap length side_cut, side_is, room-rows);
    }
