-- One step of writing the columns after a marked column c that have its rows.
use Prim.Native.Nat.{ℕ, suc, ◌+◌, ◌-◌, ◌≤◌, ◌<◌}
use native.Mathlib.Numerals.{add-one}
use native.Mathlib.Omega.{arith}
use mathlib.Core.Path.{◌≡◌, ap, sym, subst, ◌∙◌}
use mathlib.Core.List.{List, ◌++◌, map}
use lib.ListN.{length, get_or, take}
use lib.Dec.{T}
use lib.Ieee.{Float}
use Rattle.layout.specs.General.Lists.{join, part, written, never_falls}
use Rattle.layout.specs.Problems.Problem.{Csc}
use Rattle.layout.specs.Checks.{starts_right, column_rows}
use Rattle.layout.specs.Cuts.Compact.{Entry, column, csc}
use Rattle.layout.specs.Cuts.Runs.{runs, sums, run_count}
use Rattle.layout.proofs.Columns.Columns.{RightStarts, starts-right}
use Rattle.layout.proofs.Lists.Buffers.{written_on}
use Rattle.csc.proofs.Runs.{count_more, count-le}
use Rattle.cut_gather.specs.Gathered.{MarksInside, summed_value}
use Rattle.cut_columns.specs.Column.{coded_column}
use Rattle.cut_columns.specs.Marks.{marked_below}
use Rattle.augment_compact.proofs.Columns.{columns_more, columns_start}
use Rattle.augment_compact.proofs.Groups.{part_front, group_inside, group_starts, group_rows, group_values}
use Rattle.augment_compact.specs.Cut.{coded_columns}
use Rattle.augment_compact.specs.Groups.{unmarked, Marking, RowsGrow, ValuesGrow}
use Rattle.augment_compact.specs.Places.{ColumnsInOrder, RunsStart}

module _ (n : ℕ) (M : Csc) (place : List ℕ) (c : ℕ) (codes starts : List ℕ) (a : T (starts_right n M) × ColumnsInOrder n M × RunsStart n M starts)
    (b : (c < n) × Marking M place c (unmarked M place c codes) codes) where
  right : RightStarts n M
  right = starts-right n M a.0

  -- the codes without the marks, and the marked rows
  abbrev plain : List ℕ
  plain = unmarked M place c codes

  abbrev swept : List ℕ
  swept = marked_below codes (length codes)

  -- where the runs of column c are in the outputs, and how many they are
  abbrev from : ℕ
  from = get_or starts c 0

  abbrev to : ℕ
  to = get_or starts (c + 1) 0

  abbrev count : ℕ
  count = to - from

  -- the rows and values of column k, with its end as the code reads it
  abbrev rows_at : ℕ → ℕ → List ℕ
  rows_at k e = part (get_or M.starts k 0) (get_or M.starts e 0) M.rows

  abbrev values_at : ℕ → ℕ → List Float
  values_at k e = part (get_or M.starts k 0) (get_or M.starts e 0) M.values

  -- column k lies within the tables
  pub within : (k : ℕ) → k < n → (k + 1 < length M.starts) × (get_or M.starts k 0 ≤ get_or M.starts (k + 1) 0)
      × (get_or M.starts (k + 1) 0 ≤ length M.rows) × (get_or M.starts (k + 1) 0 ≤ length M.values)
  within k l =
      let end = right.inside (suc k) l in
      rw (add-one k) (omega (arith, right.count), right.rise k l, end, omega (arith, end, right.even))

  -- the runs of column c start where they end or before
  pub run_rise : (from ≤ to) × (to ≤ run_count n M)
  run_rise =
      let first = a.2.1 c (omega arith) in
      let next = a.2.1 (c + 1) (omega arith) in
      (omega (arith, first, next, count_more M c), omega (arith, next, count-le M (c + 1) n (omega arith)))

  -- the start of column k in the outputs is the number of entries before it
  start_at : {X : Type 0} (field : Entry → X) (k : ℕ) → k ≤ n
      → get_or starts k 0 ≡ length (map field (join (λ c. c) (coded_columns k (sums n M) plain)))
  start_at field k l = a.2.1 k l ∙ sym (columns_start n M plain place right a.1 b.1.placing field k l)

  module _ (d : ℕ) (cd : c < d) (dn : d < n) (same : rows_at c (c + 1) ≡ rows_at d (d + 1)) where
    equal : column_rows M d ≡ column_rows M c
    equal = ap (rows_at d) (sym (add-one d)) ∙ sym same ∙ ap (rows_at c) (add-one c)

    -- how many rows column d has in the outputs, and where they are
    pub room : (count ≡ length (runs (rows_at d (d + 1)))) × (to ≤ get_or starts d 0) × (get_or starts d 0 + count ≤ run_count n M)
    room =
        let g = group_starts n M plain place right a.1 c b.0 codes b.1 starts a.2 d cd dn equal in
        let size : count ≡ length (runs (column_rows M d)) = omega (arith, g.0) in
        (size ∙ sym (ap (λ (e : ℕ). length (runs (rows_at d e))) (add-one d)), g.1, omega (arith, size, g.2))

    pub sorted : T (never_falls (rows_at d (d + 1)))
    sorted = subst (λ (e : ℕ). T (never_falls (rows_at d e))) (sym (add-one d)) (a.1 d dn)

    module _ (out : List ℕ) (marked : part from to out ≡ swept) where
      -- the rows that are repeated are the marked rows
      repeated : part from (from + count) out ≡ swept
      repeated = let e : from + count ≡ to = omega (arith, run_rise.0) in ap (λ (k : ℕ). part from k out) e ∙ marked

      pub marks_inside : MarksInside codes (length (rows_at d (d + 1))) (part from (from + count) out)
      marks_inside =
          subst (λ (rs : List ℕ). MarksInside codes (length (rows_at d (d + 1))) rs) (sym repeated)
          (group_inside n M plain place right a.1 c b.0 codes b.1 (length (rows_at d (d + 1)))
          (omega (arith, ap (λ (e : ℕ). length (rows_at d e)) (add-one d), ap length equal)))

      pub rows_step : (before new : List ℕ) → run_count n M ≤ length out → RowsGrow n M plain (c + 1) d before out
          → new ≡ written (take (get_or starts d 0) out ++ part from (from + count) out) out
          → (part from to new ≡ swept) × RowsGrow n M plain (c + 1) (d + 1) before new
      rows_step before new few grow e =
          let r : Entry → ℕ = λ e. e.row in
          let start = get_or starts d 0 in
          let A = sums n M in
          let rows-right : map r (coded_column plain (column A d)) ≡ swept = group_rows n M plain place right a.1 c b.0 codes b.1 d dn equal in (
            ap (part from to) e ∙ part_front from to start (part from (from + count) out) out run_rise.0 room.1 (omega (arith, room.2)) ∙ marked,
            λ old w.
                e
                ∙ ap (λ (xs : List ℕ). written (take start out ++ xs) out) (repeated ∙ sym rows-right)
                ∙ written_on (csc (coded_columns d A plain)).rows (map r (coded_column plain (column A d))) old start (start_at r d (omega arith)) (grow old w)
                ∙ ap (λ (xs : List ℕ). written xs old) (sym (columns_more r d A plain)),
          )

      pub values_step : (before kept new : List Float) → ValuesGrow n M plain (c + 1) d before kept
          → new ≡ written (take (get_or starts d 0) kept ++ map (summed_value codes (rows_at d (d + 1)) (values_at d (d + 1))) (part from (from + count) out)) kept
          → ValuesGrow n M plain (c + 1) (d + 1) before new
      values_step before kept new grow e =
          let v : Entry → Float = λ e. e.value in
          let start = get_or starts d 0 in
          let A = sums n M in
          let gathered : map (summed_value codes (rows_at d (d + 1)) (values_at d (d + 1))) (part from (from + count) out) ≡ map v (coded_column plain (column A d)) =
          ap (map (summed_value codes (rows_at d (d + 1)) (values_at d (d + 1)))) repeated
          ∙ ap (λ (e : ℕ). map (summed_value codes (rows_at d e) (values_at d e)) swept) (add-one d)
          ∙ sym (group_values n M plain place right a.1 c b.0 codes b.1 d dn equal) in
          λ old w.
          e
          ∙ ap (λ (xs : List Float). written (take start kept ++ xs) kept) gathered
          ∙ written_on (csc (coded_columns d A plain)).values (map v (coded_column plain (column A d))) old start (start_at v d (omega arith)) (grow old w)
          ∙ ap (λ (xs : List Float). written xs old) (sym (columns_more v d A plain))
