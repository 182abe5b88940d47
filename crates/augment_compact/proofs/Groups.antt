-- Columns with the rows of a marked column: where they start, what is written for them, and a list repeated within a buffer.
use Prim.Native.Nat.{ℕ, suc, ◌+◌, ◌-◌, ◌≤◌, ◌<◌}
use native.Mathlib.Omega.{arith}
use mathlib.Core.Path.{◌≡◌, ap, ap₂, sym, subst, ◌∙◌}
use mathlib.Core.List.{List, ◌++◌, map, append_assoc}
use lib.ListN.{length, get_or, take, drop, length-append, length-drop, take-append-drop, get_or-append}
use lib.Seq.{length-take-le, take_all, take-append-le, drop-append-le, take_at, drop_at, get_or-take, paste}
use lib.Ieee.{Float}
use Rattle.layout.specs.General.Lists.{part, written}
use Rattle.layout.specs.Problems.Problem.{Csc}
use Rattle.layout.specs.Checks.{column_rows}
use Rattle.layout.specs.Cuts.Compact.{Entry, column, summed}
use Rattle.layout.specs.Cuts.Runs.{runs, sums, run_count}
use Rattle.layout.proofs.Columns.Columns.{RightStarts}
use Rattle.csc.proofs.Runs.{count_more, count-le}
use Rattle.cut_gather.specs.Gathered.{MarksInside, summed_value}
use Rattle.cut_columns.specs.Column.{entries, coded_column}
use Rattle.cut_columns.specs.Marks.{Placing, mark_all, marked_below}
use Rattle.cut_columns.proofs.Marks.{marks-all, marks-inside}
use Rattle.cut_columns.proofs.Parts.{length_part}
use Rattle.cut_columns.proofs.Repeated.{summed-column-rows, summed-column-values}
use Rattle.augment_compact.proofs.Columns.{column-placing, column-sums}
use Rattle.augment_compact.specs.Places.{ColumnsInOrder, RunsStart}
use Rattle.augment_compact.specs.Groups.{Marking}

-- ---- a list written behind the first `at` elements of a buffer, element by element

module _ {A : Type 0} where
  -- an element before `at` is unchanged
  pub paste_before : (old : List A) (at : ℕ) (ys : List A) (n j : ℕ) (d : A) → at ≤ length old → j < at → get_or (paste old at ys n) j d ≡ get_or old j d
  paste_before old at ys n j d h l =
      let size : length (take at old) ≡ at = length-take-le at old h in
      get_or-append (take at old ++ take n ys) (drop (at + n) old) d j (omega (arith, size, length-append (take at old) (take n ys)))
      ∙ get_or-append (take at old) (take n ys) d j (omega (arith, size)) ∙ get_or-take at old j d l

  pub paste-done : (old : List A) (at : ℕ) (ys : List A) (n : ℕ) → n ≡ length ys → at ≤ length old → paste old at ys n ≡ written (take at old ++ ys) old
  paste-done old at ys n e h =
      let size : length (take at old ++ ys) ≡ at + n = length-append (take at old) ys ∙ omega (arith, length-take-le at old h) in
      ap (λ (xs : List A). (take at old ++ xs) ++ drop (at + n) old) (take_all n ys (omega arith))
      ∙ ap (λ (k : ℕ). (take at old ++ ys) ++ drop k old) (sym size)

  -- what was written, and what is before it, as parts of the buffer
  pub part-back : (a b : ℕ) (ys old : List A) → a ≤ length old → a + length ys ≡ b → part a b (written (take a old ++ ys) old) ≡ ys
  part-back a b ys old h e =
      let rest = drop (length (take a old ++ ys)) old in
      ap (λ (zs : List A). part a b zs) (append_assoc (take a old) ys rest)
      ∙ ap (take (b - a)) (drop_at (take a old) (ys ++ rest) a (length-take-le a old h))
      ∙ take_at ys rest (b - a) (omega arith)

  part-take : (a b t : ℕ) (old zs : List A) → a ≤ b → b ≤ t → t ≤ length old → part a b (take t old ++ zs) ≡ part a b (take t old)
  part-take a b t old zs h l k =
      let size : length (take t old) ≡ t = length-take-le t old k in
      ap (take (b - a)) (drop-append-le a (take t old) zs (omega (arith, size)))
      ∙ take-append-le (b - a) (drop a (take t old)) zs (omega (arith, size, length-drop a (take t old)))

  pub part_front : (a b t : ℕ) (ys old : List A) → a ≤ b → b ≤ t → t ≤ length old → part a b (written (take t old ++ ys) old) ≡ part a b old
  part_front a b t ys old h l k =
      let rest = drop (length (take t old ++ ys)) old in
      ap (λ (zs : List A). part a b zs) (append_assoc (take t old) ys rest)
      ∙ part-take a b t old (ys ++ rest) h l k ∙ sym (part-take a b t old (drop t old) h l k)
      ∙ ap (λ (zs : List A). part a b zs) (take-append-drop t old)

-- ---- a marked column c, and a column d with its rows

module _ (n : ℕ) (M : Csc) (before place : List ℕ) (right : RightStarts n M) (order : ColumnsInOrder n M) (c : ℕ) (lc : c < n) (codes : List ℕ) (m : Marking M place c before codes) where
  placing : Placing before place (column_rows M c)
  placing = column-placing n M before place right order m.placing c lc

  -- the marked rows, from the codes with the marks
  swept : marked_below (mark_all place 0 (column_rows M c) before) (length before) ≡ marked_below codes (length codes)
  swept =
      sym (marks-all place (column_rows M c) before)
      ∙ ap (λ (ms : List ℕ). marked_below ms (length ms)) (sym m.marks)

  pub group_inside : (k : ℕ) → length (column_rows M c) ≤ k → MarksInside codes k (marked_below codes (length codes))
  group_inside k l =
      subst (λ (ms : List ℕ). MarksInside ms k (marked_below codes (length codes))) (sym m.marks)
      (subst (λ (rs : List ℕ). MarksInside (mark_all place 0 (column_rows M c) before) k rs) swept (marks-inside before place (column_rows M c) placing k l))

  -- the end of column c, and the start and end of column d, in the outputs
  pub group_starts : (starts : List ℕ) → RunsStart n M starts → (d : ℕ) → c < d → d < n → column_rows M d ≡ column_rows M c
      → (get_or starts c 0 + length (runs (column_rows M d)) ≡ get_or starts (c + 1) 0) × (get_or starts (c + 1) 0 ≤ get_or starts d 0)
      × (get_or starts d 0 + length (runs (column_rows M d)) ≤ run_count n M)
  group_starts starts r d l k same =
      let alike : length (runs (column_rows M d)) ≡ length (runs (column_rows M c)) = ap (λ (rs : List ℕ). length (runs rs)) same in
      let first : get_or starts c 0 ≡ run_count c M = r.1 c (omega arith) in
      let next : get_or starts (c + 1) 0 ≡ run_count (c + 1) M = r.1 (c + 1) (omega arith) in
      let here : get_or starts d 0 ≡ run_count d M = r.1 d (omega arith) in (
        omega (arith, alike, first, next, count_more M c),
        omega (arith, next, here, count-le M (c + 1) d (omega arith)),
        omega (arith, here, count_more M d, count-le M (d + 1) n (omega arith)),
      )

  module _ (d : ℕ) (ld : d < n) (same : column_rows M d ≡ column_rows M c) where
    abbrev values : List Float
    values = part (get_or M.starts d 0) (get_or M.starts (suc d) 0) M.values

    even : length values ≡ length (column_rows M c)
    even =
        let a = get_or M.starts d 0 in
        let b = get_or M.starts (suc d) 0 in
        let inside = right.inside (suc d) ld in
        length_part a b M.values (right.rise d ld) (omega (arith, inside, right.even)) ∙ sym (length_part a b M.rows (right.rise d ld) inside) ∙ ap length same

    column_again : coded_column before (column (sums n M) d) ≡ coded_column before (summed (entries (column_rows M c) values))
    column_again =
        ap (coded_column before)
        (column-sums n M before place right order m.placing d ld ∙ ap (λ (rs : List ℕ). summed (entries rs values)) same)

    pub group_rows : map (λ (e : Entry). e.row) (coded_column before (column (sums n M) d)) ≡ marked_below codes (length codes)
    group_rows = ap (map (λ (e : Entry). e.row)) column_again ∙ summed-column-rows before place (column_rows M c) placing (order c lc) values even ∙ swept

    pub group_values : map (λ (e : Entry). e.value) (coded_column before (column (sums n M) d))
        ≡ map (summed_value codes (column_rows M d) (part (get_or M.starts d 0) (get_or M.starts (suc d) 0) M.values)) (marked_below codes (length codes))
    group_values =
        ap (map (λ (e : Entry). e.value)) column_again ∙ summed-column-values before place (column_rows M c) placing (order c lc) values even
        ∙ ap (map (summed_value (mark_all place 0 (column_rows M c) before) (column_rows M c) values)) swept
        ∙ ap₂ (λ (ms rs : List ℕ). map (summed_value ms rs values) (marked_below codes (length codes))) (sym m.marks) (sym same)
