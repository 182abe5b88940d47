-- The columns of A, moved one by one.
use Prim.Native.Nat.{ℕ, zero, suc, ◌+◌, ◌-◌, ◌≤◌, ◌<◌}
use native.Mathlib.Numerals.{add-one}
use native.Mathlib.Omega.{arith}
use mathlib.Core.Path.{◌≡◌, refl, ap, ap₂, sym, ◌∙◌}
use mathlib.Core.List.{List, [], ◌∷◌, ◌++◌, map, map-map, append-nil, map-append}
use lib.ListN.{length, get_or, length-map, length-append}
use lib.Ieee.{Float, nan}
use Rattle.layout.specs.General.Lists.{up_from, below, join, part}
use Rattle.layout.specs.Problems.Problem.{Csc}
use Rattle.layout.specs.Checks.{column_rows}
use Rattle.layout.specs.Cuts.Compact.{Entry, entries_from, column, summed}
use Rattle.layout.specs.Cuts.Runs.{runs, sums, run_count}
use Rattle.layout.proofs.Lists.Members.{has-below}
use Rattle.layout.proofs.Lists.Joins.{map_same, up_from_shift}
use Rattle.layout.proofs.Lists.Starts.{part-get_or}
use Rattle.layout.proofs.Lists.Keeps.{below_more}
use Rattle.layout.proofs.Columns.Columns.{RightStarts}
use Rattle.csc.specs.Matrix.{matrix}
use Rattle.csc.proofs.Compressed.{fields-append}
use Rattle.csc.proofs.Runs.{count_more, count-le, sums-column}
use Rattle.cut_columns.proofs.Repeated.{summed-column-count}
use Rattle.cut_columns.proofs.Parts.{length_part}
use Rattle.cut_columns.specs.Column.{entries, coded_column}
use Rattle.cut_columns.specs.Marks.{Placing}
use Rattle.augment_compact.specs.Cut.{coded_columns}
use Rattle.augment_compact.specs.Places.{ColumnsInOrder}

-- the entries from a to b, from the slices of rows and values that hold them
entries-part : (a b : ℕ) (M : Csc) → a ≤ b → b ≤ length M.rows
    → entries_from a (b - a) M ≡ entries (part a b M.rows) (part a b M.values)
entries-part a b M h l =
    let at : Csc → ℕ → Entry = λ X t. record { row = get_or X.rows t 0; value = get_or X.values t nan } in
    let P : Csc = matrix [] (part a b M.rows) (part a b M.values) in
    let start : a ≡ a + 0 = omega arith in
    ap (map (at M)) (ap (λ (s : ℕ). up_from s (b - a)) start ∙ up_from_shift a 0 (b - a))
    ∙ map-map (at M) (λ t. a + t) (below (b - a))
    ∙ map_same (λ t. at M (a + t)) (at P) (below (b - a)) (λ t k.
    let m : t < b - a = (has-below t (b - a)).0 k in
    ap₂ {C = Entry} (λ (r : ℕ) (v : Float). record { row = r; value = v })
    (sym (part-get_or 0 a b t M.rows m)) (sym (part-get_or nan a b t M.values m)))
    ∙ ap (λ (k : ℕ). entries_from 0 k P) (sym (length_part a b M.rows h l))

-- a condition on all rows also holds for a slice of them
placing-part : (codes place rows : List ℕ) (a b : ℕ) → a ≤ b → b ≤ length rows → Placing codes place rows → Placing codes place (part a b rows)
placing-part codes place rows a b h l p = record {
  few = p.few;
  short = omega (arith, size, p.short);
  small = p.small;
  own = p.own;
  original = λ t m. rw (at t m) (p.original (a + t) (far t m));
  known = λ t m. rw (at t m) (p.known (a + t) (far t m));
  inside = λ t m. rw (at t m) (p.inside (a + t) (far t m));
  found = λ t m. rw (at t m) (p.found (a + t) (far t m));
}
  where
    size : length (part a b rows) ≡ b - a
    size = length_part a b rows h l

    at : (t : ℕ) → t < length (part a b rows) → get_or (part a b rows) t 0 ≡ get_or rows (a + t) 0
    at t m = part-get_or 0 a b t rows (omega (arith, size))

    far : (t : ℕ) → t < length (part a b rows) → a + t < length rows
    far t m = omega (arith, size)

-- adding one column appends its entries
pub columns_more : {X : Type 0} (field : Entry → X) (c : ℕ) (M : Csc) (codes : List ℕ)
    → map field (join (λ c. c) (coded_columns (c + 1) M codes))
    ≡ map field (join (λ c. c) (coded_columns c M codes)) ++ map field (coded_column codes (column M c))
columns_more {X} field c M codes =
    let f : ℕ → List Entry = λ c. coded_column codes (column M c) in
    ap (λ (cs : List (List Entry)). map field (join (λ c. c) cs)) (ap (map f) (below_more c) ∙ map-append f (below c) (c ∷ []))
    ∙ fields-append field (map f (below c)) (f c ∷ [])
    ∙ ap (λ (es : List Entry). map field (join (λ c. c) (map f (below c))) ++ map field es) (append-nil (f c))

module _ (n : ℕ) (M : Csc) (codes place : List ℕ) (right : RightStarts n M) (order : ColumnsInOrder n M) (h : Placing codes place M.rows) where
  module _ (c : ℕ) (l : c < n) where
    inside : get_or M.starts (suc c) 0 ≤ length M.rows
    inside = right.inside (suc c) l

    column-part : column M c
        ≡ entries (column_rows M c) (part (get_or M.starts c 0) (get_or M.starts (suc c) 0) M.values)
    column-part = entries-part (get_or M.starts c 0) (get_or M.starts (suc c) 0) M (right.rise c l) inside

    pub column-placing : Placing codes place (column_rows M c)
    column-placing = placing-part codes place M.rows (get_or M.starts c 0) (get_or M.starts (suc c) 0) (right.rise c l) inside h

    -- a column with repeats added, from the slices of the tables that hold it
    pub column-sums : column (sums n M) c
        ≡ summed (entries (column_rows M c) (part (get_or M.starts c 0) (get_or M.starts (suc c) 0) M.values))
    column-sums = sums-column n M c l ∙ ap summed column-part

    -- the moved column has one entry for each run
    pub column-size : length (coded_column codes (column (sums n M) c)) ≡ length (runs (column_rows M c))
    column-size =
        let a = get_or M.starts c 0 in
        let b = get_or M.starts (suc c) 0 in
        ap (λ (es : List Entry). length (coded_column codes es)) column-sums
        ∙ summed-column-count codes place (column_rows M c) column-placing (order c l) (part a b M.values)
        (length_part a b M.values (right.rise c l) (omega (arith, inside, right.even)) ∙ sym (length_part a b M.rows (right.rise c l) inside))

  -- the columns before c have as many entries as runs
  pub columns_start : {X : Type 0} (field : Entry → X) (c : ℕ) → c ≤ n
      → length (map field (join (λ c. c) (coded_columns c (sums n M) codes))) ≡ run_count c M
  columns_start field zero l = refl
  columns_start field (suc c) l =
      let e : suc c ≡ c + 1 = sym (add-one c) in
      ap (λ (k : ℕ). length (map field (join (λ c. c) (coded_columns k (sums n M) codes)))) e
      ∙ ap length (columns_more field c (sums n M) codes)
      ∙ length-append (map field (join (λ c. c) (coded_columns c (sums n M) codes))) (map field (coded_column codes (column (sums n M) c)))
      ∙ omega (
        arith,
        columns_start field c (omega arith),
        length-map (coded_column codes (column (sums n M) c)) field,
        column-size c l,
        count_more M c,
        ap (λ (k : ℕ). run_count k M) e,
      )

  pub columns_room : {X : Type 0} (field : Entry → X) (c : ℕ) → c ≤ n
      → length (map field (join (λ c. c) (coded_columns c (sums n M) codes))) ≤ run_count n M
  columns_room field c l = omega (arith, columns_start field c l, count-le M c n l)
