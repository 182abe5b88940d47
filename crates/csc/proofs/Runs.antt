-- The runs of a column, counted and searched step by step, and the columns of a matrix whose repeated entries are added.
use Prim.Native.Nat.{ℕ, zero, suc, ◌+◌, ◌-◌, ◌≤◌, ◌<◌}
use native.Mathlib.Nat.{le_of_eq}
use native.Mathlib.Numerals.{add-one}
use native.Mathlib.Omega.{arith}
use mathlib.Core.Path.{◌≡◌, refl, ap, sym, subst, ◌∙◌}
use mathlib.Core.Bool.{cond}
use mathlib.Core.List.{List, [], ◌∷◌, ◌++◌, map, map-map, map-append}
use lib.ListN.{length, get_or, take, drop, set, length-drop, length-map, drop_of_length-le}
use lib.Seq.{drop-cons, length-take-le}
use lib.Dec.{eqb}
use borrow.Author.Tests.{eq-eqb, ne_eqb}
use Rattle.layout.specs.General.Lists.{below, sum, starts_from, written}
use Rattle.layout.specs.Problems.Problem.{Csc, Problem, problem}
use Rattle.layout.specs.Checks.{column_rows}
use Rattle.layout.specs.Cuts.Compact.{column, summed}
use Rattle.layout.specs.Cuts.Runs.{sums, runs, run_first, run_last, alike, run_counts, starts_of_runs, run_count}
use Rattle.layout.proofs.Lists.Members.{length-below, get_or_map, get_or-below, has-below}
use Rattle.layout.proofs.Lists.Joins.{map_same}
use Rattle.layout.proofs.Lists.Keeps.{below_more}
use Rattle.layout.proofs.Lists.Starts.{sum-append, sum-take, length-starts, starts-at}
use Rattle.layout.proofs.Columns.Compressed.{starts-append}
use Rattle.layout.proofs.Columns.Columns.{RightStarts, column-rows, entry_count}
use Rattle.layout.proofs.Columns.Repeats.{run_more, runs-few, summed-count, summed-column}
use Rattle.csc.specs.Matrix.{table, ColumnsInside}

-- ---- the run that contains an index

module _ (rows : List ℕ) where
  -- one step towards the front
  pub first_step : (t k : ℕ) → t ≡ suc k → get_or rows k 0 ≡ get_or rows t 0 → run_first rows t ≡ run_first rows k
  first_step t k e same = ap (run_first rows) e ∙ rw (eq-eqb (get_or rows k 0) (get_or rows (suc k) 0) (same ∙ ap (λ (i : ℕ). get_or rows i 0) e))

  pub first_done : (t k : ℕ) → t ≡ suc k → (get_or rows k 0 ≡ get_or rows t 0 → ⊥) → run_first rows t ≡ t
  first_done t k e n =
      ap (run_first rows) e ∙ rw (ne_eqb (get_or rows k 0) (get_or rows (suc k) 0) (λ q. n (q ∙ ap (λ (i : ℕ). get_or rows i 0) (sym e)))) (sym e)

  -- one step towards the end
  pub last_step : (t : ℕ) → t + 1 < length rows → get_or rows (t + 1) 0 ≡ get_or rows t 0 → run_last rows t ≡ run_last rows (t + 1)
  last_step t h e =
      let same : get_or rows t 0 ≡ get_or rows (suc t) 0 = sym e ∙ ap (λ (k : ℕ). get_or rows k 0) (add-one t) in
      ap (λ (rs : List ℕ). t + alike (get_or rows t 0) rs) (drop-cons rows (suc t) 0 (omega arith))
      ∙ rw (eq-eqb (get_or rows t 0) (get_or rows (suc t) 0) same, add-one, ← same) (omega arith)

  pub last_apart : (t : ℕ) → t + 1 < length rows → (get_or rows (t + 1) 0 ≡ get_or rows t 0 → ⊥) → run_last rows t ≡ t
  last_apart t h n =
      ap (λ (rs : List ℕ). t + alike (get_or rows t 0) rs) (drop-cons rows (suc t) 0 (omega arith))
      ∙ rw (ne_eqb (get_or rows t 0) (get_or rows (suc t) 0) (λ e. n (ap (λ (k : ℕ). get_or rows k 0) (add-one t) ∙ sym e))) (omega arith)

  pub last_end : (t : ℕ) → length rows ≤ t + 1 → run_last rows t ≡ t
  last_end t h =
      ap (λ (rs : List ℕ). t + alike (get_or rows t 0) rs) (drop_of_length-le rows {i = suc t} (omega arith)) ∙ omega arith

  -- ---- the number of runs from the entry before index i on

  runs-at : (i : ℕ) → 1 ≤ i → i < length rows
      → length (runs (drop (i - 1) rows)) ≡ cond (eqb (get_or rows (i - 1) 0) (get_or rows i 0)) 0 1 + length (runs (drop (i + 1 - 1) rows))
  runs-at i l h =
      let e : suc (i - 1) ≡ i = omega arith in
      let d : i + 1 - 1 ≡ i = omega arith in
      rw (d, drop-cons rows (i - 1) 0 (omega arith), e, drop-cons rows i 0 h) (run_more (get_or rows (i - 1) 0) (get_or rows i 0) (drop (suc i) rows))

  pub runs_same : (i : ℕ) → 1 ≤ i → i < length rows → get_or rows i 0 ≡ get_or rows (i - 1) 0
      → length (runs (drop (i - 1) rows)) ≡ length (runs (drop (i + 1 - 1) rows))
  runs_same i l h e = runs-at i l h ∙ rw (eq-eqb (get_or rows (i - 1) 0) (get_or rows i 0) (sym e)) (omega arith)

  pub runs_apart : (i : ℕ) → 1 ≤ i → i < length rows → (get_or rows i 0 ≡ get_or rows (i - 1) 0 → ⊥)
      → length (runs (drop (i - 1) rows)) ≡ suc (length (runs (drop (i + 1 - 1) rows)))
  runs_apart i l h n = runs-at i l h ∙ rw (ne_eqb (get_or rows (i - 1) 0) (get_or rows i 0) (λ e. n (sym e))) (omega arith)

  pub runs_last : (i : ℕ) → 1 ≤ i → i ≡ length rows → length (runs (drop (i - 1) rows)) ≡ 1
  runs_last i l e =
      ap (λ (rs : List ℕ). length (runs rs)) (drop-cons rows (i - 1) 0 (omega arith) ∙ ap (λ (rs : List ℕ). get_or rows (i - 1) 0 ∷ rs) (drop_of_length-le rows {i = suc (i - 1)} (omega arith)))

-- ---- columns in order

module _ (M : Csc) (c : ℕ) where
  counts_more : run_counts (c + 1) M ≡ run_counts c M ++ (length (runs (column_rows M c)) ∷ [])
  counts_more =
      ap (map (λ c. length (runs (column_rows M c)))) (below_more c) ∙ map-append (λ c. length (runs (column_rows M c))) (below c) (c ∷ [])

  pub count_more : run_count (c + 1) M ≡ run_count c M + length (runs (column_rows M c))
  count_more = ap sum counts_more ∙ sum-append (run_counts c M) (length (runs (column_rows M c)) ∷ []) ∙ omega arith

  pub run-starts_more : starts_of_runs (c + 1) M ≡ starts_of_runs c M ++ (run_count (c + 1) M ∷ [])
  run-starts_more =
      ap (starts_from 0) counts_more ∙ starts-append 0 (run_counts c M) (length (runs (column_rows M c)) ∷ [])
      ∙ ap (λ (k : ℕ). starts_of_runs c M ++ (k ∷ [])) (omega (arith, count_more))

pub count-le : (M : Csc) (c n : ℕ) → c ≤ n → run_count c M ≤ run_count n M
count-le M c n h =
    let e : n ≡ c + (n - c) = omega arith in
    subst (λ (k : ℕ). run_count c M ≤ run_count k M) (sym e) (go (n - c))
  where
    go : (k : ℕ) → run_count c M ≤ run_count (c + k) M
    go zero =
        let e : c ≡ c + 0 = omega arith in
        le_of_eq (ap (λ (i : ℕ). run_count i M) e)
    go (suc k) =
        let e : c + suc k ≡ c + k + 1 = omega arith in
        omega (arith, go k, ap (λ (i : ℕ). run_count i M) e, count_more M (c + k))

-- the columns before c have no more runs than entries
pub count-few : {n : ℕ} (starts rows : List ℕ) → ColumnsInside n starts rows → (c : ℕ) → c ≤ n
    → (run_count c (table starts rows) ≤ get_or starts c 0) × (run_count c (table starts rows) ≤ length rows)
count-few starts rows h zero l = (omega arith, omega arith)
count-few starts rows h (suc c) l =
    let (rise, inside) = h.1 c l in
    let next : run_count (suc c) (table starts rows) ≡ run_count c (table starts rows) + length (runs (column_rows (table starts rows) c)) =
    ap (λ (k : ℕ). run_count k (table starts rows)) (sym (add-one c)) ∙ count_more (table starts rows) c in
    let width = length-take-le (get_or starts (suc c) 0 - get_or starts c 0) (drop (get_or starts c 0) rows) (omega (arith, length-drop (get_or starts c 0) rows)) in
    let few : run_count (suc c) (table starts rows) ≤ get_or starts (suc c) 0 =
    omega (arith, next, runs-few (column_rows (table starts rows) c), width, (count-few starts rows h c (omega arith)).0) in
    (few, omega arith)

-- the count k of the columns before c, with the r runs of column c
pub column_counted : {n : ℕ} (starts rows : List ℕ) → ColumnsInside n starts rows → (c k r : ℕ) → c < n → k ≡ run_count c (table starts rows)
    → r ≡ length (runs (take (get_or starts (c + 1) 0 - get_or starts c 0) (drop (get_or starts c 0) rows)))
    → (k + r ≡ run_count (c + 1) (table starts rows)) × (k + r ≤ length rows)
column_counted starts rows h c k r l ek er =
    let er : r ≡ length (runs (column_rows (table starts rows) c)) = rw (← add-one c) er in
    let e : k + r ≡ run_count (c + 1) (table starts rows) = omega (arith, count_more (table starts rows) c) in
    (e, omega (arith, (count-few starts rows h (c + 1) (omega arith)).1))

pub length-run-starts : (n : ℕ) (M : Csc) → length (starts_of_runs n M) ≡ suc n
length-run-starts n M = length-starts 0 (run_counts n M) ∙ ap suc (length-map (below n) (λ c. length (runs (column_rows M c))) ∙ length-below n)

-- writing a nonempty list hides a value stored at index 0 before
pub first_over : {A : Type 0} (xs old : List A) (y : A) → 0 < length xs → written xs (set old 0 y) ≡ written xs old
first_over [] old y h = absurd (omega arith)
first_over (x ∷ xs) [] y h = refl
first_over (x ∷ xs) (z ∷ old) y h = refl

pub first-written : {A : Type 0} (old : List A) (y : A) → 0 < length old → set old 0 y ≡ written (y ∷ []) (set old 0 y)
first-written [] y h = absurd (omega arith)
first-written (z ∷ old) y h = refl

-- ---- the matrix with repeated entries added

module _ (n : ℕ) (M : Csc) where
  -- a problem with M as its A; the laws on sums use nothing else of it
  abbrev with_A : Problem
  with_A = problem n 0 [] [] [] [] M.starts M.rows M.values [] [] [] 0 []

  pub sums-column : (c : ℕ) → c < n → column (sums n M) c ≡ summed (column M c)
  sums-column c l = summed-column with_A c l

  module _ (right : RightStarts n M) where
    widths : map length (map (λ c. summed (column M c)) (below n)) ≡ run_counts n M
    widths =
        map-map length (λ c. summed (column M c)) (below n)
        ∙ map_same (λ c. length (summed (column M c))) (λ c. length (runs (column_rows M c))) (below n) (λ c h.
        summed-count (column M c) ∙ ap (λ (rs : List ℕ). length (runs rs)) (column-rows n M right c ((has-below c n).0 h)))

    pub sums-starts : (sums n M).starts ≡ starts_of_runs n M
    sums-starts = ap (starts_from 0) widths

    pub sums-count : length (sums n M).values ≡ run_count n M
    sums-count = entry_count (map (λ c. summed (column M c)) (below n)) ∙ ap sum widths

-- the start of column c in run starts is the number of runs before it
pub run_start : (n : ℕ) (M : Csc) (c : ℕ) → c ≤ n → get_or (starts_of_runs n M) c 0 ≡ run_count c M
run_start n M zero l = starts-at 0 (run_counts n M) 0 0 (omega arith) ∙ omega arith
run_start n M (suc c) l =
    let w : ℕ → ℕ = λ c. length (runs (column_rows M c)) in
    let size : length (run_counts n M) ≡ n = length-map (below n) w ∙ length-below n in
    let here : get_or (run_counts n M) c 0 ≡ w c = get_or_map w (below n) c 0 0 (omega (arith, length-below n)) ∙ ap w (get_or-below n c 0 l) in
    let e : run_count (suc c) M ≡ run_count (c + 1) M = ap (λ (k : ℕ). run_count k M) (sym (add-one c)) in
    omega (
      arith,
      starts-at 0 (run_counts n M) (suc c) 0 (omega (arith, size)),
      starts-at 0 (run_counts n M) c 0 (omega (arith, size)),
      sum-take (run_counts n M) c (omega (arith, size)),
      here,
      run_start n M c (omega arith),
      count_more M c,
      e,
    )
