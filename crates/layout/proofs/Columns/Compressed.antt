-- The compressed columns of any columns pass check 2, and check 3 where each column does; those of a matrix's own columns are the matrix.
use Prim.Native.Nat.{ℕ, zero, suc, ◌+◌, ◌-◌, ◌≤◌, ◌<◌}
use native.Mathlib.Nat.{le_refl, le_of_eq}
use native.Mathlib.Omega.{arith}
use mathlib.Core.Path.{◌≡◌, refl, sym, ap, ap₂, subst, ◌∙◌}
use mathlib.Core.Bool.{Bool, true, ◌&&◌}
use mathlib.Core.List.{List, [], ◌∷◌, ◌++◌, map, map-append, map-map, append-nil}
use lib.ListN.{length, get_or, take, drop, length-append, length-map, get_or-append}
use lib.Seq.{get_or-append-add, take-suc, take_all, take-add}
use lib.Dec.{T, leb, ltb, le→leb, lt→ltb}
use lib.Ieee.{Float, nan}
use Rattle.layout.specs.General.Lists.{has, all, below, up_from, rises, part, sum, join, starts_from, never_falls}
use Rattle.layout.specs.Problems.Problem.{Csc}
use Rattle.layout.specs.Checks.{start_count, starts_at_zero, starts_end, rows_as_many, starts_right, column_rows, rows_in_order, rows_right}
use Rattle.layout.specs.Cuts.Compact.{Entry, column, csc, rows_of}
use Rattle.layout.proofs.Lists.Tests.{and_iff, eqb_iff}
use Rattle.layout.proofs.Lists.Members.{get_or_map, has_join, has-below, length-below, get_or-below, all-has}
use Rattle.layout.proofs.Lists.Joins.{map_same, up_from_last}
use Rattle.layout.proofs.Lists.Starts.{part_at, length-starts, starts-at, join-append, join-map}
use Rattle.layout.proofs.Columns.Columns.{column-csc, starts-right, RightStarts, column-length, column-rows, columns_sum, entry_count, even}

-- the values of entries
abbrev pub values_of : List Entry → List Float
values_of es = map (λ (e : Entry). e.value) es

pub rows-joined : (cs : List (List Entry)) → rows_of (join (λ c. c) cs) ≡ join (λ r. r) (map rows_of cs)
rows-joined [] = refl
rows-joined (c ∷ cs) =
    map-append (λ (e : Entry). e.row) c (join (λ c. c) cs) ∙ ap (λ (r : List ℕ). rows_of c ++ r) (rows-joined cs)

-- ---- check 2 passes for the compressed columns of any columns

starts_never_fall : (a : ℕ) (ks : List ℕ) → T (never_falls (starts_from a ks))
starts_never_fall a [] = tt
starts_never_fall a (k ∷ []) = (and_iff (leb a (a + k)) true).1 (le→leb a (a + k) (omega arith), tt)
starts_never_fall a (k ∷ j ∷ ks) =
    (and_iff (leb a (a + k)) (never_falls (starts_from (a + k) (j ∷ ks)))).1
    (le→leb a (a + k) (omega arith), starts_never_fall (a + k) (j ∷ ks))

module _ (cs : List (List Entry)) where
  abbrev widths : List ℕ
  widths = map length cs

  counted : length (starts_from 0 widths) ≡ suc (length cs)
  counted = length-starts 0 widths ∙ ap suc (length-map cs length)

  ends : get_or (starts_from 0 widths) (length cs) 0 ≡ length (csc cs).values
  ends =
      starts-at 0 widths (length cs) 0 (omega (arith, length-map cs length))
      ∙ omega (
        arith,
        ap sum (take_all (length cs) widths (omega (arith, length-map cs length))),
        entry_count cs,
      )

  pub csc-starts : T (starts_right (length cs) (csc cs))
  csc-starts =
      let M = csc cs in
      let n : ℕ = length cs in
      (and_iff (start_count n M && starts_at_zero M && never_falls M.starts && starts_end n M) (rows_as_many M)).1 (
        (and_iff (start_count n M && starts_at_zero M && never_falls M.starts) (starts_end n M)).1 (
          (and_iff (start_count n M && starts_at_zero M) (never_falls M.starts)).1 (
            (and_iff (start_count n M) (starts_at_zero M)).1 (
              (eqb_iff (length M.starts) (suc n)).1 counted,
              (eqb_iff (get_or M.starts 0 1) 0).1 (starts-at 0 widths 0 1 (omega arith)),
            ),
            starts_never_fall 0 widths,
          ),
          (eqb_iff (get_or M.starts n 0) (length M.values)).1 ends,
        ),
        (eqb_iff (length M.rows) (length M.values)).1 (even cs),
      )

  -- each stored row index is in one of the columns
  row_of : (r : ℕ) → T (has r (csc cs).rows) → (c : ℕ) × (c < length cs) × T (has r (rows_of (get_or cs c [])))
  row_of r h =
      let k = subst (λ (rs : List ℕ). T (has r rs)) (rows-joined cs) h in
      let (c, l, j) = (has_join [] (λ rs. rs) r (map rows_of cs)).0 k in
      let lc : c < length cs = omega (arith, length-map cs rows_of) in
      (c, lc, subst (λ (rs : List ℕ). T (has r rs)) (get_or_map rows_of cs c [] [] lc) j)

  -- a test that the row indices of every column pass holds for all row indices
  pub csc-all : (p : ℕ → Bool) → ((c : ℕ) → c < length cs → T (all p (rows_of (get_or cs c [])))) → T (all p (csc cs).rows)
  csc-all p h = (all-has p (csc cs).rows).1 (λ r k. let (c, l, j) = row_of r k in (all-has p (rows_of (get_or cs c []))).0 (h c l) r j)

  -- a property of each column's row indices holds for the columns of the matrix
  pub csc-each : (f : List ℕ → Bool) → ((c : ℕ) → c < length cs → T (f (rows_of (get_or cs c []))))
      → T (all (λ c. f (column_rows (csc cs) c)) (below (length cs)))
  csc-each f h = (all-has (λ c. f (column_rows (csc cs) c)) (below (length cs))).1 (λ c k.
      let l : c < length cs = (has-below c (length cs)).0 k in
      subst (λ (rs : List ℕ). T (f rs))
      (ap rows_of (sym (column-csc cs c l)) ∙ column-rows (length cs) (csc cs) (starts-right (length cs) (csc cs) csc-starts) c l)
      (h c l))

  -- check 3 from the columns: as it is for P, and as it is for A
  module _ (m : ℕ) (inside : (c : ℕ) → c < length cs → (r : ℕ) → T (has r (rows_of (get_or cs c []))) → r < m) where
    rows-low : T (all (λ r. ltb r m) (csc cs).rows)
    rows-low = csc-all (λ r. ltb r m) (λ c l. (all-has (λ r. ltb r m) (rows_of (get_or cs c []))).1 (λ r h. lt→ltb r m (inside c l r h)))

    pub csc-rows : ((c : ℕ) → c < length cs → T (rises (rows_of (get_or cs c [])))) → T (rows_right m (length cs) (csc cs))
    csc-rows rising =
        (and_iff (all (λ r. ltb r m) (csc cs).rows) (all (λ c. rises (column_rows (csc cs) c)) (below (length cs)))).1
        (rows-low, csc-each rises rising)

    pub csc_in_order : ((c : ℕ) → c < length cs → T (never_falls (rows_of (get_or cs c [])))) → T (rows_in_order m (length cs) (csc cs))
    csc_in_order never =
        (and_iff (all (λ r. ltb r m) (csc cs).rows) (all (λ c. never_falls (column_rows (csc cs) c)) (below (length cs)))).1
        (rows-low, csc-each never_falls never)

-- ---- columns given by a rule for each number below n, and others after them

module _ (f : ℕ → List Entry) (n : ℕ) (ds : List (List Entry)) where
  abbrev ruled : List (List Entry)
  ruled = map f (below n)

  pub ruled_count : length (map f (below n)) ≡ n
  ruled_count = length-map (below n) f ∙ length-below n

  pub csc_ruled : (c : ℕ) → c < n → column (csc (map f (below n) ++ ds)) c ≡ f c
  csc_ruled c l =
      column-csc (ruled ++ ds) c (omega (arith, length-append ruled ds, ruled_count))
      ∙ get_or-append ruled ds [] c (omega (arith, ruled_count))
      ∙ get_or_map f (below n) c 0 [] (omega (arith, length-below n)) ∙ ap f (get_or-below n c 0 l)

  pub csc-later : (k : ℕ) → k < length ds → column (csc (map f (below n) ++ ds)) (n + k) ≡ get_or ds k []
  csc-later k l =
      column-csc (ruled ++ ds) (n + k) (omega (arith, length-append ruled ds, ruled_count))
      ∙ ap (λ (i : ℕ). get_or (ruled ++ ds) (i + k) []) (sym ruled_count) ∙ get_or-append-add ruled ds k []

-- ---- a matrix's own columns

-- the values of column c
abbrev pub column_values : Csc → ℕ → List Float
column_values M c = part (get_or M.starts c 0) (get_or M.starts (suc c) 0) M.values

-- a plus each running total, without a itself
abbrev pub totals : ℕ → List ℕ → List ℕ
totals a [] = []
totals a (k ∷ ks) = (a + k) ∷ totals (a + k) ks

starts-totals : (a : ℕ) (ks : List ℕ) → starts_from a ks ≡ a ∷ totals a ks
starts-totals a [] = refl
starts-totals a (k ∷ ks) = ap (λ (r : List ℕ). a ∷ r) (starts-totals (a + k) ks)

pub starts-append : (a : ℕ) (ks js : List ℕ) → starts_from a (ks ++ js) ≡ starts_from a ks ++ totals (a + sum ks) js
starts-append a [] js = starts-totals a js ∙ ap (λ (s : ℕ). a ∷ totals s js) (omega arith)
starts-append a (k ∷ ks) js =
    ap (λ (r : List ℕ). a ∷ r)
    (starts-append (a + k) ks js ∙ ap (λ (s : ℕ). starts_from (a + k) ks ++ totals s js) (omega arith))

module _ (n : ℕ) (M : Csc) (right : RightStarts n M) where
  -- xs is the matrix's table for one field of the entries
  module _ {X : Type 0} (field : Entry → X) (d : X) (xs : List X) (size : length xs ≡ length M.rows)
      (reads : (t : ℕ) → field (record { row = get_or M.rows t 0; value = get_or M.values t nan }) ≡ get_or xs t d) where
    column-field : (c : ℕ) → c < n
        → map field (column M c) ≡ take (get_or M.starts (suc c) 0 - get_or M.starts c 0) (drop (get_or M.starts c 0) xs)
    column-field c l =
        let a = get_or M.starts c 0 in
        let k = get_or M.starts (suc c) 0 - get_or M.starts c 0 in
        let entry : ℕ → Entry = λ t. record { row = get_or M.rows t 0; value = get_or M.values t nan } in
        map-map field entry (up_from a k)
        ∙ map_same (λ t. field (entry t)) (λ t. get_or xs t d) (up_from a k) (λ t h. reads t)
        ∙ part_at d xs a k (omega (arith, right.rise c l, right.inside (suc c) l))

    fields_taken : (k : ℕ) → k ≤ n → map field (join (column M) (below k)) ≡ take (get_or M.starts k 0) xs
    fields_taken zero l = ap (λ (a : ℕ). take a xs) (sym right.zeroth)
    fields_taken (suc k) l =
        let a = get_or M.starts k 0 in
        let w = get_or M.starts (suc k) 0 - a in
        let e : get_or M.starts (suc k) 0 ≡ a + w = omega (arith, right.rise k l) in
        ap (λ (cs : List ℕ). map field (join (column M) cs)) (up_from_last 0 k ∙ ap (λ (c : ℕ). below k ++ (c ∷ [])) (omega arith))
        ∙ ap (map field) (join-append (column M) (below k) (k ∷ []) ∙ ap (λ (r : List Entry). join (column M) (below k) ++ r) (append-nil (column M k)))
        ∙ map-append field (join (column M) (below k)) (column M k)
        ∙ ap₂ ◌++◌ (fields_taken k (omega arith)) (column-field k l)
        ∙ sym (ap (λ (b : ℕ). take b xs) e ∙ take-add a w xs)

    own-field : map field (join (λ c. c) (map (column M) (below n))) ≡ xs
    own-field =
        ap (map field) (join-map (λ c. c) (column M) (below n)) ∙ fields_taken n (le_refl n)
        ∙ take_all (get_or M.starts n 0) xs (le_of_eq (size ∙ sym right.last))

  pub own-rows : (csc (map (column M) (below n))).rows ≡ M.rows
  own-rows = own-field (λ (e : Entry). e.row) 0 M.rows refl (λ t. refl)

  pub own-values : (csc (map (column M) (below n))).values ≡ M.values
  own-values = own-field (λ (e : Entry). e.value) nan M.values (sym right.even) (λ t. refl)

  -- the values of one column
  pub column-values : (c : ℕ) → c < n → map (λ (e : Entry). e.value) (column M c) ≡ column_values M c
  column-values c l = column-field (λ (e : Entry). e.value) nan M.values (sym right.even) (λ t. refl) c l

  abbrev width : ℕ → ℕ
  width c = length (column M c)

  starts_taken : (k : ℕ) → k ≤ n → starts_from 0 (map width (below k)) ≡ take (suc k) M.starts
  starts_taken zero l =
      ap (λ (a : ℕ). a ∷ []) (sym right.zeroth) ∙ sym (take-suc M.starts 0 0 (omega (arith, right.count)))
  starts_taken (suc k) l =
      let total = sum (map width (below k)) in
      let next : 0 + total + width k ≡ get_or M.starts (suc k) 0 = omega (arith, columns_sum n M right k (omega arith), column-length n M right k l) in
      ap (λ (cs : List ℕ). starts_from 0 (map width cs)) (up_from_last 0 k ∙ ap (λ (c : ℕ). below k ++ (c ∷ [])) (omega arith))
      ∙ ap (starts_from 0) (map-append width (below k) (k ∷ []))
      ∙ starts-append 0 (map width (below k)) (width k ∷ [])
      ∙ ap₂ (λ (r : List ℕ) (s : ℕ). r ++ (s ∷ [])) (starts_taken k (omega arith)) next
      ∙ sym (take-suc M.starts (suc k) 0 (omega (arith, right.count)))

  pub own-starts : (csc (map (column M) (below n))).starts ≡ M.starts
  own-starts =
      ap (starts_from 0) (map-map length (column M) (below n)) ∙ starts_taken n (le_refl n)
      ∙ take_all (suc n) M.starts (le_of_eq right.count)

  pub own_columns : csc (map (column M) (below n)) ≡ M
  own_columns = λ i. record { starts = own-starts i; rows = own-rows i; values = own-values i }
