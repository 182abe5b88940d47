-- Compressed columns: the columns of a list of columns read back, and the columns of a matrix that passes checks 2 and 3.
use Prim.Native.Nat.{ℕ, zero, suc, ◌+◌, ◌-◌, ◌≤◌, ◌<◌}
use native.Mathlib.Omega.{arith}
use mathlib.Core.Path.{◌≡◌, refl, sym, ap, ap₂, subst, ◌∙◌}
use mathlib.Core.Bool.{Bool}
use mathlib.Core.List.{List, [], ◌∷◌, ◌++◌, map}
use lib.ListN
use lib.ListN.{length, get_or, take, drop, length-append, length-map}
use lib.Seq.{take_at, drop_at}
use lib.Dec.{T}
use lib.Ieee.{Float, nan}
use Rattle.layout.specs.General.Lists.{all, below, up_from, sum, join, starts_from, rises, never_falls}
use Rattle.layout.specs.Problems.Problem.{Csc, Problem, Route}
use Rattle.layout.specs.Checks.{starts_right, rows_in_order, rows_right, column_rows, refusal}
use Rattle.layout.specs.Cuts.Compact.{Entry, entries_from, column, csc, rows_of}
use Rattle.layout.proofs.Lists.Tests.{and_iff, eqb_iff}
use Rattle.layout.proofs.Lists.Members.{get_or_map, has_get_or, has-below, all-has, length-up_from}
use Rattle.layout.proofs.Lists.Rising.{falls_never, falls_never_far}
use Rattle.layout.proofs.Lists.Joins.{map_same, sum_last, length-join}
use Rattle.layout.proofs.Lists.Starts.{part_at, sum-take, join-split, join_before, starts-at}
use Rattle.layout.proofs.Checks.Accepted.{accepted_checked}

abbrev no_entry : Entry
no_entry = record { row = 0; value = nan }

pub entries-rows : (a k : ℕ) (M : Csc) → rows_of (entries_from a k M) ≡ map (λ t. get_or M.rows t 0) (up_from a k)
entries-rows a zero M = refl
entries-rows a (suc k) M = ap {B = List ℕ} (λ r. get_or M.rows a 0 ∷ r) (entries-rows (suc a) k M)

-- ---- columns written and read

-- there are as many values as the columns have entries, and as many row indices as values
pub entry_count : (cs : List (List Entry)) → length (csc cs).values ≡ sum (map length cs)
entry_count cs = length-map (join (λ c. c) cs) (λ (e : Entry). e.value) ∙ length-join (λ (c : List Entry). c) cs

pub even : (cs : List (List Entry)) → length (csc cs).rows ≡ length (csc cs).values
even cs = length-map (join (λ c. c) cs) (λ (e : Entry). e.row) ∙ sym (length-map (join (λ c. c) cs) (λ (e : Entry). e.value))

entries_at : (S : List ℕ) (es : List Entry) (a k : ℕ)
    → entries_from a k (record { starts = S; rows = map (λ (e : Entry). e.row) es; values = map (λ (e : Entry). e.value) es })
    ≡ map (λ t. get_or es t no_entry) (up_from a k)
entries_at S es a k = map_same _ _ (up_from a k) (λ t h.
    ap₂ {C = Entry} (λ (r : ℕ) (v : Float). record { row = r; value = v })
    (ListN.get_or-map (λ (e : Entry). e.row) es t no_entry) (ListN.get_or-map (λ (e : Entry). e.value) es t no_entry))

pub column-csc : (cs : List (List Entry)) (c : ℕ) → c < length cs → column (csc cs) c ≡ get_or cs c []
column-csc cs c l =
    ap₂ (λ (a b : ℕ). entries_from a (b - a) (csc cs)) here next
    ∙ ap (λ (k : ℕ). entries_from (length before) k (csc cs)) wide
    ∙ entries_at (starts_from 0 (map length cs)) (join (λ c. c) cs) (length before) (length this)
    ∙ part_at no_entry (join (λ c. c) cs) (length before) (length this) (omega (arith, size))
    ∙ ap (λ (es : List Entry). take (length this) (drop (length before) es)) (join-split (λ c. c) cs c [] l)
    ∙ ap (take (length this)) (drop_at before (this ++ after) (length before) refl)
    ∙ take_at this after (length this) refl
  where
    before : List Entry
    before = join (λ c. c) (take c cs)

    this : List Entry
    this = get_or cs c []

    after : List Entry
    after = join (λ c. c) (drop (suc c) cs)

    many : length (map length cs) ≡ length cs
    many = length-map cs length

    here : get_or (starts_from 0 (map length cs)) c 0 ≡ length before
    here = starts-at 0 (map length cs) c 0 (omega (arith, many)) ∙ omega (arith, join_before (λ c. c) cs c)

    next : get_or (starts_from 0 (map length cs)) (suc c) 0 ≡ length before + length this
    next =
        starts-at 0 (map length cs) (suc c) 0 (omega (arith, many))
        ∙ omega (arith, sum-take (map length cs) c (omega (arith, many)), get_or_map length cs c [] 0 l, join_before (λ c. c) cs c)

    wide : length before + length this - length before ≡ length this
    wide = omega arith

    size : length (join (λ c. c) cs) ≡ length before + (length this + length after)
    size =
        ap length (join-split (λ c. c) cs c [] l) ∙ length-append before (this ++ after)
        ∙ ap (λ (k : ℕ). length before + k) (length-append this after)

-- ---- a matrix that passes check 2

pub record RightStarts (n : ℕ) (M : Csc) : Type 0 where
  pub zeroth : get_or M.starts 0 0 ≡ 0
  pub rise : (c : ℕ) → c < n → get_or M.starts c 0 ≤ get_or M.starts (suc c) 0
  pub inside : (c : ℕ) → c ≤ n → get_or M.starts c 0 ≤ length M.rows
  pub last : get_or M.starts n 0 ≡ length M.rows
  pub count : length M.starts ≡ suc n
  pub even : length M.rows ≡ length M.values

pub starts-right : (n : ℕ) (M : Csc) → T (starts_right n M) → RightStarts n M
starts-right n M h =
    let k = simp (and_iff, eqb_iff) at h in
    let never = k.0.0.1 in
    record {
      zeroth = begin M.starts k.0.0.0.0 k.0.0.0.1;
      rise = λ c l. falls_never M.starts c never (omega (arith, k.0.0.0.0));
      inside = λ c l.
          let e : get_or M.starts (c + (n - c)) 0 ≡ get_or M.starts n 0 = ap (λ (i : ℕ). get_or M.starts i 0) (omega arith) in
          omega (arith, falls_never_far M.starts c (n - c) never (omega (arith, k.0.0.0.0)), k.0.1, k.1);
      last = omega (arith, k.0.1, k.1);
      count = k.0.0.0.0;
      even = k.1;
    }
  where
    begin : (xs : List ℕ) → length xs ≡ suc n → get_or xs 0 1 ≡ 0 → get_or xs 0 0 ≡ 0
    begin [] e f = refl
    begin (x ∷ xs) e f = f

-- the matrices of a problem that a route accepts
module _ (route : Route) (p : Problem) (ok : refusal route p ≡ 0) where
  pub right_A : RightStarts p.n p.A
  right_A = starts-right p.n p.A (accepted_checked route p ok).starts_a

  pub right_P : RightStarts p.n p.P
  right_P = starts-right p.n p.P (accepted_checked route p ok).starts_p

module _ (n : ℕ) (M : Csc) (right : RightStarts n M) (c : ℕ) (l : c < n) where
  abbrev first : ℕ
  first = get_or M.starts c 0

  abbrev width : ℕ
  width = get_or M.starts (suc c) 0 - get_or M.starts c 0

  fits : first + width ≤ length M.rows
  fits = omega (arith, right.rise c l, right.inside (suc c) l)

  pub column-length : get_or M.starts c 0 + length (column M c) ≡ get_or M.starts (suc c) 0
  column-length =
      let e : length (column M c) ≡ width =
      length-map (up_from first width) (λ t. record { row = get_or M.rows t 0; value = get_or M.values t nan })
      ∙ length-up_from first width in
      omega (arith, right.rise c l)

  -- the row indices of a column's entries
  pub column-rows : rows_of (column M c) ≡ column_rows M c
  column-rows = entries-rows first width M ∙ part_at 0 M.rows first width fits

  -- a test that every row index of the matrix passes holds for the column's
  pub column-all : (p : ℕ → Bool) → T (all p M.rows) → T (all (λ (e : Entry). p e.row) (column M c))
  column-all p h = go first width fits
    where
      go : (a k : ℕ) → a + k ≤ length M.rows → T (all (λ (e : Entry). p e.row) (entries_from a k M))
      go a zero m = tt
      go a (suc k) m =
          (and_iff (p (get_or M.rows a 0)) (all (λ (e : Entry). p e.row) (entries_from (suc a) k M))).1
          ((all-has p M.rows).0 h (get_or M.rows a 0) (has_get_or M.rows a 0 (omega arith)), go (suc a) k (omega arith))

-- the lengths of the columns below k add up to start k
pub columns_sum : (n : ℕ) (M : Csc) → RightStarts n M → (k : ℕ) → k ≤ n → sum (map (λ c. length (column M c)) (below k)) ≡ get_or M.starts k 0
columns_sum n M right zero l = sym right.zeroth
columns_sum n M right (suc k) l =
    let width : ℕ → ℕ = λ c. length (column M c) in
    let e : width (0 + k) ≡ width k = ap width (omega arith) in
    omega (arith, sum_last width 0 k, columns_sum n M right k (omega arith), column-length n M right k l)

-- check 3 of P: the row indices of a column strictly increase
pub rows_rise : (m n : ℕ) (M : Csc) → RightStarts n M → T (rows_right m n M) → (c : ℕ) → c < n
    → T (rises (rows_of (column M c)))
rows_rise m n M right h c l =
    let rising = (all-has (λ c. rises (column_rows M c)) (below n)).0 (simp and_iff at h).1 c ((has-below c n).1 l) in
    subst (λ (rs : List ℕ). T (rises rs)) (sym (column-rows n M right c l)) rising

-- check 3 of A: the row indices of a column do not decrease
pub rows_never_fall : (m n : ℕ) (M : Csc) → RightStarts n M → T (rows_in_order m n M) → (c : ℕ) → c < n
    → T (never_falls (rows_of (column M c)))
rows_never_fall m n M right h c l =
    let never = (all-has (λ c. never_falls (column_rows M c)) (below n)).0 (simp and_iff at h).1 c ((has-below c n).1 l) in
    subst (λ (rs : List ℕ). T (never_falls rs)) (sym (column-rows n M right c l)) never
