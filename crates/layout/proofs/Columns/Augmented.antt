-- The columns of the compact cut's A: each column of A, its repeats added, keeps its number of entries, so the augmented starts begin
-- with those of A with its repeats added; and row indices strictly increase in every column.
use Prim.Native.Nat.{ℕ, zero, suc, ◌+◌, ◌-◌, ◌≤◌, ◌<◌}
use native.Mathlib.Nat.{le_of_suc-le-suc, zero-add}
use native.Mathlib.Omega.{arith}
use mathlib.Core.Path.{◌≡◌, refl, sym, ap, subst, ◌∙◌}
use mathlib.Core.Logic.{◌⊎◌, inl, inr}
use mathlib.Core.Bool.{Bool, true, false, cond, ◌&&◌}
use mathlib.Core.List.{List, [], ◌∷◌, ◌++◌, map, map-append}
use lib.ListN.{length, get_or, take, length-append, length-map}
use lib.Dec.{T, eqb, ltb, eqb→eq, lt→ltb}
use Rattle.layout.specs.General.Lists.{has, all, keep, distinct, rises, sum}
use Rattle.layout.specs.Problems.Problem.{Problem, compact}
use Rattle.layout.specs.Rows.Blocks.{Row, kept, owned, overlap, original_row, compact_rows, overlap_count}
use Rattle.layout.specs.Checks.{layout, refusal, covered_rows}
use Rattle.layout.specs.Cuts.Compact.{Entry, column, summed, summed_a, moved, row_entries, augmented_column, compact_a, rows_of, compact_columns}
use Rattle.layout.proofs.Lists.Tests.{and_iff, eqb_iff, lt_or_le, cond_failed}
use Rattle.layout.proofs.Lists.Members.{get_or_map, has-cons, has-map}
use Rattle.layout.proofs.Lists.Distinct.{distinct_cons}
use Rattle.layout.proofs.Lists.Rising.{rises-cons, rises-distinct}
use Rattle.layout.proofs.Lists.Counting.{count_if, count-cons, count-once}
use Rattle.layout.proofs.Lists.Starts.{sum-take, starts-at}
use Rattle.layout.proofs.Rows.Moves.{row_at, is_moved, RightRows}
use Rattle.layout.proofs.Columns.Columns.{column-csc, column-length, column-all, rows_rise}
use Rattle.layout.proofs.Columns.Repeats.{summed-column, right-summed, rows-summed}
use Rattle.layout.proofs.Equations.Links.{Link, links, all_links, All}
use Rattle.layout.proofs.Equations.Elimination.{tied_before}
use Rattle.layout.proofs.Equations.RowSums.{link_column}
use Rattle.layout.proofs.Columns.Cut.{right-rows, covered_summed, link_count, all_columns_count, first_columns, added_columns}

-- ---- each entry moves to one row

-- whether the entries of original row o are moved to row x
abbrev takes : ℕ → Row → Bool
takes o x = is_moved x && eqb o (original_row x)

moved-count : (es : List Entry) (o q : ℕ) → length (moved o q es) ≡ count_if (λ (e : Entry). eqb e.row o) es
moved-count es o q = length-map (keep (λ (e : Entry). eqb e.row o) es) (λ (e : Entry). record { row = q; value = e.value })

moved_length : (e : Entry) (es : List Entry) (o q : ℕ) → length (moved o q (e ∷ es)) ≡ cond (eqb e.row o) 1 0 + length (moved o q es)
moved_length e es o q =
    omega (arith, moved-count (e ∷ es) o q, moved-count es o q, count-cons (λ (e : Entry). eqb e.row o) e es)

row-length : (e : Entry) (es : List Entry) (q : ℕ) (x : Row)
    → length (row_entries (e ∷ es) q x) ≡ cond (takes e.row x) 1 0 + length (row_entries es q x)
row-length e es q (kept o) = moved_length e es o q
row-length e es q (owned o) = moved_length e es o q
row-length e es q (overlap o r) = omega arith

column-cons : (e : Entry) (es : List Entry) (i : ℕ) (R : List Row)
    → length (augmented_column (e ∷ es) i R) ≡ count_if (takes e.row) R + length (augmented_column es i R)
column-cons e es i [] = refl
column-cons e es i (x ∷ R) =
    omega (
      arith,
      length-append (row_entries (e ∷ es) i x) (augmented_column (e ∷ es) (suc i) R),
      length-append (row_entries es i x) (augmented_column es (suc i) R),
      row-length e es i x,
      count-cons (takes e.row) x R,
      column-cons e es (suc i) R,
    )

row-none : (q : ℕ) (x : Row) → row_entries [] q x ≡ []
row-none q (kept o) = refl
row-none q (owned o) = refl
row-none q (overlap o r) = refl

column-none : (i : ℕ) (R : List Row) → length (augmented_column [] i R) ≡ 0
column-none i [] = refl
column-none i (x ∷ R) =
    ap (λ (es : List Entry). length (es ++ augmented_column [] (suc i) R)) (row-none i x) ∙ column-none (suc i) R

-- an original row that some augmented row represents is moved to exactly one row
takes_once : (m : ℕ) (R : List Row) → RightRows 0 0 m R → (o : ℕ) → T (has o (map original_row R)) → count_if (takes o) R ≡ 1
takes_once m R right o h =
    let (r, l, e) = (has-map (kept 0) original_row o R).0 h in
    let (s, le, k, f) = right.before r l in
    let ls : s < length R = omega arith in
    count-once (takes o) (kept 0) R s ls
    ((and_iff (is_moved (row_at R s)) (eqb o (original_row (row_at R s)))).1 (k, (eqb_iff o (original_row (row_at R s))).1 (e ∙ sym f)))
    (λ j lj t.
    let (kj, ej) = (and_iff (is_moved (row_at R j)) (eqb o (original_row (row_at R j)))).0 t in
    right.once j s lj ls kj k (sym (eqb→eq o (original_row (row_at R j)) ej) ∙ e ∙ sym f))

column_keeps : (m : ℕ) (R : List Row) → RightRows 0 0 m R → (es : List Entry) (i : ℕ)
    → T (all (λ (e : Entry). has e.row (map original_row R)) es) → length (augmented_column es i R) ≡ length es
column_keeps m R right [] i h = column-none i R
column_keeps m R right (e ∷ es) i h =
    let (here, rest) = (and_iff (has e.row (map original_row R)) (all (λ (e : Entry). has e.row (map original_row R)) es)).0 h in
    omega (arith, column-cons e es i R, takes_once m R right e.row here, column_keeps m R right es i rest)

-- ---- row indices increase

moved_none : (o q : ℕ) (es : List Entry) → (T (has o (rows_of es)) → ⊥) → rows_of (moved o q es) ≡ []
moved_none o q [] n = refl
moved_none o q (e ∷ es) n =
    ap (λ (fs : List Entry). rows_of (map (λ (e : Entry). record { row = q; value = e.value }) fs))
    (cond_failed (eqb e.row o) (e ∷ keep (λ (e : Entry). eqb e.row o) es) (keep (λ (e : Entry). eqb e.row o) es)
    (λ t. n ((has-cons o e.row (rows_of es)).1 (inl (sym (eqb→eq e.row o t))))))
    ∙ moved_none o q es (λ k. n ((has-cons o e.row (rows_of es)).1 (inr k)))

-- the row indices of at most one entry, in row q
abbrev AtMostOne : ℕ → List ℕ → Type 0
AtMostOne q rs = (rs ≡ []) ⊎ (rs ≡ q ∷ [])

moved_one : (o q : ℕ) (es : List Entry) → T (distinct (rows_of es)) → AtMostOne q (rows_of (moved o q es))
moved_one o q [] h = inl refl
moved_one o q (e ∷ es) h =
    let (new, rest) = (distinct_cons e.row (rows_of es)).0 h in
    go (eqb e.row o) (eqb→eq e.row o) new (moved_one o q es rest)
  where
    others : List Entry
    others = keep (λ (e : Entry). eqb e.row o) es

    go : (b : Bool) → (T b → e.row ≡ o) → (T (has e.row (rows_of es)) → ⊥) → AtMostOne q (rows_of (moved o q es))
        → AtMostOne q (rows_of (map (λ (e : Entry). record { row = q; value = e.value }) (cond b (e ∷ others) others)))
    go true f new h =
        inr (ap {B = List ℕ} (λ rs. q ∷ rs) (moved_none o q es (λ k. new (subst (λ (r : ℕ). T (has r (rows_of es))) (sym (f tt)) k))))
    go false f new h = h

row_one : (q : ℕ) (x : Row) (es : List Entry) → T (distinct (rows_of es)) → AtMostOne q (rows_of (row_entries es q x))
row_one q (kept o) es h = moved_one o q es h
row_one q (owned o) es h = moved_one o q es h
row_one q (overlap o r) es h = inl refl

column-rises : (es : List Entry) (i : ℕ) (R : List Row) → T (distinct (rows_of es))
    → T (rises (rows_of (augmented_column es i R))) × ((r : ℕ) → T (has r (rows_of (augmented_column es i R))) → i ≤ r)
column-rises es i [] h = (tt, λ r k. absurd k)
column-rises es i (x ∷ R) h =
    let (rising, above) = column-rises es (suc i) R h in
    subst (λ (rs : List ℕ). T (rises rs) × ((r : ℕ) → T (has r rs) → i ≤ r))
    (sym (map-append (λ (e : Entry). e.row) (row_entries es i x) (augmented_column es (suc i) R)))
    (go (rows_of (row_entries es i x)) (rows_of (augmented_column es (suc i) R)) (row_one i x es h) rising above)
  where
    go : (rs ss : List ℕ) → AtMostOne i rs → T (rises ss) → ((r : ℕ) → T (has r ss) → suc i ≤ r)
        → T (rises (rs ++ ss)) × ((r : ℕ) → T (has r (rs ++ ss)) → i ≤ r)
    go rs ss (inl e) rising above = subst (λ (qs : List ℕ). T (rises (qs ++ ss)) × ((r : ℕ) → T (has r (qs ++ ss)) → i ≤ r)) (sym e)
        (rising, λ r k. omega (arith, above r k))
    go rs ss (inr e) rising above = subst (λ (qs : List ℕ). T (rises (qs ++ ss)) × ((r : ℕ) → T (has r (qs ++ ss)) → i ≤ r)) (sym e) (
      (rises-cons i ss).1 (above, rising),
      λ r k. elim ((has-cons r i ss).0 k) [ inl f ↦ omega arith | inr m ↦ omega (arith, above r m) ],
    )

-- ---- a problem that the compact route accepts

module _ (p : Problem) (ok : refusal compact p ≡ 0) where
  abbrev R : List Row
  R = compact_rows (layout p)

  -- every column of A keeps its number of entries, one for each run
  pub columns_keep : (c : ℕ) → c < p.n
      → length (augmented_column (summed (column p.A c)) 0 (compact_rows (layout p))) ≡ length (summed (column p.A c))
  columns_keep c l =
      column_keeps p.m R (right-rows p ok) (summed (column p.A c)) 0
      (subst (λ (es : List Entry). T (all (λ (e : Entry). has e.row (covered_rows (layout p))) es)) (summed-column p c l)
      (column-all p.n (summed_a p) (right-summed p) c l (λ r. has r (covered_rows (layout p))) (covered_summed p ok)))

  -- so the augmented starts begin with those of the summed A
  pub starts-keep : (c : ℕ) → c ≤ p.n → get_or (compact_a p).starts c 0 ≡ get_or (summed_a p).starts c 0
  starts-keep c l = starts-at 0 lengths c 0 (omega (arith, many)) ∙ zero-add (sum (take c lengths)) ∙ go c l
    where
      lengths : List ℕ
      lengths = map length (compact_columns p)

      many : length lengths ≡ p.n + length (links 0 R)
      many = length-map (compact_columns p) length ∙ all_columns_count p ok

      width : (c : ℕ) → c < p.n → get_or lengths c 0 ≡ length (column (summed_a p) c)
      width c l =
          get_or_map length (compact_columns p) c [] 0 (omega (arith, all_columns_count p ok))
          ∙ ap length (sym (column-csc (compact_columns p) c (omega (arith, all_columns_count p ok))) ∙ first_columns p ok c l) ∙ columns_keep c l
          ∙ ap length (sym (summed-column p c l))

      go : (c : ℕ) → c ≤ p.n → sum (take c lengths) ≡ get_or (summed_a p).starts c 0
      go zero l = sym (right-summed p).zeroth
      go (suc c) l =
          omega (
            arith,
            sum-take lengths c (omega (arith, many)),
            width c l,
            go c (omega arith),
            column-length p.n (summed_a p) (right-summed p) c l,
          )

  -- row indices strictly increase in A's columns
  first_rise : (c : ℕ) → c < p.n → T (rises (rows_of (augmented_column (summed (column p.A c)) 0 (compact_rows (layout p)))))
  first_rise c l = (column-rises (summed (column p.A c)) 0 R
      (subst (λ (es : List Entry). T (distinct (rows_of es))) (summed-column p c l)
      (rises-distinct (rows_of (column (summed_a p) c)) (rows_rise p.m p.n (summed_a p) (right-summed p) (rows-summed p compact ok) c l)))).0

  -- and in the overlap columns
  links_rise : (k : ℕ) (L : List Link) → All (λ l. l.parent < l.own) L → k < length L → T (rises (rows_of (get_or (map link_column L) k [])))
  links_rise k [] h l = tt
  links_rise zero (x ∷ L) h l = (and_iff (ltb x.parent x.own) true).1 (lt→ltb x.parent x.own h.0, tt)
  links_rise (suc k) (x ∷ L) h l = links_rise k L h.1 (le_of_suc-le-suc l)

  pub columns_rise : (c : ℕ) → c < p.n + overlap_count (layout p) → T (rises (rows_of (column (compact_a p) c)))
  columns_rise c l = elim (lt_or_le c p.n) [
    | inl m ↦ subst (λ (es : List Entry). T (rises (rows_of es))) (sym (first_columns p ok c m)) (first_rise c m)
    | inr m ↦
        let k : ℕ = c - p.n in
        let here : p.n + k ≡ c = omega arith in
        let lk : k < length (links 0 R) = omega (arith, link_count p ok) in
        subst (λ (i : ℕ). T (rises (rows_of (column (compact_a p) i)))) here
        (subst (λ (es : List Entry). T (rises (rows_of es))) (sym (added_columns p ok k lk))
        (links_rise k (links 0 R) back lk))
  ]
    where
      back : All (λ l. l.parent < l.own) (links 0 R)
      back = all_links (λ l. l.parent < l.own) 0 R (λ k o q i e. omega (arith, (tied_before p.m R (right-rows p ok) k o q i e).0))
