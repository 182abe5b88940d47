-- For the codes of an accepted problem's rows, `cutA` is the layout's compact matrix.
use Prim.Native.Nat.{ℕ, zero, suc, ◌+◌, ◌-◌, ◌*◌, ◌≤◌, ◌<◌}
use native.Mathlib.Nat.{zero-add}
use native.Mathlib.Omega.{arith}
use mathlib.Core.Path.{◌≡◌, refl, ap, ap₂, sym, subst, ◌∙◌}
use mathlib.Core.List.{List, [], ◌∷◌, ◌++◌, map, map-map, map-append}
use lib.ListN.{length, get_or, length-map}
use lib.Dec.{T, ltb}
use lib.Ieee.{Float}
use borrow.Author.Tests.{lt-ltb, le-ltb, ne_eqb}
use Rattle.layout.specs.General.Lists.{up_from, below, all, join, starts_from}
use Rattle.layout.specs.General.Floats.{one64, minus_one64}
use Rattle.layout.specs.Problems.Problem.{Problem, compact}
use Rattle.layout.specs.Rows.Blocks.{Row, kept, owned, overlap, original_row, compact_rows, overlap_count}
use Rattle.layout.specs.Checks.{layout, refusal}
use Rattle.layout.specs.Cuts.Compact.{Entry, column, csc, summed, summed_a, moved, row_entries, augmented_column, overlap_column, overlap_columns, compact_a}
use Rattle.layout.proofs.Lists.Tests.{and_iff, ltb_iff}
use Rattle.layout.proofs.Lists.Members.{every_cons, has-below, all-has, has-at}
use Rattle.layout.proofs.Lists.Joins.{map_same, join_same}
use Rattle.layout.proofs.Checks.Accepted.{accepted-sound}
use Rattle.layout.proofs.Columns.Columns.{column-all}
use Rattle.layout.proofs.Columns.Repeats.{summed-column, right-summed, summed-each}
use Rattle.layout.proofs.Equations.Links.{links}
use Rattle.layout.proofs.Columns.Cut.{link_count}
use Rattle.layout.proofs.Columns.Augmented.{columns_keep}
use Rattle.rows_codes.specs.Codes.{cut_code}
use Rattle.rows_codes.proofs.Rows.{Small, accepted-small}
use Rattle.layout.proofs.Columns.Compressed.{totals}
use Rattle.csc.proofs.Compressed.{starts_beside, fields-append}
use Rattle.augment_standard.specs.Beside.{h_starts, pair_values}
use Rattle.augment_standard.proofs.Columns.{length_pairs}
use Rattle.cut_columns.specs.Column.{coded_column}
use Rattle.augment_compact.proofs.Places.{rows-known}
use Rattle.augment_compact.specs.Cut.{coded_columns, tie, tied_rows, cut_a}

-- ---- a column

-- whether all entries are in original rows (below 65,536)
abbrev Originals : List Entry → Type 0
Originals es = T (all (λ (e : Entry). ltb e.row 65536) es)

moved_nowhere : (q r : ℕ) (es : List Entry) → Originals es → moved (65536 + q) r es ≡ []
moved_nowhere q r [] h = refl
moved_nowhere q r (e ∷ es) h =
    let (here, rest) = (and_iff (ltb e.row 65536) (all (λ (e : Entry). ltb e.row 65536) es)).0 h in
    let l : e.row < 65536 = (ltb_iff e.row 65536).0 here in
    rw (ne_eqb e.row (65536 + q) (λ f. omega arith)) (moved_nowhere q r es rest)

row_coded : (es : List Entry) (r : ℕ) (x : Row) → Originals es → row_entries es r x ≡ moved (cut_code x) r es
row_coded es r (kept o) h = refl
row_coded es r (owned o) h = refl
row_coded es r (overlap o q) h = sym (moved_nowhere q r es h)

-- joining over numbers shifted by one
join-later : {B : Type 0} (f g : ℕ → List B) (a k : ℕ) → ((i : ℕ) → f (suc i) ≡ g i) → join f (up_from (suc a) k) ≡ join g (up_from a k)
join-later f g a zero h = refl
join-later f g a (suc k) h = ap₂ ◌++◌ (h a) (join-later f g (suc a) k h)

column-from : (es : List Entry) (r : ℕ) (R : List Row) → Originals es
    → augmented_column es r R ≡ join (λ i. moved (get_or (map cut_code R) i 0) (r + i) es) (below (length R))
column-from es r [] h = refl
column-from es r (x ∷ R) h =
    let first : r ≡ r + 0 = omega arith in
    ap₂ ◌++◌
    (row_coded es r x h ∙ ap (λ (k : ℕ). moved (cut_code x) k es) first)
    (column-from es (suc r) R h
    ∙ sym (join-later (λ i. moved (get_or (map cut_code (x ∷ R)) i 0) (r + i) es) (λ i. moved (get_or (map cut_code R) i 0) (suc r + i) es) 0 (length R)
    (λ i. let e : r + suc i ≡ suc r + i = omega arith in ap (λ (k : ℕ). moved (get_or (map cut_code R) i 0) k es) e)))

column_coded : (es : List Entry) (R : List Row) → Originals es → augmented_column es 0 R ≡ coded_column (map cut_code R) es
column_coded es R h =
    column-from es 0 R h
    ∙ join_same (λ i. moved (get_or (map cut_code R) i 0) (0 + i) es) (λ i. moved (get_or (map cut_code R) i 0) i es) (below (length R))
    (λ i k. ap (λ (j : ℕ). moved (get_or (map cut_code R) i 0) j es) (zero-add i))
    ∙ ap (λ (k : ℕ). join (λ i. moved (get_or (map cut_code R) i 0) i es) (below k)) (sym (length-map R cut_code))

-- ---- the overlaps' columns

ties : (r : ℕ) (x : Row) → original_row x < 65536 → (csc (overlap_column r x)).rows ≡ tie r (cut_code x)
ties r (kept o) l = rw (lt-ltb o 65536 l)
ties r (owned o) l = rw (lt-ltb o 65536 l)
ties r (overlap o q) l =
    let h : 65536 ≤ 65536 + q = omega arith in
    let e : 65536 + q - 65536 ≡ q = omega arith in
    rw (le-ltb (65536 + q) 65536 h) (ap (λ (k : ℕ). k ∷ r ∷ []) (sym e))

tied_rows_lem : (r : ℕ) (R : List Row) → Small R → (csc (overlap_columns r R)).rows ≡ tied_rows r (map cut_code R)
tied_rows_lem r [] h = refl
tied_rows_lem r (x ∷ R) h =
    let (here, rest) = (every_cons (kept 0) (λ x. original_row x < 65536) x R).0 h in
    fields-append (λ (e : Entry). e.row) (overlap_column r x) (overlap_columns (suc r) R)
    ∙ ap₂ ◌++◌ (ties r x here) (tied_rows_lem (suc r) R rest)

tied_values : (r : ℕ) (R : List Row) → (csc (overlap_columns r R)).values ≡ pair_values minus_one64 one64 (length (links r R))
tied_values r [] = refl
tied_values r (kept o ∷ R) = tied_values (suc r) R
tied_values r (owned o ∷ R) = tied_values (suc r) R
tied_values r (overlap o q ∷ R) = ap (λ (l : List Float). minus_one64 ∷ one64 ∷ l) (tied_values (suc r) R)

tied_starts : (a r : ℕ) (R : List Row) → totals a (map length (overlap_columns r R)) ≡ h_starts a (length (links r R))
tied_starts a r [] = refl
tied_starts a r (kept o ∷ R) = tied_starts a (suc r) R
tied_starts a r (owned o ∷ R) = tied_starts a (suc r) R
tied_starts a r (overlap o q ∷ R) = ap (λ (l : List ℕ). (a + 2) ∷ l) (tied_starts (a + 2) (suc r) R)

-- ---- an accepted problem

module _ (p : Problem) (ok : refusal compact p ≡ 0) where
  abbrev R : List Row
  R = compact_rows (layout p)

  abbrev codes : List ℕ
  codes = map cut_code R

  abbrev added : List (List Entry)
  added = overlap_columns 0 R

  -- the columns of A, with repeats added, over the augmented rows
  abbrev moving : ℕ → List Entry
  moving c = augmented_column (summed (column p.A c)) 0 R

  -- every entry is in an original row
  entries-original : (c : ℕ) → c < p.n → Originals (summed (column p.A c))
  entries-original c l =
      subst Originals (summed-column p c l)
      (column-all p.n (summed_a p) (right-summed p) c l (λ r. ltb r 65536)
      (summed-each p compact ok (λ r. ltb r 65536)
      ((all-has (λ r. ltb r 65536) p.A.rows).1 (λ r h.
      let (t, m, e) = (has-at 0 r p.A.rows).0 h in
      (ltb_iff r 65536).1 (omega (arith, rows-known p ok t m, (accepted-sound compact p ok).few))))))

  columns_coded : map moving (below p.n) ≡ coded_columns p.n (summed_a p) codes
  columns_coded = map_same moving (λ c. coded_column codes (column (summed_a p) c)) (below p.n) (λ c h.
      let l = (has-below c p.n).0 h in
      column_coded (summed (column p.A c)) R (entries-original c l) ∙ ap (coded_column codes) (sym (summed-column p c l)))

  -- moving a column keeps its length
  lengths-keep : map length (map moving (below p.n)) ≡ map length (map (column (summed_a p)) (below p.n))
  lengths-keep =
      map-map length moving (below p.n)
      ∙ map_same (λ c. length (moving c)) (λ c. length (column (summed_a p) c)) (below p.n) (λ c h.
      let l = (has-below c p.n).0 h in
      columns_keep p ok c l ∙ ap length (sym (summed-column p c l)))
      ∙ sym (map-map length (column (summed_a p)) (below p.n))

  starts : (compact_a p).starts ≡ (cut_a p.n (summed_a p) codes (overlap_count (layout p))).starts
  starts =
      ap (starts_from 0)
      (map-append length (map moving (below p.n)) added
      ∙ ap (λ (ks : List ℕ). ks ++ map length added) lengths-keep
      ∙ sym (map-append length (map (column (summed_a p)) (below p.n)) added))
      ∙ starts_beside p.n (summed_a p) (right-summed p) added
      ∙ ap (λ (l : List ℕ). (summed_a p).starts ++ l)
      (tied_starts (length (summed_a p).values) 0 R ∙ ap (h_starts (length (summed_a p).values)) (link_count p ok))

  rows : (compact_a p).rows ≡ (cut_a p.n (summed_a p) codes (overlap_count (layout p))).rows
  rows =
      fields-append (λ (e : Entry). e.row) (map moving (below p.n)) added
      ∙ ap₂ ◌++◌ (ap (λ (cs : List (List Entry)). (csc cs).rows) columns_coded) (tied_rows_lem 0 R (accepted-small p ok))

  values : (compact_a p).values ≡ (cut_a p.n (summed_a p) codes (overlap_count (layout p))).values
  values =
      fields-append (λ (e : Entry). e.value) (map moving (below p.n)) added
      ∙ ap₂ ◌++◌ (ap (λ (cs : List (List Entry)). (csc cs).values) columns_coded)
      (tied_values 0 R ∙ ap (pair_values minus_one64 one64) (link_count p ok))

  -- the number of row indices of the overlap columns, for the room that `write_entries` requires
  pub tied_count : length (tied_rows 0 (map cut_code (compact_rows (layout p)))) ≡ 2 * overlap_count (layout p)
  tied_count =
      ap length (sym (tied_rows_lem 0 R (accepted-small p ok))) ∙ length-map (join (λ c. c) added) (λ (e : Entry). e.row)
      ∙ sym (length-map (join (λ c. c) added) (λ (e : Entry). e.value)) ∙ ap length (tied_values 0 R)
      ∙ length_pairs minus_one64 one64 (length (links 0 R)) ∙ ap (λ (k : ℕ). 2 * k) (link_count p ok)

  -- the tables written are those of the compact cut
  pub cut_compact : cut_a p.n (summed_a p) (map cut_code (compact_rows (layout p))) (overlap_count (layout p)) ≡ compact_a p
  cut_compact = sym (λ i. record { starts = starts i; rows = rows i; values = values i })
