-- The compact cut's A is itself well formed: it passes checks 2 and 3 for its own numbers of rows and columns.
use Prim.Native.Nat.{ℕ, zero, suc, ◌+◌, ◌-◌, ◌<◌}
use native.Mathlib.Omega.{arith}
use mathlib.Core.Path.{◌≡◌, sym, ap, subst, ◌∙◌}
use mathlib.Core.Logic.{inl, inr}
use mathlib.Core.List.{List, [], ◌∷◌, map, map-append}
use lib.ListN.{length, get_or}
use lib.Dec.{T, eqb}
use Rattle.layout.specs.General.Lists.{has, keep, rises}
use Rattle.layout.specs.Problems.Problem.{Problem, compact}
use Rattle.layout.specs.Rows.Blocks.{Row, kept, owned, overlap, compact_rows, block_row_count, overlap_count}
use Rattle.layout.specs.Checks.{layout, refusal, starts_right, rows_right}
use Rattle.layout.specs.Cuts.Compact.{Entry, column, summed, row_entries, augmented_column, compact_a, rows_of, compact_columns}
use Rattle.layout.proofs.Lists.Tests.{lt_or_le}
use Rattle.layout.proofs.Lists.Members.{has-cons, has-append}
use Rattle.layout.proofs.Rows.Laid.{accepted-count}
use Rattle.layout.proofs.Columns.Columns.{column-csc}
use Rattle.layout.proofs.Equations.Links.{Link, links, All, all_links}
use Rattle.layout.proofs.Equations.RowSums.{link_column}
use Rattle.layout.proofs.Equations.Elimination.{tied_before}
use Rattle.layout.proofs.Columns.Cut.{right-rows, link_count, all_columns_count, first_columns, added_columns}
use Rattle.layout.proofs.Columns.Augmented.{columns_rise}
use Rattle.layout.proofs.Columns.Compressed.{csc-starts, csc-rows}

-- ---- the row indices of augmented columns are in range

moved_on : (q r : ℕ) (es : List Entry) → T (has r (rows_of (map (λ (e : Entry). record { row = q; value = e.value }) es))) → r ≡ q
moved_on q r [] h = absurd h
moved_on q r (e ∷ es) h =
    elim ((has-cons r q (rows_of (map (λ (e : Entry). record { row = q; value = e.value }) es))).0 h) [
      | inl e' ↦ e'
      | inr k ↦ moved_on q r es k
    ]

row_on : (q r : ℕ) (x : Row) (es : List Entry) → T (has r (rows_of (row_entries es q x))) → r ≡ q
row_on q r (kept o) es h = moved_on q r (keep (λ (e : Entry). eqb e.row o) es) h
row_on q r (owned o) es h = moved_on q r (keep (λ (e : Entry). eqb e.row o) es) h
row_on q r (overlap o s) es h = absurd h

column-inside : (es : List Entry) (i r : ℕ) (R : List Row) → T (has r (rows_of (augmented_column es i R))) → r < i + length R
column-inside es i r [] h = absurd h
column-inside es i r (x ∷ R) h =
    let k = subst (λ (rs : List ℕ). T (has r rs))
    (map-append (λ (e : Entry). e.row) (row_entries es i x) (augmented_column es (suc i) R)) h in
    elim ((has-append r (rows_of (row_entries es i x)) (rows_of (augmented_column es (suc i) R))).0 k) [
      | inl m ↦ omega (arith, row_on i r x es m)
      | inr m ↦ omega (arith, column-inside es (suc i) r R m)
    ]

link_inside : (m k r : ℕ) (L : List Link) → All (λ l. (l.parent < m) × (l.own < m)) L
    → T (has r (rows_of (get_or (map link_column L) k []))) → r < m
link_inside m k r [] a h = absurd h
link_inside m zero r (l ∷ L) a h = elim ((has-cons r l.parent (l.own ∷ [])).0 h) [
  | inl e ↦ omega (arith, a.0)
  | inr j ↦ elim ((has-cons r l.own []).0 j) [ inl e ↦ omega (arith, a.0) | inr n ↦ absurd n ]
]
link_inside m (suc k) r (l ∷ L) a h = link_inside m k r L a.1 h

-- ---- the compact cut

module _ (p : Problem) (ok : refusal compact p ≡ 0) where
  abbrev R : List Row
  R = compact_rows (layout p)

  abbrev cs : List (List Entry)
  cs = compact_columns p

  many : length cs ≡ p.n + overlap_count (layout p)
  many = all_columns_count p ok ∙ ap (λ (k : ℕ). p.n + k) (link_count p ok)

  links_inside : All (λ l. (l.parent < length R) × (l.own < length R)) (links 0 R)
  links_inside = all_links (λ l. (l.parent < length R) × (l.own < length R)) 0 R
      (λ k o q i e. let b = (tied_before p.m R (right-rows p ok) k o q i e).0 in omega arith)

  inside : (c : ℕ) → c < length cs → (r : ℕ) → T (has r (rows_of (column (compact_a p) c))) → r < length R
  inside c l r h = elim (lt_or_le c p.n) [
    | inl m ↦
        let k = subst (λ (es : List Entry). T (has r (rows_of es))) (first_columns p ok c m) h in
        omega (arith, column-inside (summed (column p.A c)) 0 r R k)
    | inr m ↦
        let k : ℕ = c - p.n in
        let here : c ≡ p.n + k = omega arith in
        let lk : k < length (links 0 R) = omega (arith, all_columns_count p ok) in
        link_inside (length R) k r (links 0 R) links_inside
        (subst (λ (es : List Entry). T (has r (rows_of es))) (ap (column (compact_a p)) here ∙ added_columns p ok k lk) h)
  ]

  pub compact_right : T (starts_right (p.n + overlap_count (layout p)) (compact_a p))
      × T (rows_right (block_row_count (layout p)) (p.n + overlap_count (layout p)) (compact_a p))
  compact_right = (
    subst (λ (n : ℕ). T (starts_right n (compact_a p))) many (csc-starts cs),
    subst (λ (n : ℕ). T (rows_right (block_row_count (layout p)) n (compact_a p))) many (csc-rows cs (block_row_count (layout p))
        (λ c l r h. subst (λ (m : ℕ). r < m) (accepted-count compact p ok)
        (inside c l r (subst (λ (es : List Entry). T (has r (rows_of es))) (sym (column-csc cs c l)) h)))
        (λ c l. subst (λ (es : List Entry). T (rises (rows_of es))) (column-csc cs c l)
        (columns_rise p ok c (omega (arith, many))))),
  )
