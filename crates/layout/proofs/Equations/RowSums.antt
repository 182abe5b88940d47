-- The row sums of the compact cut's A: on a moved row A's own sum at the original row, on an overlap row nothing from A, and what the
-- added unknowns contribute.
use Prim.Native.Nat.{ℕ, zero, suc, ◌+◌, ◌≤◌, ◌<◌}
use native.Mathlib.Nat.{not-suc-le-zero, le_of_suc-le-suc, zero-add}
use native.Mathlib.Omega.{arith}
use mathlib.Core.Path.{◌≡◌, refl, sym, ap, ap₂, subst, ◌∙◌}
use mathlib.Core.Bool.{Bool, true, false, cond}
use mathlib.Core.List.{List, [], ◌∷◌, ◌++◌, map}
use lib.ListN.{length, get_or}
use lib.Dec.{T, eqb, eqb→eq}
use lib.IntN.{ℤ, pos, negsuc, neg_ℤ, ◌+ℤ◌, ◌*ℤ◌, +ℤ_idl, +ℤ_idr, +ℤ_assoc, +ℤ_comm}
use lib.Ieee.{Float}
use Rattle.layout.specs.General.Lists.{has, all, keep}
use Rattle.layout.specs.General.Floats.{one64, minus_one64, unit}
use Rattle.layout.specs.Problems.Problem.{Csc}
use Rattle.layout.specs.Rows.Blocks.{Row, kept, owned, overlap}
use Rattle.layout.specs.Cuts.Compact.{Entry, column, moved, row_entries, augmented_column, overlap_columns}
use Rattle.layout.specs.Equations.Equations.{column_term, columns_term}
use Rattle.layout.proofs.Lists.Tests.{and_iff, cond_failed}
use Rattle.layout.proofs.Numbers.Integers.{one_*ℤ, minus_one_*ℤ}
use Rattle.layout.proofs.Numbers.OnRow.{on_row, on_row_is, on_row_here, on_row_other, on_row_zero, on_row_add}
use Rattle.layout.proofs.Rows.Moves.{row_at}
use Rattle.layout.proofs.Equations.Links.{Link, links}
use Rattle.layout.proofs.Equations.Solve.{pull}
use Rattle.layout.proofs.Equations.Elimination.{need}

need_add : (f g : ℕ → ℤ) (x : Row) → need (λ o. f o +ℤ g o) x ≡ need f x +ℤ need g x
need_add f g (kept o) = refl
need_add f g (owned o) = refl
need_add f g (overlap o q) = refl

need_zero : (x : Row) → need (λ o. pos 0) x ≡ pos 0
need_zero (kept o) = refl
need_zero (owned o) = refl
need_zero (overlap o q) = refl

module _ (reading : Float → ℤ) where
  -- the sum at row r of the columns g c, g (suc c), .., each times its unknown
  abbrev pub terms : ℕ → (ℕ → List Entry) → ℕ → List ℤ → ℤ
  terms r g c [] = pos 0
  terms r g c (u ∷ us) = column_term reading r u (g c) +ℤ terms r g (suc c) us

  pub columns_terms : (r : ℕ) (M : Csc) (g : ℕ → List Entry) (c : ℕ) (us : List ℤ)
      → ((i : ℕ) → c ≤ i → i < c + length us → column M i ≡ g i) → columns_term reading r M c us ≡ terms r g c us
  columns_terms r M g c [] h = refl
  columns_terms r M g c (u ∷ us) h =
      ap₂ ◌+ℤ◌ (ap (column_term reading r u) (h c (omega arith) (omega arith)))
      (columns_terms r M g (suc c) us (λ i l k. h i (omega arith) (omega arith)))

  term_append : (r : ℕ) (u : ℤ) (es fs : List Entry)
      → column_term reading r u (es ++ fs) ≡ column_term reading r u es +ℤ column_term reading r u fs
  term_append r u [] fs = sym (+ℤ_idl (column_term reading r u fs))
  term_append r u (e ∷ es) fs =
      let v = cond (eqb e.row r) (reading e.value *ℤ u) (pos 0) in
      ap (λ (z : ℤ). v +ℤ z) (term_append r u es fs) ∙ sym (+ℤ_assoc v (column_term reading r u es) (column_term reading r u fs))

  -- entries moved from row o to row q contribute to row q what they contributed to row o
  moved_term : (o q r : ℕ) (u : ℤ) (es : List Entry)
      → column_term reading r u (moved o q es) ≡ on_row q r (column_term reading o u es)
  moved_term o q r u [] = sym (on_row_zero q r)
  moved_term o q r u (e ∷ es) = go (eqb e.row o) (moved_term o q r u es)
    where
      rest : List Entry
      rest = keep (λ (e : Entry). eqb e.row o) es

      go : (b : Bool) → column_term reading r u (moved o q es) ≡ on_row q r (column_term reading o u es)
          → column_term reading r u (map (λ (e : Entry). record { row = q; value = e.value }) (cond b (e ∷ rest) rest))
          ≡ on_row q r (cond b (reading e.value *ℤ u) (pos 0) +ℤ column_term reading o u es)
      go true h =
          ap₂ ◌+ℤ◌ (sym (on_row_is q r (reading e.value *ℤ u))) h
          ∙ sym (on_row_add q r (reading e.value *ℤ u) (column_term reading o u es))
      go false h = h ∙ ap (on_row q r) (sym (+ℤ_idl (column_term reading o u es)))

  -- the entries on row q contribute to row q what `need` gives for it, and nothing to other rows
  row_term : (q r : ℕ) (u : ℤ) (es : List Entry) (x : Row)
      → column_term reading r u (row_entries es q x) ≡ on_row q r (need (λ o. column_term reading o u es) x)
  row_term q r u es (kept o) = moved_term o q r u es
  row_term q r u es (owned o) = moved_term o q r u es
  row_term q r u es (overlap o s) = sym (on_row_zero q r)

  -- a column over the rows R, the first having number i, contributes nothing to the rows before i
  column_before : (i r : ℕ) (u : ℤ) (es : List Entry) (R : List Row) → r < i
      → column_term reading r u (augmented_column es i R) ≡ pos 0
  column_before i r u es [] l = refl
  column_before i r u es (x ∷ R) l =
      term_append r u (row_entries es i x) (augmented_column es (suc i) R)
      ∙ ap₂ ◌+ℤ◌ (row_term i r u es x ∙ on_row_other i r (need (λ o. column_term reading o u es) x) (omega arith))
      (column_before (suc i) r u es R (omega arith))

  -- a column over the rows R, the first having number i, contributes to row i + k what `need` gives for row k of R
  column-at : (i k : ℕ) (u : ℤ) (es : List Entry) (R : List Row) → k < length R
      → column_term reading (i + k) u (augmented_column es i R) ≡ need (λ o. column_term reading o u es) (row_at R k)
  column-at i k u es [] l = absurd (not-suc-le-zero l)
  column-at i zero u es (x ∷ R) l =
      let here : i + 0 ≡ i = omega arith in
      let v = need (λ o. column_term reading o u es) x in
      ap (λ (r : ℕ). column_term reading r u (augmented_column es i (x ∷ R))) here
      ∙ term_append i u (row_entries es i x) (augmented_column es (suc i) R)
      ∙ ap₂ ◌+ℤ◌ (row_term i i u es x ∙ on_row_here i v) (column_before (suc i) i u es R (omega arith))
      ∙ +ℤ_idr v
  column-at i (suc k) u es (x ∷ R) l =
      let there : i + suc k ≡ suc i + k = omega arith in
      ap (λ (r : ℕ). column_term reading r u (augmented_column es i (x ∷ R))) there
      ∙ term_append (suc i + k) u (row_entries es i x) (augmented_column es (suc i) R)
      ∙ ap₂ ◌+ℤ◌
      (row_term i (suc i + k) u es x ∙ on_row_other i (suc i + k) (need (λ o. column_term reading o u es) x) (omega arith))
      (column-at (suc i) k u es R (le_of_suc-le-suc l))
      ∙ +ℤ_idl (need (λ o. column_term reading o u es) (row_at R k))

  -- all columns together contribute to row r what `need` gives for it
  pub moved_terms : (R : List Row) (g : ℕ → List Entry) (c : ℕ) (us : List ℤ) (r : ℕ) → r < length R
      → terms r (λ i. augmented_column (g i) 0 R) c us ≡ need (λ o. terms o g c us) (row_at R r)
  moved_terms R g c [] r l = sym (need_zero (row_at R r))
  moved_terms R g c (u ∷ us) r l =
      ap₂ ◌+ℤ◌
      (ap (λ (k : ℕ). column_term reading k u (augmented_column (g c) 0 R)) (sym (zero-add r)) ∙ column-at 0 r u (g c) R l)
      (moved_terms R g (suc c) us r l)
      ∙ sym (need_add (λ o. column_term reading o u (g c)) (λ o. terms o g (suc c) us) (row_at R r))

  -- a column whose row indices are all among os contributes nothing to a row o that is not
  term_bare : (os : List ℕ) (o : ℕ) (u : ℤ) (es : List Entry)
      → T (all (λ (e : Entry). has e.row os) es) → (T (has o os) → ⊥) → column_term reading o u es ≡ pos 0
  term_bare os o u [] h n = refl
  term_bare os o u (e ∷ es) h n =
      let k = (and_iff (has e.row os) (all (λ (e : Entry). has e.row os) es)).0 h in
      ap₂ ◌+ℤ◌
      (cond_failed (eqb e.row o) (reading e.value *ℤ u) (pos 0)
      (λ t. n (subst (λ (r : ℕ). T (has r os)) (eqb→eq e.row o t) k.0)))
      (term_bare os o u es k.1 n)

  pub terms_bare : (os : List ℕ) (o : ℕ) (g : ℕ → List Entry) (c : ℕ) (us : List ℤ)
      → ((i : ℕ) → c ≤ i → i < c + length us → T (all (λ (e : Entry). has e.row os) (g i))) → (T (has o os) → ⊥)
      → terms o g c us ≡ pos 0
  terms_bare os o g c [] h n = refl
  terms_bare os o g c (u ∷ us) h n =
      ap₂ ◌+ℤ◌ (term_bare os o u (g c) (h c (omega arith) (omega arith)) n)
      (terms_bare os o g (suc c) us (λ i l k. h i (omega arith) (omega arith)) n)

-- ---- the overlap columns

abbrev pub link_column : Link → List Entry
link_column l = record { row = l.parent; value = minus_one64 } ∷ record { row = l.own; value = one64 } ∷ []

pub overlap_columns_lem : (i : ℕ) (R : List Row) → overlap_columns i R ≡ map link_column (links i R)
overlap_columns_lem i [] = refl
overlap_columns_lem i (kept o ∷ R) = overlap_columns_lem (suc i) R
overlap_columns_lem i (owned o ∷ R) = overlap_columns_lem (suc i) R
overlap_columns_lem i (overlap o q ∷ R) =
    ap {B = List (List Entry)} (λ r. link_column (record { own = i; parent = q }) ∷ r) (overlap_columns_lem (suc i) R)

link_term : (l : Link) (v : ℤ) (r : ℕ)
    → column_term unit r v (link_column l) ≡ on_row l.own r v +ℤ on_row l.parent r (neg_ℤ v)
link_term l v r =
    ap₂ ◌+ℤ◌
    (sym (on_row_is l.parent r (negsuc 0 *ℤ v)) ∙ ap (on_row l.parent r) (minus_one_*ℤ v))
    (+ℤ_idr (cond (eqb l.own r) (pos 1 *ℤ v) (pos 0))
    ∙ sym (on_row_is l.own r (pos 1 *ℤ v)) ∙ ap (on_row l.own r) (one_*ℤ v))
    ∙ +ℤ_comm (on_row l.parent r (neg_ℤ v)) (on_row l.own r v)

pub link_terms : (L : List Link) (g : ℕ → List Entry) (c : ℕ) (y : List ℤ) (r : ℕ) → length y ≡ length L
    → ((k : ℕ) → k < length L → g (c + k) ≡ get_or (map link_column L) k []) → terms unit r g c y ≡ pull L y r
link_terms [] g c [] r e h = refl
link_terms [] g c (v ∷ y) r e h = absurd (omega arith)
link_terms (l ∷ L) g c [] r e h = absurd (omega arith)
link_terms (l ∷ L) g c (v ∷ y) r e h =
    let here : c ≡ c + 0 = omega arith in
    ap₂ ◌+ℤ◌
    (ap (λ (es : List Entry). column_term unit r v es) (ap g here ∙ h 0 (omega arith)) ∙ link_term l v r)
    (link_terms L g (suc c) y r (omega arith) (λ k i. ap g (shift k) ∙ h (suc k) (omega arith)))
  where
    shift : (k : ℕ) → suc c + k ≡ c + suc k
    shift k = omega arith
