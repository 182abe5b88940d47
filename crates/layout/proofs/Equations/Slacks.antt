-- Slacks added as the compact joining adds them are sums by original row. A kept row is copied instead; it is the only row with its
-- original row so far, so copying and adding agree.
use Prim.Native.Nat.{ℕ, zero, suc, ◌<◌}
use native.Mathlib.Decide.{ℕ_discrete}
use native.Mathlib.Omega.{arith}
use mathlib.Core.Path.{◌≡◌, refl, sym, ap, ap₂, subst, ◌∙◌}
use mathlib.Core.List.{List, [], ◌∷◌}
use lib.ListN.{length, set, replicate, length-set, length-replicate}
use lib.Seq.{get_or-set_same, get_or-set_other}
use lib.Dec.{T}
use lib.IntN.{ℤ, pos, ◌+ℤ◌, +ℤ_idl, +ℤ_idr, +ℤ_assoc}
use Rattle.layout.specs.Problems.Problem.{Problem}
use Rattle.layout.specs.Rows.Blocks.{Row, kept, owned, overlap, original_row, compact_rows}
use Rattle.layout.specs.Checks.{layout}
use Rattle.layout.specs.Equations.Equations.{at, add_exact, add_slacks, slack_sums}
use Rattle.layout.proofs.Numbers.OnRow.{on_row, on_row_same, on_row_other}
use Rattle.layout.proofs.Equations.Added.{added}
use Rattle.layout.proofs.Rows.Moves.{row_at, is_moved, RightRows}

pub exact_length : (x : Row) (v : ℤ) (ws : List ℤ) → length (add_exact x v ws) ≡ length ws
exact_length (kept o) v ws = length-set ws o v
exact_length (owned o) v ws = length-set ws o (at ws o +ℤ v)
exact_length (overlap o q) v ws = length-set ws o (at ws o +ℤ v)

slacks-length : (R : List Row) (vs ws : List ℤ) → length (add_slacks R vs ws) ≡ length ws
slacks-length [] vs ws = refl
slacks-length (x ∷ R) [] ws = refl
slacks-length (x ∷ R) (v ∷ vs) ws = slacks-length R vs (add_exact x v ws) ∙ exact_length x v ws

-- adding v at row q adds v to the value at o if q = o, and nothing otherwise
pub plus-at : (ws : List ℤ) (q o : ℕ) (v : ℤ) → q < length ws → at (set ws q (at ws q +ℤ v)) o ≡ at ws o +ℤ on_row q o v
plus-at ws q o v l = go (ℕ_discrete q o)
  where
    go : Dec (q ≡ o) → at (set ws q (at ws q +ℤ v)) o ≡ at ws o +ℤ on_row q o v
    go (yes e) =
        ap (λ (k : ℕ). at (set ws q (at ws q +ℤ v)) k) (sym e) ∙ get_or-set_same ws q (at ws q +ℤ v) (pos 0) l
        ∙ ap₂ ◌+ℤ◌ (ap (at ws) e) (sym (on_row_same q o v e))
    go (no n) =
        get_or-set_other ws q o (at ws q +ℤ v) (pos 0) (λ e. n (sym e))
        ∙ sym (ap (λ (z : ℤ). at ws o +ℤ z) (on_row_other q o v n) ∙ +ℤ_idr (at ws o))

-- the value that a kept row overwrites is 0
abbrev Clear : List ℤ → Row → Type 0
Clear ws x = (q : ℕ) → x ≡ kept q → at ws q ≡ pos 0

exact_at : (x : Row) (v : ℤ) (ws : List ℤ) (o : ℕ) → original_row x < length ws → Clear ws x
    → at (add_exact x v ws) o ≡ at ws o +ℤ on_row (original_row x) o v
exact_at (kept q) v ws o l clear =
    ap (λ (z : ℤ). at (set ws q z) o) (sym (ap (λ (z : ℤ). z +ℤ v) (clear q refl) ∙ +ℤ_idl v)) ∙ plus-at ws q o v l
exact_at (owned q) v ws o l clear = plus-at ws q o v l
exact_at (overlap q r) v ws o l clear = plus-at ws q o v l

-- ---- all rows

abbrev Inside : List Row → ℕ → Type 0
Inside R m = (r : ℕ) → r < length R → original_row (row_at R r) < m

-- for each kept row, the value at its original row is 0, and no row before it has that original row
abbrev Fresh : List Row → List ℤ → Type 0
Fresh R ws = (r k : ℕ) → r < length R → row_at R r ≡ kept k
    → (at ws k ≡ pos 0) × ((q : ℕ) → q < r → original_row (row_at R q) ≡ k → ⊥)

slacks-at : (R : List Row) (vs ws : List ℤ) (o : ℕ) → length vs ≡ length R → Inside R (length ws) → Fresh R ws
    → at (add_slacks R vs ws) o ≡ at ws o +ℤ added R (at vs) o
slacks-at [] vs ws o e inside fresh = sym (+ℤ_idr (at ws o))
slacks-at (x ∷ R) [] ws o e inside fresh = absurd (omega arith)
slacks-at (x ∷ R) (v ∷ vs) ws o e inside fresh =
    slacks-at R vs (add_exact x v ws) o (omega arith)
    (λ r l. subst (λ (n : ℕ). original_row (row_at R r) < n) (sym (exact_length x v ws)) (inside (suc r) (omega arith)))
    (λ r k l f. (later r k l f, λ q m g. (fresh (suc r) k (omega arith) f).1 (suc q) (omega arith) g))
    ∙ ap (λ (z : ℤ). z +ℤ added R (at vs) o) (one o)
    ∙ +ℤ_assoc (at ws o) (on_row (original_row x) o v) (added R (at vs) o)
  where
    one : (o : ℕ) → at (add_exact x v ws) o ≡ at ws o +ℤ on_row (original_row x) o v
    one o = exact_at x v ws o (inside 0 (omega arith)) (λ q f. (fresh 0 q (omega arith) f).0)

    later : (r k : ℕ) → r < length R → row_at R r ≡ kept k → at (add_exact x v ws) k ≡ pos 0
    later r k l f =
        let (clear, none) = fresh (suc r) k (omega arith) f in
        one k ∙ ap₂ ◌+ℤ◌ clear (on_row_other (original_row x) k v (λ g. none 0 (omega arith) g))

pub at_zeros : (n o : ℕ) → at (replicate n (pos 0)) o ≡ pos 0
at_zeros zero o = refl
at_zeros (suc n) zero = refl
at_zeros (suc n) (suc o) = at_zeros n o

module _ (m : ℕ) (R : List Row) (right : RightRows 0 0 m R) where
  fresh : Fresh R (replicate m (pos 0))
  fresh r k l e = (
    at_zeros m k,
    λ q n f.
        let (s, le, h, g) = right.before q (omega arith) in
        let same : s ≡ r = right.once s r (omega arith) l h (subst (λ (x : Row). T (is_moved x)) (sym e) tt)
        (g ∙ f ∙ sym (ap original_row e)) in
        omega arith,
  )

  pub totals-length : (s : List ℤ) → length (add_slacks R s (replicate m (pos 0))) ≡ m
  totals-length s = slacks-length R s (replicate m (pos 0)) ∙ length-replicate m (pos 0)

  pub totals-at : (s : List ℤ) (o : ℕ) → length s ≡ length R → at (add_slacks R s (replicate m (pos 0))) o ≡ added R (at s) o
  totals-at s o e =
      slacks-at R s (replicate m (pos 0)) o e
      (λ r l. subst (λ (n : ℕ). original_row (row_at R r) < n) (sym (length-replicate m (pos 0))) (right.inside r l).1) fresh
      ∙ ap (λ (z : ℤ). z +ℤ added R (at s) o) (at_zeros m o) ∙ +ℤ_idl (added R (at s) o)

-- the sums that the compact joining forms
module _ (p : Problem) (right : RightRows 0 0 p.m (compact_rows (layout p))) where
  pub sums-length : (s : List ℤ) → length (slack_sums p s) ≡ p.m
  sums-length = totals-length p.m (compact_rows (layout p)) right

  pub sums_at : (s : List ℤ) (o : ℕ) → length s ≡ length (compact_rows (layout p))
      → at (slack_sums p s) o ≡ added (compact_rows (layout p)) (at s) o
  sums_at = totals-at p.m (compact_rows (layout p)) right
