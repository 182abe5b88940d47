-- The terms added at an original row: their number, that they are doubles, and their exact sum, which changes by as much as one of them
-- changes and is the sum of the slacks in the exact reading.
use Prim.Native.Nat.{ℕ, zero, suc, ◌≤◌, ◌<◌, zero-le, suc-le-suc}
use native.Mathlib.Nat.{le_of_suc-le-suc, not-suc-le-zero}
use native.Mathlib.Omega.{arith}
use mathlib.Core.Path.{◌≡◌, refl, sym, ap, ◌∙◌}
use mathlib.Core.Bool.{Bool, true, false, not, cond}
use mathlib.Core.List.{List, [], ◌∷◌, map}
use lib.ListN.{length, get_or, set}
use lib.Dec.{T, T_not, eqb, eqb→eq}
use lib.IntN.{ℤ, pos, ◌+ℤ◌, ◌-ℤ◌, +ℤ_idr, +ℤ_assoc}
use lib.Ieee.{Float, nan, fits, binary64}
use Rattle.layout.specs.General.Lists.{all, keep}
use Rattle.layout.specs.General.Floats.{count, Doubles, exact_sum}
use Rattle.layout.specs.Rows.Blocks.{Row, kept, owned, overlap, original_row}
use Rattle.layout.specs.Equations.Equations.{at, add_exact, add_slacks}
use Rattle.layout.specs.Equations.Rounding.{adds, copies, decomposed, blocks_at, terms_at}
use Rattle.layout.proofs.Lists.Tests.{and_iff, cond_passed, cond_failed}
use Rattle.layout.proofs.Lists.Members.{set-read}
use Rattle.layout.proofs.Numbers.Integers.{linear}
use Rattle.layout.proofs.Rows.Moves.{row_at}
use Rattle.layout.proofs.Equations.Slacks.{exact_length}

-- ---- rows that add to or copy to original row o

pub adds_there : (o : ℕ) (x : Row) → T (adds o x) → original_row x ≡ o
adds_there o (kept q) h = absurd h
adds_there o (owned q) h = eqb→eq q o h
adds_there o (overlap q r) h = eqb→eq q o h

pub copies_there : (o : ℕ) (x : Row) → T (copies o x) → x ≡ kept o
copies_there o (kept q) h = ap kept (eqb→eq q o h)
copies_there o (owned q) h = absurd h
copies_there o (overlap q r) h = absurd h

-- ---- the terms

-- there is at most one term for each block
pub terms_few : (o : ℕ) (R : List Row) (s : List Float) → length (terms_at o R s) ≤ blocks_at o R
terms_few o [] s = zero-le
terms_few o (x ∷ R) [] = zero-le
terms_few o (x ∷ R) (v ∷ s) = pick (adds o x) (terms_few o R s)
  where
    pick : (b : Bool) → length (terms_at o R s) ≤ blocks_at o R
        → length (cond b (v ∷ terms_at o R s) (terms_at o R s)) ≤ length (cond b (x ∷ keep (adds o) R) (keep (adds o) R))
    pick true h = suc-le-suc h
    pick false h = h

pub terms_fit : (o : ℕ) (R : List Row) (s : List Float) → Doubles s → Doubles (terms_at o R s)
terms_fit o [] s h = tt
terms_fit o (x ∷ R) [] h = tt
terms_fit o (x ∷ R) (v ∷ s) h =
    let (first, rest) = (and_iff (fits binary64 v) (all (fits binary64) s)).0 h in
    pick (adds o x) first (terms_fit o R s rest)
  where
    pick : (b : Bool) → T (fits binary64 v) → Doubles (terms_at o R s) → Doubles (cond b (v ∷ terms_at o R s) (terms_at o R s))
    pick true f g = (and_iff (fits binary64 v) (all (fits binary64) (terms_at o R s))).1 (f, g)
    pick false f g = g

-- ---- the exact sum

-- the exact sum changes by as much as the value of a row that adds to o changes
slide : (u e f : ℤ) → (u +ℤ f) -ℤ (u +ℤ e) ≡ f -ℤ e
slide u e f = simp linear

pub sum-moves : (o : ℕ) (R : List Row) (s : List Float) (r : ℕ) (v : Float) → r < length R → r < length s → T (adds o (row_at R r))
    → exact_sum (terms_at o R (set s r v)) -ℤ exact_sum (terms_at o R s) ≡ count v -ℤ count (get_or s r nan)
sum-moves o [] s r v l m h = absurd (not-suc-le-zero l)
sum-moves o (x ∷ R) [] r v l m h = absurd (not-suc-le-zero m)
sum-moves o (x ∷ R) (u ∷ s) zero v l m h =
    let rest = terms_at o R s in
    rw (cond_passed (adds o x) (v ∷ rest) rest h, cond_passed (adds o x) (u ∷ rest) rest h) (replaced (count v) (count u) (exact_sum rest))
  where
    replaced : (a b e : ℤ) → (a +ℤ e) -ℤ (b +ℤ e) ≡ a -ℤ b
    replaced a b e = simp linear
sum-moves o (x ∷ R) (u ∷ s) (suc r) v l m h =
    pick (adds o x) (sum-moves o R s r v (le_of_suc-le-suc l) (le_of_suc-le-suc m) h)
  where
    pick : (b : Bool) → exact_sum (terms_at o R (set s r v)) -ℤ exact_sum (terms_at o R s) ≡ count v -ℤ count (get_or s r nan)
        → exact_sum (cond b (u ∷ terms_at o R (set s r v)) (terms_at o R (set s r v))) -ℤ exact_sum (cond b (u ∷ terms_at o R s) (terms_at o R s))
        ≡ count v -ℤ count (get_or s r nan)
    pick true e = slide (count u) (exact_sum (terms_at o R s)) (exact_sum (terms_at o R (set s r v))) ∙ e
    pick false e = e

-- the exact sum is the sum of the slacks in the exact reading
exact_at : (o : ℕ) (x : Row) (v : ℤ) (ws : List ℤ) → o < length ws → T (not (copies o x))
    → at (add_exact x v ws) o ≡ cond (adds o x) (at ws o +ℤ v) (at ws o)
exact_at o (kept q) v ws l h = set-read ws q o v v (pos 0) l (λ e. refl) ∙ cond_failed (eqb q o) v (at ws o) (T_not (eqb q o) h)
exact_at o (owned q) v ws l h = set-read ws q o (at ws q +ℤ v) (at ws o +ℤ v) (pos 0) l (λ e. ap (λ (k : ℕ). at ws k +ℤ v) e)
exact_at o (overlap q r) v ws l h = set-read ws q o (at ws q +ℤ v) (at ws o +ℤ v) (pos 0) l (λ e. ap (λ (k : ℕ). at ws k +ℤ v) e)

slacks-from : (o : ℕ) (R : List Row) (s : List Float) (ws : List ℤ) → o < length ws → T (decomposed o R)
    → at (add_slacks R (map count s) ws) o ≡ at ws o +ℤ exact_sum (terms_at o R s)
slacks-from o [] s ws l h = sym (+ℤ_idr (at ws o))
slacks-from o (x ∷ R) [] ws l h = sym (+ℤ_idr (at ws o))
slacks-from o (x ∷ R) (v ∷ s) ws l h =
    let (here, later) = (and_iff (not (copies o x)) (decomposed o R)).0 h in
    slacks-from o R s (add_exact x (count v) ws) (omega (arith, exact_length x (count v) ws)) later
    ∙ ap (λ (z : ℤ). z +ℤ exact_sum (terms_at o R s)) (exact_at o x (count v) ws l here)
    ∙ pick (adds o x)
  where
    pick : (b : Bool) → cond b (at ws o +ℤ count v) (at ws o) +ℤ exact_sum (terms_at o R s)
        ≡ at ws o +ℤ exact_sum (cond b (v ∷ terms_at o R s) (terms_at o R s))
    pick true = +ℤ_assoc (at ws o) (count v) (exact_sum (terms_at o R s))
    pick false = refl
