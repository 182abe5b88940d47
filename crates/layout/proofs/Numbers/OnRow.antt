-- The integer v placed on row q and read at row r: v if q = r, otherwise 0.
use mathlib.Core.Path.{◌≡◌, refl, sym, ◌∙◌, ap}
use mathlib.Core.Logic.{◌≢◌}
use mathlib.Core.Bool.{Bool, true, false, cond}
use Prim.Native.Nat.{ℕ}
use lib.Dec.{T, eqb, eqb_refl, eqb→eq}
use lib.IntN.{ℤ, pos, neg_ℤ, ◌+ℤ◌, +ℤ_invr}
use Rattle.layout.proofs.Lists.Tests.{cond_passed}

unfoldable pub on_row : ℕ → ℕ → ℤ → ℤ
on_row q r v = cond (eqb q r) v (pos 0)

pub on_row_is : (q r : ℕ) (v : ℤ) → on_row q r v ≡ cond (eqb q r) v (pos 0)
unfolding on_row
on_row_is q r v = refl

by-false : (b : Bool) (v : ℤ) → (T b → v ≡ pos 0) → cond b v (pos 0) ≡ pos 0
by-false true v h = h tt
by-false false v h = refl

pub on_row_here : (q : ℕ) (v : ℤ) → on_row q q v ≡ v
unfolding on_row
on_row_here q v = cond_passed (eqb q q) v (pos 0) (eqb_refl q)

pub on_row_same : (q r : ℕ) (v : ℤ) → q ≡ r → on_row q r v ≡ v
on_row_same q r v e = rw (← e) (on_row_here q v)

-- the result is 0 if v is 0 whenever q = r
pub on_row_vanish : (q r : ℕ) (v : ℤ) → (q ≡ r → v ≡ pos 0) → on_row q r v ≡ pos 0
unfolding on_row
on_row_vanish q r v h = by-false (eqb q r) v (λ t. h (eqb→eq q r t))

pub on_row_other : (q r : ℕ) (v : ℤ) → q ≢ r → on_row q r v ≡ pos 0
on_row_other q r v ne = on_row_vanish q r v (λ e. absurd (ne e))

pub on_row_zero : (q r : ℕ) → on_row q r (pos 0) ≡ pos 0
on_row_zero q r = on_row_vanish q r (pos 0) (λ e. refl)

-- a sum placed on a row is the sum of its terms placed there
pub on_row_add : (q r : ℕ) (v w : ℤ) → on_row q r (v +ℤ w) ≡ on_row q r v +ℤ on_row q r w
unfolding on_row
on_row_add q r v w = go (eqb q r)
  where
    go : (b : Bool) → cond b (v +ℤ w) (pos 0) ≡ cond b v (pos 0) +ℤ cond b w (pos 0)
    go true = refl
    go false = refl

pub on_row_cancel : (q r : ℕ) (v : ℤ) → on_row q r v +ℤ on_row q r (neg_ℤ v) ≡ pos 0
on_row_cancel q r v = sym (on_row_add q r v (neg_ℤ v)) ∙ ap (on_row q r) (+ℤ_invr v) ∙ on_row_zero q r
