-- NaNs: a double differs from itself exactly when it is NaN, and no other double has the bits of a NaN.
use Prim.Native.Nat.{◌*◌}
use mathlib.Core.Path.{◌≡◌, refl, sym, ap, subst, ◌∙◌}
use mathlib.Core.Bool.{Bool, true, false}
use lib.Dec.{T, eqb→eq}
use lib.Ieee.{Float, nan, inf, fin, binary64, up, down, ne, is_nan, fits, to_bits, of_bits}
use lib.Ieee.Bits.{of_bits-to_bits}
use borrow.Author.Tests.{eq-eqb}
use Rattle.layout.specs.General.Floats.{same_bits}
use Rattle.layout.proofs.Lists.Tests.{failed}

pub ne_self : (x : Float) → ne x x ≡ is_nan x
unfolding ne is_nan
ne_self nan = refl
ne_self (inf true) = refl
ne_self (inf false) = refl
ne_self (fin true m e) = rw (eq-eqb (m * up e * down e) (m * up e * down e) refl)
ne_self (fin false m e) = rw (eq-eqb (m * up e * down e) (m * up e * down e) refl)

-- doubles with the same bits are equal
pub bits_equal : (x y : Float) → T (fits binary64 x) → T (fits binary64 y) → T (same_bits x y) → x ≡ y
bits_equal x y f g h =
    sym (of_bits-to_bits binary64 x f) ∙ ap (of_bits binary64) (eqb→eq (to_bits binary64 x) (to_bits binary64 y) h) ∙ of_bits-to_bits binary64 y g

pub nan_is : (x : Float) → T (is_nan x) → x ≡ nan
unfolding is_nan
nan_is nan h = refl
nan_is (inf s) h = absurd h
nan_is (fin s m e) h = absurd h

-- if exactly one of x and y is NaN, their bits differ
bits_differ : (x y : Float) → T (fits binary64 x) → T (fits binary64 y) → (is_nan x ≡ is_nan y → ⊥) → same_bits x y ≡ false
bits_differ x y f g h = failed (same_bits x y) (λ s. h (ap is_nan (bits_equal x y f g s)))

-- two NaNs have the same bits
nans_agree : (x y : Float) → is_nan x ≡ true → is_nan y ≡ true → same_bits x y ≡ true
nans_agree x y e g =
    eq-eqb (to_bits binary64 x) (to_bits binary64 y) (ap (to_bits binary64) (nan_is x (subst T (sym e) tt) ∙ sym (nan_is y (subst T (sym g) tt))))

-- if x is NaN, x and y have the same bits exactly when y is NaN
pub nan-compared : (x y : Float) → T (fits binary64 x) → T (fits binary64 y) → ne x x ≡ true → ne y y ≡ same_bits x y
nan-compared x y f g e = go (is_nan y) refl
  where
    x_is : is_nan x ≡ true
    x_is = sym (ne_self x) ∙ e

    go : (b : Bool) → is_nan y ≡ b → ne y y ≡ same_bits x y
    go true h = ne_self y ∙ h ∙ sym (nans_agree x y x_is h)
    go false h = ne_self y ∙ h ∙ sym (bits_differ x y f g (λ l. absurd (subst T (sym x_is ∙ l ∙ h) tt)))

pub nan-second : (x y : Float) → T (fits binary64 x) → T (fits binary64 y) → ne x x ≡ false → ne y y ≡ true → same_bits x y ≡ false
nan-second x y f g e h = bits_differ x y f g (λ l. absurd (subst T (sym h ∙ ne_self y ∙ sym l ∙ sym (ne_self x) ∙ e) tt))
