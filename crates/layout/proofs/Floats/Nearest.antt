-- Rounding a whole number to the nearest number of p binary digits: the relative error is at most 2 ^ -p, and no number of p digits times
-- a power of two is nearer. `round` does this to a value counted in units of its format's smallest value.
use Prim.Native.Nat.{ℕ, zero, suc, ◌+◌, ◌-◌, ◌*◌, ◌/◌, ◌%◌, ◌^◌, ◌≤◌, ◌<◌, compare, Ordering}
use native.Mathlib.Nat.{le_trans, le_of_lt, sub-add_cancel, mul_assoc, mul_comm, mul-le-mul_right, mod-lt, div-add-mod', two-pow-succ}
use native.Mathlib.Omega.{arith}
use mathlib.Core.Path.{◌≡◌, refl, sym, ap, subst, ◌∙◌}
use mathlib.Core.Logic.{◌⊎◌, inl, inr}
use mathlib.Core.Bool.{not}
use lib.Dec.{T, is_le, compare_is_eq, eqb, leb→le, nleb→lt, eqb→eq, eqb_refl}
use lib.Arith.{lt_of_le-ne}
use lib.Pow.{pow-add, pow_pos, pow_mono}
use lib.Ieee.{nearest, size}
use lib.Ieee.Digits.{size_reaches}
use lib.Ieee.Nearest.{closest}
use Rattle.layout.proofs.Lists.Tests.{lt_or_le}
use Rattle.layout.proofs.Floats.Magnitudes.{distance}

-- ---- the whole number nearest to a fraction

abbrev Compared : Ordering → ℕ → ℕ → Type 0
Compared Ordering.lt a b = a < b
Compared Ordering.eq a b = a ≡ b
Compared Ordering.gt a b = b < a

compared : (a b : ℕ) → Compared (compare a b) a b
compared a b = go (compare a b) (leb→le a b) (nleb→lt a b) (eqb→eq a b) (λ (e : a ≡ b). subst (λ (x : ℕ). T (eqb a x)) e (eqb_refl a))
  where
    go : (o : Ordering) → (T (is_le o) → a ≤ b) → (T (not (is_le o)) → b < a) → (T (compare_is_eq o) → a ≡ b) → (a ≡ b → T (compare_is_eq o)) → Compared o a b
    go Ordering.lt h k e n = lt_of_le-ne (h tt) n
    go Ordering.eq h k e n = e tt
    go Ordering.gt h k e n = k tt

-- rounding q * b + r to a multiple of b changes it by at most r and at most b - r; first for the tie r * 2 = b
near_tie : (q x b r : ℕ) → x < 2 → r * 2 ≡ b → (distance ((q + x) * b) (q * b + r) ≤ r) × (distance ((q + x) * b) (q * b + r) ≤ b - r)
near_tie q zero b r l e = omega arith
near_tie q (suc zero) b r l e = omega arith
near_tie q (suc (suc x)) b r l e = absurd (omega arith)

near : (q r b : ℕ) (o : Ordering) → Compared o (r * 2) b → r < b
    → (distance (nearest q o * b) (q * b + r) ≤ r) × (distance (nearest q o * b) (q * b + r) ≤ b - r)
near q r b Ordering.lt c l = omega arith
near q r b Ordering.eq c l = near_tie q (q % 2) b r (mod-lt q (omega arith)) c
near q r b Ordering.gt c l = omega arith

-- no multiple of b is nearer to a
closest-nearest : (a b k : ℕ) → 0 < b → distance (closest a b * b) a ≤ distance (k * b) a
closest-nearest a b k h = subst (λ (x : ℕ). distance (closest a b * b) x ≤ distance (k * b) x) (div-add-mod' a b) (go (lt_or_le (a / b) k))
  where
    bounds : (distance (closest a b * b) (a / b * b + a % b) ≤ a % b) × (distance (closest a b * b) (a / b * b + a % b) ≤ b - a % b)
    bounds = near (a / b) (a % b) b (compare (a % b * 2) b) (compared (a % b * 2) b) (mod-lt a h)

    go : (a / b < k) ⊎ (k ≤ a / b) → distance (closest a b * b) (a / b * b + a % b) ≤ distance (k * b) (a / b * b + a % b)
    go (inl l) = le_trans bounds.1 (above (a / b * b) (k * b) (a % b) (le_trans (omega arith) (mul-le-mul_right b l)) (mod-lt a h))
      where
        above : (x y r : ℕ) → x + b ≤ y → r < b → b - r ≤ distance y (x + r)
        above x y r g m = omega arith
    go (inr l) = le_trans bounds.0 (below (a / b * b) (k * b) (a % b) (mul-le-mul_right b l))
      where
        below : (x y r : ℕ) → y ≤ x → r ≤ distance y (x + r)
        below x y r g = omega arith

-- the rounding to a multiple of b changes a by at most half of b
closest_half : (a b : ℕ) → 0 < b → distance (closest a b * b) a * 2 ≤ b
closest_half a b h =
    subst (λ (x : ℕ). distance (closest a b * b) x * 2 ≤ b) (div-add-mod' a b)
    (half (distance (closest a b * b) (a / b * b + a % b)) (a % b)
    (near (a / b) (a % b) b (compare (a % b * 2) b) (compared (a % b * 2) b) (mod-lt a h)) (mod-lt a h))
  where
    half : (d r : ℕ) → (d ≤ r) × (d ≤ b - r) → r < b → d * 2 ≤ b
    half d r g l = omega (arith, g.0, g.1)

-- ---- a whole number rounded to p binary digits

-- the number of digits dropped
abbrev pub dropped : ℕ → ℕ → ℕ
dropped p w = size w - p

abbrev pub rounded : ℕ → ℕ → ℕ
rounded p w = closest w (2 ^ dropped p w) * 2 ^ dropped p w

-- if k + 1 digits are dropped, w is at least 2 ^ (p + k)
reaches : (p w k : ℕ) → dropped p w ≡ suc k → 2 ^ (p + k) ≤ w
reaches p w k e = size_reaches w (p + k) (omega arith)

-- the relative error is at most 2 ^ -p
pub rounded_relative : (p w : ℕ) → distance (rounded p w) w * 2 ^ p ≤ w
rounded_relative p w = go (dropped p w) refl
  where
    go : (k : ℕ) → dropped p w ≡ k → distance (closest w (2 ^ k) * 2 ^ k) w * 2 ^ p ≤ w
    go zero e = subst (λ (d : ℕ). d * 2 ^ p ≤ w) (sym none) (omega arith)
      where
        none : distance (closest w 1 * 1) w ≡ 0
        none = omega (arith, closest-nearest w 1 w (omega arith))
    go (suc k) e =
        le_trans (mul-le-mul_right (2 ^ p) (few (distance (closest w (2 ^ suc k) * 2 ^ suc k) w) (closest_half w (2 ^ suc k) (pow_pos (suc k)))))
        (subst (λ (x : ℕ). x ≤ w) (pow-add 2 p k ∙ mul_comm (2 ^ p) (2 ^ k)) (reaches p w k e))
      where
        few : (d : ℕ) → d * 2 ≤ 2 ^ suc k → d ≤ 2 ^ k
        few d h = omega (arith, two-pow-succ k)

-- no number of p digits times a power of two is nearer
rounded_nearest : (p w q j : ℕ) → 0 < p → q < 2 ^ p → distance (rounded p w) w ≤ distance (q * 2 ^ j) w
rounded_nearest p w q j h l = go (lt_or_le j (dropped p w))
  where
    go : (j < dropped p w) ⊎ (dropped p w ≤ j) → distance (rounded p w) w ≤ distance (q * 2 ^ j) w
    go (inr le) =
        subst (λ (x : ℕ). distance (rounded p w) w ≤ distance x w) multiple
        (closest-nearest w (2 ^ dropped p w) (q * 2 ^ (j - dropped p w)) (pow_pos (dropped p w)))
      where
        multiple : q * 2 ^ (j - dropped p w) * 2 ^ dropped p w ≡ q * 2 ^ j
        multiple =
            mul_assoc q (2 ^ (j - dropped p w)) (2 ^ dropped p w)
            ∙ ap (λ (x : ℕ). q * x) (sym (pow-add 2 (j - dropped p w) (dropped p w)) ∙ ap (λ (x : ℕ). 2 ^ x) (sub-add_cancel le))
    go (inl lt) =
        le_trans (closest-nearest w (2 ^ dropped p w) (2 ^ (p - 1)) (pow_pos (dropped p w)))
        (nearer (2 ^ (p - 1) * 2 ^ dropped p w) (q * 2 ^ j) below above)
      where
        nearer : (x y : ℕ) → y ≤ x → x ≤ w → distance x w ≤ distance y w
        nearer x y a b = omega arith

        above : 2 ^ (p - 1) * 2 ^ dropped p w ≤ w
        above = subst (λ (x : ℕ). x ≤ w) (pow-add 2 (p - 1) (dropped p w)) (size_reaches w (p - 1 + dropped p w) (omega arith))

        below : q * 2 ^ j ≤ 2 ^ (p - 1) * 2 ^ dropped p w
        below =
            le_trans (mul-le-mul_right (2 ^ j) (le_of_lt l))
            (subst (λ (x : ℕ). x ≤ 2 ^ (p - 1) * 2 ^ dropped p w) (pow-add 2 p j)
            (subst (λ (x : ℕ). 2 ^ (p + j) ≤ x) (pow-add 2 (p - 1) (dropped p w)) (pow_mono (omega arith))))

-- whether a is a number of p digits times a power of two
abbrev Digits : ℕ → ℕ → Type 0
Digits p a = (q j : ℕ) × (q < 2 ^ p) × (a ≡ q * 2 ^ j)

-- whether w differs by at most b from a or from 0
abbrev pub Within : ℕ → ℕ → ℕ → Type 0
Within a b w = (distance a w ≤ b) ⊎ (w ≤ b)

pub within : (p a b w : ℕ) → 0 < p → Digits p a → Within a b w → distance (rounded p w) w ≤ b
within p a b w h (q, j, l, e) (inl g) = le_trans (rounded_nearest p w q j h l) (subst (λ (x : ℕ). distance x w ≤ b) e g)
within p a b w h d (inr g) = le_trans (rounded_nearest p w 0 0 h (pow_pos p)) (omega arith)
