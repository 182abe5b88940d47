-- The exact reading of a double: a finite one is a whole count of 2 ^ -1074, one that equals zero counts 0, and 1.0 and -1.0 are the
-- numbers 1 and -1.
use mathlib.Core.Path.{◌≡◌, refl, sym, ap, ◌∙◌}
use mathlib.Core.Bool.{Bool, true, false, ◌||◌, beq, cond}
use Prim.Native.Nat.{ℕ, zero, suc, ◌+◌, ◌-◌, ◌*◌, ◌/◌, ◌^◌, ◌≤◌, ◌<◌}
use native.Mathlib.Nat.{mul_assoc, mul-one, mul-div_cancel, zero-mul, zero-div, div-one, lt_irrefl, lt_of_lt_of_le, sub-add_cancel}
use native.Mathlib.Decide.{dec_le}
use native.Mathlib.Omega.{arith}
use lib.Dec.{T, leb, leb→le, ltb, ltb→lt, eqb, eqb→eq}
use lib.Pow.{pow-add, pow_pos, pow-lt, shl-shr}
use lib.IntN.{ℤ, pos, negsuc}
use lib.Ieee.{Float, nan, inf, fin, binary64, prec, low, up, down, fits, eq}
use lib.Ieee.Fits.{and_l, and_r, up_pos, down_pos}
use lib.Ieee.Exact.{HasValue}
use Rattle.layout.specs.General.Floats.{zero64, one64, minus_one64, signed, count, unit}

pub unit_one : unit one64 ≡ pos 1
unit_one = refl

pub unit_minus_one : unit minus_one64 ≡ negsuc 0
unit_minus_one = refl

-- ---- the count is exact

quotient_exact : (x a k : ℕ) → x ≡ a * 2 ^ k → x ≡ x / 2 ^ k * 2 ^ k
quotient_exact x a k h = rw (h, shl-shr a k)

by_one : (x : ℕ) → x * 1 ≡ x
by_one x = omega arith

split_power : (l m k : ℕ) → k ≤ l → m * 1 * 2 ^ l ≡ m * 2 ^ (l - k) * 2 ^ k
split_power l m k h = rw (mul-one m, mul_assoc m (2 ^ (l - k)) (2 ^ k), ← pow-add 2 (l - k) k, sub-add_cancel h)

low_enough : (k l : ℕ) → 2 ^ k ≤ 2 ^ l → k ≤ l
low_enough k l h = go (dec_le k l)
  where
    go : Dec (k ≤ l) → k ≤ l
    go (yes p) = p
    go (no np) = absurd (lt_irrefl (2 ^ l) (lt_of_lt_of_le (pow-lt (omega arith)) h))

-- m * 2 ^ e as a count of 2 ^ -l, rounded down
abbrev size : ℕ → ℕ → ℤ → ℕ
size l m e = m * up e * 2 ^ l / down e

size_exact : (l m : ℕ) (e : ℤ) → down e ≤ 2 ^ l → m * up e * 2 ^ l ≡ size l m e * down e
size_exact l m (pos k) h = quotient_exact (m * 2 ^ k * 2 ^ l) (m * 2 ^ k * 2 ^ l) 0 (sym (by_one (m * 2 ^ k * 2 ^ l)))
size_exact l m (negsuc k) h =
    quotient_exact (m * 1 * 2 ^ l) (m * 2 ^ (l - suc k)) (suc k) (split_power l m (suc k) (low_enough (suc k) l h))

zero-size : (u p d : ℕ) → 0 * u * p / d ≡ 0
zero-size u p d = rw (zero-mul u, zero-mul p, zero-div d)

-- a finite double is its count over 2 ^ 1074
pub count_exact : (s : Bool) (m : ℕ) (e : ℤ) → T (fits binary64 (fin s m e))
    → HasValue (fin s m e) s (size (low binary64) m e) (2 ^ low binary64)
unfolding fits
count_exact s zero e t =
    (refl, rw (zero-size (up e) (2 ^ low binary64) (down e), zero-mul (up e), zero-mul (2 ^ low binary64)) (sym (zero-mul (down e))))
count_exact s (suc m) e t =
    let h : T (leb (down e) (2 ^ low binary64)) = search (and_l, and_r) in
    (refl, size_exact (low binary64) (suc m) e (leb→le (down e) (2 ^ low binary64) h))

-- a double with the value w over 2 ^ 1074 counts w
pub count-value : (x : Float) (s : Bool) (w : ℕ) → HasValue x s w (2 ^ low binary64) → count x ≡ signed s w
count-value nan s w h = absurd h
count-value (inf t) s w h = absurd h
count-value (fin t m e) s w h =
    ap (λ (b : Bool). signed b (size (low binary64) m e)) h.0
    ∙ ap (signed s) (ap (λ (x : ℕ). x / down e) h.1 ∙ mul-div_cancel w (down_pos e))

size_digits : (l m : ℕ) (e : ℤ) → down e ≤ 2 ^ l → (j : ℕ) × (size l m e ≡ m * 2 ^ j)
size_digits l m (pos k) h =
    (k + l, div-one (m * 2 ^ k * 2 ^ l) ∙ mul_assoc m (2 ^ k) (2 ^ l) ∙ ap (λ (x : ℕ). m * x) (sym (pow-add 2 k l)))
size_digits l m (negsuc k) h = (
  l - suc k,
  ap (λ (x : ℕ). x / 2 ^ suc k) (split_power l m (suc k) (low_enough (suc k) l h)) ∙ shl-shr (m * 2 ^ (l - suc k)) (suc k),
)

-- a count is a significand of at most 53 bits, times a power of two
pub count_digits : (s : Bool) (m : ℕ) (e : ℤ) → T (fits binary64 (fin s m e))
    → (q j : ℕ) × (q < 2 ^ prec binary64) × (size (low binary64) m e ≡ q * 2 ^ j)
unfolding fits
count_digits s zero e t = (0, 0, pow_pos (prec binary64), zero-size (up e) (2 ^ low binary64) (down e))
count_digits s (suc m) e t =
    let h : T (leb (down e) (2 ^ low binary64)) = search (and_l, and_r) in
    let k : T (ltb (suc m) (2 ^ prec binary64)) = search (and_l, and_r) in
    let (j, g) = size_digits (low binary64) (suc m) e (leb→le (down e) (2 ^ low binary64) h) in
    (suc m, j, ltb→lt (suc m) (2 ^ prec binary64) k, g)

pub count_is : (s : Bool) (m : ℕ) (e : ℤ) → count (fin s m e) ≡ signed s (size (low binary64) m e)
count_is s m e = refl

-- ---- zeros

no_size : (m p : ℕ) (e : ℤ) → m * up e * 1 ≡ 0 → m * up e * p / down e ≡ 0
no_size zero p e h = zero-size (up e) p (down e)
no_size (suc m) p e h = let q = up_pos e in absurd (omega arith)

signed-zero : (s : Bool) (k : ℕ) → k ≡ 0 → signed s k ≡ pos 0
signed-zero true k e = rw e
signed-zero false k e = rw e

pub count-zero : (x : Float) → T (eq x zero64) → count x ≡ pos 0
unfolding eq
count-zero nan t = refl
count-zero (inf s) t = refl
count-zero (fin s m e) t =
    let both = and_l (eqb (m * up e * 1) (0 * down e)) (beq s false || eqb (m * up e * 1) 0) t in
    let h : m * up e * 1 ≡ 0 = eqb→eq (m * up e * 1) (0 * down e) both ∙ zero-mul (down e) in
    signed-zero s (m * up e * 2 ^ 1074 / down e) (no_size m (2 ^ 1074) e h)

-- writing a zero of either sign as +0.0 keeps the count
pub count-written : (x : Float) → count (cond (eq x zero64) zero64 x) ≡ count x
count-written x = go (eq x zero64) (count-zero x)
  where
    go : (b : Bool) → (T b → count x ≡ pos 0) → count (cond b zero64 x) ≡ count x
    go true f = sym (f tt)
    go false f = refl
