-- Dividing a double by 1 gives that double: the quotient is the double's own value, which rounding keeps, and a double is determined by its
-- sign and its value.
use Prim.Native.Nat.{ℕ, zero, suc, ◌+◌, ◌-◌, ◌*◌, ◌/◌, ◌^◌, ◌<◌}
use native.Mathlib.Nat.{mul_assoc, mul_comm, mul_left_comm, mul-one, one-mul, mul-pos, zero-mul, mul-div_cancel, mul-lt-mul_of_pos_right, lt_of_mul-lt-mul_right}
use mathlib.Core.Path.{◌≡◌, refl, sym, ap, ap₂, subst, ◌∙◌}
use mathlib.Core.Bool.{Bool, true, false, cond}
use lib.Dec.{T, ltb, ltb→lt}
use lib.IntN.{ℤ, pos}
use lib.Pow.{pow-add, pow_pos}
use lib.Ieee.{Float, nan, inf, fin, binary64, prec, emax, low, up, down, size, round, div, of_int, fits, hid, top, to_bits}
use lib.Ieee.Exact.{HasValue, round_exact}
use lib.Ieee.Fits.{and_l, and_r, eq→eqb, down_pos, round-fits}
use lib.Ieee.Scale.{round_same}
use Rattle.layout.specs.General.Floats.{one64}
use Rattle.layout.proofs.Floats.Nans.{bits_equal}
use Rattle.layout.proofs.Floats.Counts.{count_exact, count_digits}

-- whether x is w times 2 ^ -1074, with the sign s
abbrev HasCount : Float → Bool → ℕ → Type 0
HasCount x s w = HasValue x s w (2 ^ low binary64)

-- the bits of such a double
abbrev bits_of : Bool → ℕ → ℕ
bits_of s w = cond s (top binary64) 0 + (size w - prec binary64) * hid binary64 + w / 2 ^ (size w - prec binary64)

value-bits : (x : Float) (s : Bool) (w : ℕ) → HasCount x s w → to_bits binary64 x ≡ bits_of s w
unfolding to_bits
value-bits nan s w h = absurd h
value-bits (inf t) s w h = absurd h
value-bits (fin t m e) s w h = ap₂ bits_of h.0 (ap (λ (n : ℕ). n / down e) h.1 ∙ mul-div_cancel w (down_pos e))

value_unique : (x y : Float) (s : Bool) (w : ℕ) → T (fits binary64 x) → T (fits binary64 y) → HasCount x s w → HasCount y s w → x ≡ y
value_unique x y s w f g h k = bits_equal x y f g (eq→eqb (value-bits x s w h ∙ sym (value-bits y s w k)))

-- ---- rounding keeps a double

-- a finite double is below 2 ^ 1024
in_range : (s : Bool) (m : ℕ) (e : ℤ) → T (fits binary64 (fin s m e)) → m * up e < 2 ^ suc (emax binary64) * down e
unfolding fits
in_range s zero e t = rw (zero-mul (up e)) (mul-pos (pow_pos (suc (emax binary64))) (down_pos e))
in_range s (suc m) e t =
    let h : T (ltb (suc m * up e) (2 ^ suc (emax binary64) * down e)) = search (and_l, and_r) in
    ltb→lt (suc m * up e) (2 ^ suc (emax binary64) * down e) h

-- if n / d is w units of 2 ^ -l and below 2 ^ k, then w is below 2 ^ (l + k)
count-below : (n d l k w : ℕ) → n * 2 ^ l ≡ w * d → n < 2 ^ k * d → w < 2 ^ (l + k)
count-below n d l k w e h =
    lt_of_mul-lt-mul_right d
    (subst (λ (x : ℕ). x < 2 ^ (l + k) * d) e
    (subst (λ (x : ℕ). n * 2 ^ l < x) scaled (mul-lt-mul_of_pos_right h (pow_pos l))))
  where
    scaled : 2 ^ k * d * 2 ^ l ≡ 2 ^ (l + k) * d
    scaled = rw (pow-add 2 l k) (simp (mul_assoc, mul_comm, mul_left_comm))

round-kept : (s : Bool) (m : ℕ) (e : ℤ) → T (fits binary64 (fin s m e)) → round binary64 s (m * up e) (down e) ≡ fin s m e
round-kept s m e t =
    let u = 2 ^ low binary64 in
    let w = m * up e * u / down e in
    let own = count_exact s m e t in
    let (q, j, few, same) = count_digits s m e t in
    let small = count-below (m * up e) (down e) (low binary64) (suc (emax binary64)) w own.1 (in_range s m e t) in
    let unit : 0 < u = pow_pos (low binary64) in
    round_same binary64 s (m * up e) (down e) w u (down_pos e) unit own.1
    ∙ value_unique (round binary64 s w u) (fin s m e) s w (round-fits binary64 s w u) t
    (round_exact binary64 s w u q j unit few (subst (λ (x : ℕ). x < 2 ^ (low binary64 + suc (emax binary64))) same small) (ap (λ (x : ℕ). x * u) same))
    own

-- ---- division by 1

one_is : of_int binary64 (pos 1) ≡ one64
unfolding of_int
one_is = refl

plain : (s : Bool) (n d : ℕ) → round binary64 s (n * 1) (1 * d) ≡ round binary64 s n d
plain s n d = ap₂ (round binary64 s) (mul-one n) (one-mul d)

over_one : (v : Float) → T (fits binary64 v) → div binary64 v one64 ≡ v
unfolding div
over_one nan t = refl
over_one (inf true) t = refl
over_one (inf false) t = refl
over_one (fin true m e) t = plain true (m * up e) (down e) ∙ round-kept true m e t
over_one (fin false m e) t = plain false (m * up e) (down e) ∙ round-kept false m e t

pub divided_by_one : (v : Float) → T (fits binary64 v) → div binary64 v (of_int binary64 (pos 1)) ≡ v
divided_by_one v t = ap (div binary64 v) one_is ∙ over_one v t
