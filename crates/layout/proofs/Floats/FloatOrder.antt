-- Floats compared with zeros in IEEE's order: both zeros are the same number, and replacing a zero by +0.0 changes no comparison.
use Prim.Native.Nat.{ℕ, zero, suc, ◌+◌, ◌*◌, ◌<◌, zero-le, suc-le-suc}
use native.Mathlib.Nat.{zero-mul, mul-pos, eq-or-lt_of_le, eq-zero-or-pos}
use native.Mathlib.Omega.{arith}
use mathlib.Core.Path.{◌≡◌, refl, sym, ap, subst, ◌∙◌}
use mathlib.Core.Logic.{◌⊎◌, inl, inr}
use mathlib.Core.Bool.{Bool, true, false, not, cond, ◌&&◌, ◌||◌}
use lib.IntN.{ℤ}
use lib.Dec.{T, eqb, eqb→eq, eqb_refl}
use borrow.Author.Tests.{lt-ltb, le-ltb, eq-eqb, ne_eqb}
use lib.Ieee.{Float, nan, inf, fin, up, down, below, level, lt, eq, le, is_nan}
use lib.Ieee.Fits.{up_pos, down_pos}
use Rattle.layout.specs.General.Floats.{zero64}
use Rattle.layout.proofs.Lists.Tests.{tested, lt_or_le, cond_passed, cond_failed, and_iff, or_iff}

-- ---- a zero of either sign, and the values that are at least, and at most, zero

abbrev pub is_zero : Float → Bool
is_zero nan = false
is_zero (inf s) = false
is_zero (fin s m e) = eqb m 0

abbrev non_negative : Float → Bool
non_negative nan = false
non_negative (inf s) = not s
non_negative (fin s m e) = not s || eqb m 0

abbrev non_positive : Float → Bool
non_positive nan = false
non_positive (inf s) = s
non_positive (fin s m e) = s || eqb m 0

-- ---- two finite values, the first of them zero

nothing : (a b : ℕ) → 0 * a * b ≡ 0
nothing a b = ap (λ (k : ℕ). k * b) (zero-mul a) ∙ zero-mul b

-- a scaled significand is zero exactly where the significand is
scaled : (n a b : ℕ) → 0 < a → 0 < b → ((n ≡ 0) × (n * a * b ≡ 0)) ⊎ ((0 < n) × (0 < n * a * b))
scaled zero a b A B = inl (refl, nothing a b)
scaled (suc n) a b A B = inr (suc-le-suc zero-le, mul-pos (mul-pos (suc-le-suc zero-le) A) B)

-- both are zero, or both are positive
abbrev Alike : ℕ → ℕ → Type 0
Alike n N = ((n ≡ 0) × (N ≡ 0)) ⊎ ((0 < n) × (0 < N))

-- a zero with the sign s is at most N with the sign t exactly where t is the positive sign or N is zero
zero-first : (s t : Bool) (n N : ℕ) → Alike n N → (below s 0 t N || level s 0 t N) ≡ (not t || eqb n 0)
zero-first s t n N (inl h) = rw (h.0, h.1) (closed s t)
  where
    closed : (s t : Bool) → (below s 0 t 0 || level s 0 t 0) ≡ (not t || eqb 0 0)
    closed true true = refl
    closed true false = refl
    closed false true = refl
    closed false false = refl
zero-first true true n N (inr h) = rw (le-ltb N 0 zero-le, ne_eqb 0 N (omega arith), ne_eqb n 0 (omega arith))
zero-first true false n N (inr h) = rw (lt-ltb 0 (0 + N) (omega arith))
zero-first false true n N (inr h) = rw (ne_eqb 0 N (omega arith), ne_eqb n 0 (omega arith))
zero-first false false n N (inr h) = rw (lt-ltb 0 N h.1)

zero-second : (s t : Bool) (n N : ℕ) → Alike n N → (below t N s 0 || level t N s 0) ≡ (t || eqb n 0)
zero-second s t n N (inl h) = rw (h.0, h.1) (closed s t)
  where
    closed : (s t : Bool) → (below t 0 s 0 || level t 0 s 0) ≡ (t || eqb 0 0)
    closed true true = refl
    closed true false = refl
    closed false true = refl
    closed false false = refl
zero-second true true n N (inr h) = rw (lt-ltb 0 N h.1)
zero-second true false n N (inr h) = rw (ne_eqb N 0 (omega arith), ne_eqb n 0 (omega arith))
zero-second false true n N (inr h) = rw (lt-ltb 0 (N + 0) (omega arith))
zero-second false false n N (inr h) = rw (le-ltb N 0 zero-le, ne_eqb N 0 (omega arith), ne_eqb n 0 (omega arith))

zero-level : (s t : Bool) (n N : ℕ) → Alike n N → (level s 0 t N ≡ eqb n 0) × (level t N s 0 ≡ eqb n 0)
zero-level s t n N (inl h) = rw (h.0, h.1) (closed s t)
  where
    closed : (s t : Bool) → (level s 0 t 0 ≡ eqb 0 0) × (level t 0 s 0 ≡ eqb 0 0)
    closed true true = (refl, refl)
    closed true false = (refl, refl)
    closed false true = (refl, refl)
    closed false false = (refl, refl)
zero-level s t n N (inr h) = rw (ne_eqb N 0 (omega arith), ne_eqb 0 N (omega arith), ne_eqb n 0 (omega arith)) (refl, refl)

-- ---- any value compared with a zero

alike : (n : ℕ) (d e : ℤ) → Alike n (n * up d * down e)
alike n d e = scaled n (up d) (down e) (up_pos d) (down_pos e)

finite-zero : (s : Bool) (m : ℕ) (e : ℤ) → T (eqb m 0) → fin s m e ≡ fin s 0 e
finite-zero s m e h = ap (λ (k : ℕ). fin s k e) (eqb→eq m 0 h)

zero-le-finite : (s t : Bool) (n : ℕ) (e d : ℤ) → le (fin s 0 e) (fin t n d) ≡ (not t || eqb n 0)
unfolding le
zero-le-finite s t n e d = rw (nothing (up e) (down d)) (zero-first s t n (n * up d * down e) (alike n d e))

finite-le-zero : (s t : Bool) (n : ℕ) (e d : ℤ) → le (fin t n d) (fin s 0 e) ≡ (t || eqb n 0)
unfolding le
finite-le-zero s t n e d = rw (nothing (up e) (down d)) (zero-second s t n (n * up d * down e) (alike n d e))

zero-eq-finite : (s t : Bool) (n : ℕ) (e d : ℤ) → (eq (fin s 0 e) (fin t n d) ≡ eqb n 0) × (eq (fin t n d) (fin s 0 e) ≡ eqb n 0)
unfolding eq
zero-eq-finite s t n e d = rw (nothing (up e) (down d)) (zero-level s t n (n * up d * down e) (alike n d e))

-- a zero is at most y exactly where y is at least zero
zero-le_is : (z y : Float) → T (is_zero z) → le z y ≡ non_negative y
unfolding le
zero-le_is nan y h = absurd h
zero-le_is (inf s) y h = absurd h
zero-le_is (fin s m e) nan h = refl
zero-le_is (fin s m e) (inf true) h = refl
zero-le_is (fin s m e) (inf false) h = refl
zero-le_is (fin s m e) (fin t n d) h = ap (λ (z : Float). le z (fin t n d)) (finite-zero s m e h) ∙ zero-le-finite s t n e d

le-zero_is : (y z : Float) → T (is_zero z) → le y z ≡ non_positive y
unfolding le
le-zero_is y nan h = absurd h
le-zero_is y (inf s) h = absurd h
le-zero_is nan (fin s m e) h = refl
le-zero_is (inf true) (fin s m e) h = refl
le-zero_is (inf false) (fin s m e) h = refl
le-zero_is (fin t n d) (fin s m e) h = ap (λ (z : Float). le (fin t n d) z) (finite-zero s m e h) ∙ finite-le-zero s t n e d

-- and equals exactly the zeros
zero-eq_is : (z y : Float) → T (is_zero z) → (eq z y ≡ is_zero y) × (eq y z ≡ is_zero y)
unfolding eq
zero-eq_is nan y h = absurd h
zero-eq_is (inf s) y h = absurd h
zero-eq_is (fin s m e) nan h = (refl, refl)
zero-eq_is (fin s m e) (inf t) h = (refl, refl)
zero-eq_is (fin s m e) (fin t n d) h =
    rw (eqb→eq m 0 h) (zero-eq-finite s t n e d)

pub eq-zero : (x : Float) → eq x zero64 ≡ is_zero x
eq-zero x = (zero-eq_is zero64 x tt).1

-- ---- a zero replaced by +0.0

abbrev pub plus_zero : Float → Float
plus_zero x = cond (eq x zero64) zero64 x

-- x is a zero and becomes +0.0, or x stays as it is
plus_zero_cases : (x : Float) → (T (is_zero x) × (plus_zero x ≡ zero64)) ⊎ (plus_zero x ≡ x)
plus_zero_cases x = elim (tested (is_zero x)) [
  | inl h ↦ inl (h, cond_passed (eq x zero64) zero64 x (subst T (sym (eq-zero x)) h))
  | inr h ↦ inr (cond_failed (eq x zero64) zero64 x (λ t. h (subst T (eq-zero x) t)))
]

module _ (x y : Float) where
  -- a test that does not distinguish zeros has the same result after the replacement
  keeps : (test : Float → Bool) → ((z : Float) → T (is_zero z) → test z ≡ test zero64) → test (plus_zero x) ≡ test x
  keeps test same = elim (plus_zero_cases x) [ inl h ↦ ap test h.1 ∙ sym (same x h.0) | inr e ↦ ap test e ]

  pub le_plus_zero_left : le (plus_zero x) y ≡ le x y
  le_plus_zero_left = keeps (λ z. le z y) (λ z h. zero-le_is z y h ∙ sym (zero-le_is zero64 y tt))

  pub le_plus_zero_right : le y (plus_zero x) ≡ le y x
  le_plus_zero_right = keeps (λ z. le y z) (λ z h. le-zero_is y z h ∙ sym (le-zero_is y zero64 tt))

  pub eq_plus_zero : eq (plus_zero x) y ≡ eq x y
  eq_plus_zero = keeps (λ z. eq z y) (λ z h. (zero-eq_is z y h).0 ∙ sym (zero-eq_is zero64 y tt).0)

-- ---- NaN, equality and order

-- a signed magnitude equals itself
level_self : (s : Bool) (a : ℕ) → T (level s a s a)
level_self true a = (and_iff (eqb a a) true).1 (eqb_refl a, tt)
level_self false a = (and_iff (eqb a a) true).1 (eqb_refl a, tt)

pub eq_self : (x : Float) → T (not (is_nan x)) → T (eq x x)
unfolding eq is_nan
eq_self nan h = absurd h
eq_self (inf true) h = tt
eq_self (inf false) h = tt
eq_self (fin s m e) h = level_self s (m * up e * down e)

pub le_self : (x : Float) → T (not (is_nan x)) → T (le x x)
unfolding le
le_self x h = (or_iff (lt x x) (eq x x)).1 (inr (eq_self x h))

-- a signed magnitude is below or equal to another exactly where the other is not below it
below_or_level : (s t : Bool) (a b : ℕ) → (below s a t b || level s a t b) ≡ not (below t b s a)
below_or_level s t a b = elim (lt_or_le a b) [
  | inl l ↦ smaller s t a b l
  | inr l ↦ elim (eq-or-lt_of_le l) [ inl e ↦ rw e (same s t a) | inr g ↦ larger s t a b g ]
]
  where
    smaller : (s t : Bool) (a b : ℕ) → a < b → (below s a t b || level s a t b) ≡ not (below t b s a)
    smaller false false a b l = rw (lt-ltb a b l, le-ltb b a (omega arith))
    smaller false true a b l = rw (ne_eqb a b (omega arith), lt-ltb 0 (b + a) (omega arith))
    smaller true false a b l = rw (lt-ltb 0 (a + b) (omega arith))
    smaller true true a b l = rw (le-ltb b a (omega arith), ne_eqb a b (omega arith), lt-ltb a b l)

    larger : (s t : Bool) (a b : ℕ) → b < a → (below s a t b || level s a t b) ≡ not (below t b s a)
    larger false false a b l = rw (le-ltb a b (omega arith), ne_eqb a b (omega arith), lt-ltb b a l)
    larger false true a b l = rw (ne_eqb a b (omega arith), lt-ltb 0 (b + a) (omega arith))
    larger true false a b l = rw (lt-ltb 0 (a + b) (omega arith))
    larger true true a b l = rw (lt-ltb b a l, le-ltb a b (omega arith))

    same : (s t : Bool) (a : ℕ) → (below s a t a || level s a t a) ≡ not (below t a s a)
    same false false a = rw (le-ltb a a (omega arith), eq-eqb a a refl)
    same false true a = elim (eq-zero-or-pos a) [ inl e ↦ rw e | inr h ↦ rw (ne_eqb a 0 (omega arith), lt-ltb 0 (a + a) (omega arith), eq-eqb a a refl) ]
    same true false a = elim (eq-zero-or-pos a) [ inl e ↦ rw e | inr h ↦ rw (lt-ltb 0 (a + a) (omega arith)) ]
    same true true a = rw (le-ltb a a (omega arith), eq-eqb a a refl)

-- `le` holds exactly where neither is NaN and the first is not above the second
pub le_is : (x y : Float) → le x y ≡ (not (is_nan x) && not (is_nan y) && not (lt y x))
unfolding le is_nan
le_is nan y = refl
le_is (inf true) nan = refl
le_is (inf false) nan = refl
le_is (inf true) (inf true) = refl
le_is (inf true) (inf false) = refl
le_is (inf false) (inf true) = refl
le_is (inf false) (inf false) = refl
le_is (inf true) (fin t n d) = refl
le_is (inf false) (fin t n d) = refl
le_is (fin s m e) nan = refl
le_is (fin s m e) (inf true) = refl
le_is (fin s m e) (inf false) = refl
le_is (fin s m e) (fin t n d) = below_or_level s t (m * up e * down d) (n * up d * down e)

-- two values in order are not NaN
pub le_numbers : (x y : Float) → T (le x y) → T (not (is_nan x)) × T (not (is_nan y))
le_numbers x y h = (and_iff (not (is_nan x)) (not (is_nan y))).0 ((and_iff (not (is_nan x) && not (is_nan y)) (not (lt y x))).0 (subst T (le_is x y) h)).0

-- a value that is at least and at most zero is zero
between-zero : (v : Float) → T (non_negative v) → T (non_positive v) → T (is_zero v)
between-zero nan h k = h
between-zero (inf true) h k = h
between-zero (inf false) h k = k
between-zero (fin true m e) h k = h
between-zero (fin false m e) h k = k

pub between_zeros : (x v y : Float) → T (is_zero x) → T (is_zero y) → T (le x v) → T (le v y) → T (is_zero v)
between_zeros x v y zx zy h k = between-zero v (subst T (zero-le_is x v zx) h) (subst T (le-zero_is v y zy) k)

-- zeros are at most each other, and equal
pub zeros_le : (x y : Float) → T (is_zero x) → T (is_zero y) → T (le x y)
zeros_le x y zx zy = subst T (sym (zero-le_is x y zx)) (zero-up y zy)
  where
    zero-up : (y : Float) → T (is_zero y) → T (non_negative y)
    zero-up nan h = h
    zero-up (inf s) h = absurd h
    zero-up (fin s m e) h = (or_iff (not s) (eqb m 0)).1 (inr h)

pub zeros_eq : (x y : Float) → T (is_zero x) → T (is_zero y) → T (eq x y)
zeros_eq x y zx zy = subst T (sym (zero-eq_is x y zx).0) zy
