-- One rounded addition of doubles, in counts of 2 ^ -1074: its error is at most 2 ^ -53 times the exact sum, and at most the magnitude of
-- either term, since the other term is itself a double. Subnormal sums are exact, so neither bound has an extra term for them.
use Prim.Native.Nat.{ℕ, suc, ◌+◌, ◌-◌, ◌*◌, ◌/◌, ◌^◌, ◌≤◌, ◌<◌}
use native.Mathlib.Nat.{le_of_lt, add-mul, mul_assoc, mul_comm, mul_right_comm, mul-pos, mul-le-mul_right, le_of_mul-le-mul_right, mul-div_cancel}
use native.Mathlib.Omega.{arith}
use mathlib.Core.Path.{◌≡◌, sym, ap, ap₂, subst, ◌∙◌}
use mathlib.Core.Logic.{inl, inr}
use mathlib.Core.Bool.{Bool, true, false, not, cond, beq}
use lib.Dec.{T, ltb, ltb→lt, nltb→le, lit<}
use lib.IntN.{ℤ, ◌+ℤ◌, ◌-ℤ◌, +ℤ_comm}
use lib.Pow.{pow_pos}
use lib.Ieee.{Float, nan, inf, fin, Format, binary64, prec, emax, low, up, down, size, odd, units, round, sum, add, fits}
use lib.Ieee.Nearest.{closest, closest_same}
use lib.Ieee.Exact.{HasValue, odd_sign}
use lib.Ieee.Fits.{core, round_is, down_pos}
use Rattle.layout.specs.General.Floats.{finite, signed, count, magnitude}
use Rattle.layout.proofs.Floats.Counts.{count_exact, count-value, count_digits}
use Rattle.layout.proofs.Floats.Magnitudes.{distance, magnitude-signed, signed_distance, signed-sum, signed_difference}
use Rattle.layout.proofs.Floats.Nearest.{dropped, rounded, rounded_relative, Within, within}

-- ---- w units of a format's smallest value, rounded

module _ (f : Format) where
  -- whether x is w units of the smallest value, rounded, with the sign s
  abbrev Rounds : Float → Bool → ℕ → Type 0
  Rounds x s w = HasValue x s (rounded (prec f) w) (2 ^ low f)

  units-value : (s : Bool) (q k : ℕ) → T (finite (units f s q k)) → HasValue (units f s q k) s (q * 2 ^ k) (2 ^ low f)
  unfolding units
  units-value s q k = go (ltb (q * 2 ^ k) (2 ^ (low f + suc (emax f))))
    where
      go : (b : Bool) → T (finite (cond b (odd (suc (prec f)) s q k (low f)) (inf s)))
          → HasValue (cond b (odd (suc (prec f)) s q k (low f)) (inf s)) s (q * 2 ^ k) (2 ^ low f)
      go true h = odd_sign (suc (prec f)) s q k (low f)
      go false h = h

  round-units : (s : Bool) (num den w : ℕ) → 0 < den → num * 2 ^ low f ≡ w * den
      → round f s num den ≡ units f s (closest w (2 ^ dropped (prec f) w)) (dropped (prec f) w)
  round-units s num den w d e =
      let n = num * 2 ^ low f in
      let k = dropped (prec f) w in
      let whole : n / den ≡ w = ap (λ (x : ℕ). x / den) e ∙ mul-div_cancel w d in
      round_is f s num den
      ∙ ap (λ (x : ℕ). core f s n den (size x - prec f)) whole
      ∙ ap (λ (x : ℕ). units f s x k)
      (closest_same n (den * 2 ^ k) w (2 ^ k) (mul-pos d (pow_pos k)) (pow_pos k) (ap (λ (x : ℕ). x * 2 ^ k) e ∙ mul_assoc w den (2 ^ k)))

  round-value : (s : Bool) (num den w : ℕ) → 0 < den → num * 2 ^ low f ≡ w * den → T (finite (round f s num den))
      → HasValue (round f s num den) s (rounded (prec f) w) (2 ^ low f)
  round-value s num den w d e h =
      let same = round-units s num den w d e in
      let k = dropped (prec f) w in
      subst (λ (x : Float). Rounds x s w) (sym same) (units-value s (closest w (2 ^ k)) k (subst (λ (x : Float). T (finite x)) same h))

-- let a / c be A units of the smallest value and b / c be B units: if a ≤ b then A ≤ B, and (b - a) / c is B - A units
in_order : (a b l c A B : ℕ) → 0 < c → a * l ≡ A * c → b * l ≡ B * c → a ≤ b → A ≤ B
in_order a b l c A B h e g i = le_of_mul-le-mul_right (omega (arith, mul-le-mul_right l i)) h

difference : (a b l c A B : ℕ) → 0 < c → a * l ≡ A * c → b * l ≡ B * c → a ≤ b → (b - a) * l ≡ (B - A) * c
difference a b l c A B h e g i =
    let j = in_order a b l c A B h e g i in
    let x : a + (b - a) ≡ b = omega arith in
    let y : A + (B - A) ≡ B = omega arith in
    cancel (a * l) ((b - a) * l) (A * c) ((B - A) * c) e
    (sym (add-mul a (b - a) l) ∙ ap (λ (z : ℕ). z * l) x ∙ g ∙ sym (sym (add-mul A (B - A) c) ∙ ap (λ (z : ℕ). z * c) y))
  where
    cancel : (u v p q : ℕ) → u ≡ p → u + v ≡ p + q → v ≡ q
    cancel u v p q r s = omega arith

-- ---- the sum of ±a / c and ±b / c

-- x is the rounded sum of ±a and ±b units of the smallest value: `sign` and `size` are those of the exact sum, which x rounds
record RoundedSum (f : Format) (x : Float) (s : Bool) (a : ℕ) (t : Bool) (b : ℕ) : Type 0 where
  sign : Bool
  size : ℕ
  exact : signed s a +ℤ signed t b ≡ signed sign size
  value : HasValue x sign (rounded (prec f) size) (2 ^ low f)
  first : Within a b size
  second : Within b a size

module _ (f : Format) (a b c A B : ℕ) (h : 0 < c) (e : a * 2 ^ low f ≡ A * c) (g : b * 2 ^ low f ≡ B * c) where
  like_signs : (s : Bool) → T (finite (round f s (a + b) c)) → RoundedSum f (round f s (a + b) c) s A s B
  like_signs s r = record {
    sign = s;
    size = A + B;
    exact = signed-sum s A B;
    value = round-value f s (a + b) c (A + B) h (add-mul a b (2 ^ low f) ∙ ap₂ ◌+◌ e g ∙ sym (add-mul A B c)) r;
    first = inl (omega arith);
    second = inl (omega arith);
  }

  first_larger : (s : Bool) → b ≤ a → T (finite (round f s (a - b) c)) → RoundedSum f (round f s (a - b) c) s A (not s) B
  first_larger s i r =
      let j = in_order b a (2 ^ low f) c B A h g e i in
      record {
        sign = s;
        size = A - B;
        exact = signed_difference s A B j;
        value = round-value f s (a - b) c (A - B) h (difference b a (2 ^ low f) c B A h g e i) r;
        first = inl (omega arith);
        second = inr (omega arith);
      }

  second_larger : (t : Bool) → a ≤ b → T (finite (round f t (b - a) c)) → RoundedSum f (round f t (b - a) c) (not t) A t B
  second_larger t i r =
      let j = in_order a b (2 ^ low f) c A B h e g i in
      record {
        sign = t;
        size = B - A;
        exact = +ℤ_comm (signed (not t) A) (signed t B) ∙ signed_difference t B A j;
        value = round-value f t (b - a) c (B - A) h (difference a b (2 ^ low f) c A B h e g i) r;
        first = inr (omega arith);
        second = inl (omega arith);
      }

  rounded_sum : (s t : Bool) → T (finite (sum f s a t b c)) → RoundedSum f (sum f s a t b c) s A t B
  unfolding sum
  rounded_sum false false r = like_signs false r
  rounded_sum true true r = like_signs true r
  rounded_sum false true r = go (ltb a b) (ltb→lt a b) (nltb→le a b) r
    where
      go : (x : Bool) → (T x → a < b) → (T (not x) → b ≤ a) → T (finite (cond x (round f true (b - a) c) (round f false (a - b) c)))
          → RoundedSum f (cond x (round f true (b - a) c) (round f false (a - b) c)) false A true B
      go true l m = second_larger true (le_of_lt (l tt))
      go false l m = first_larger false (m tt)
  rounded_sum true false r = go (ltb a b) (ltb b a) (ltb→lt a b) (nltb→le a b) (nltb→le b a) r
    where
      go : (x y : Bool) → (T x → a < b) → (T (not x) → b ≤ a) → (T (not y) → a ≤ b)
          → T (finite (cond x (round f false (b - a) c) (round f y (a - b) c)))
          → RoundedSum f (cond x (round f false (b - a) c) (round f y (a - b) c)) true A false B
      go true y l m n = second_larger false (le_of_lt (l tt))
      go false true l m n = first_larger true (m tt)
      go false false l m n =
          let equal : b - a ≡ a - b = omega (arith, m tt, n tt) in
          subst (λ (d : ℕ). T (finite (round f false d c)) → RoundedSum f (round f false d c) true A false B) equal (second_larger false (n tt))

-- ---- an addition of doubles

-- a finite sum has finite terms
pub finite-first : (x y : Float) → T (finite (add binary64 x y)) → T (finite x)
unfolding add
finite-first nan y r = r
finite-first (inf s) nan r = r
finite-first (inf s) (inf t) r = neither (beq s t) r
  where
    neither : (b : Bool) → T (finite (cond b (inf s) nan)) → ⊥
    neither true r = r
    neither false r = r
finite-first (inf s) (fin t n d) r = r
finite-first (fin s m e) y r = tt

pub finite-second : (x y : Float) → T (finite (add binary64 x y)) → T (finite y)
unfolding add
finite-second nan y r = absurd r
finite-second (inf s) y r = absurd (finite-first (inf s) y r)
finite-second (fin s m e) nan r = r
finite-second (fin s m e) (inf t) r = r
finite-second (fin s m e) (fin t n d) r = tt

-- the error of one addition: a and b are the counts of two doubles, c is the count of their rounded sum
pub record AdditionError (a b c : ℤ) : Type 0 where
  -- the error is at most the unit roundoff times the magnitude of the exact sum
  pub relative : 2 ^ 53 * magnitude (c -ℤ (a +ℤ b)) ≤ magnitude (a +ℤ b)
  -- the error is at most the magnitude of either term
  pub first : magnitude (c -ℤ (a +ℤ b)) ≤ magnitude a
  pub second : magnitude (c -ℤ (a +ℤ b)) ≤ magnitude b

-- the magnitude of the count of the double m * 2 ^ e
abbrev units_of : ℕ → ℤ → ℕ
units_of m e = m * up e * 2 ^ low binary64 / down e

over_left : (x l A p q : ℕ) → x * l ≡ A * p → x * q * l ≡ A * (p * q)
over_left x l A p q h = mul_right_comm x q l ∙ ap (λ (z : ℕ). z * q) h ∙ mul_assoc A p q

over_right : (x l A p q : ℕ) → x * l ≡ A * q → x * p * l ≡ A * (p * q)
over_right x l A p q h = over_left x l A q p h ∙ ap (λ (z : ℕ). A * z) (mul_comm q p)

added : (s : Bool) (m : ℕ) (e : ℤ) (t : Bool) (n : ℕ) (d : ℤ) → T (fits binary64 (fin s m e)) → T (fits binary64 (fin t n d))
    → T (finite (add binary64 (fin s m e) (fin t n d)))
    → RoundedSum binary64 (add binary64 (fin s m e) (fin t n d)) s (units_of m e) t (units_of n d)
unfolding add
added s m e t n d h k r =
    rounded_sum binary64 (m * up e * down d) (n * up d * down e) (down e * down d) (units_of m e) (units_of n d)
    (mul-pos (down_pos e) (down_pos d))
    (over_left (m * up e) (2 ^ low binary64) (units_of m e) (down e) (down d) (count_exact s m e h).1)
    (over_right (n * up d) (2 ^ low binary64) (units_of n d) (down e) (down d) (count_exact t n d k).1) s t r

-- the error bounds of a sum whose exact size is w and whose rounding is c
error_of : (a b c : ℤ) (s : Bool) (w : ℕ) → a +ℤ b ≡ signed s w → c ≡ signed s (rounded 53 w)
    → distance (rounded 53 w) w ≤ magnitude a → distance (rounded 53 w) w ≤ magnitude b → AdditionError a b c
error_of a b c s w e g first second =
    let off : magnitude (c -ℤ (a +ℤ b)) ≡ distance (rounded 53 w) w =
    ap₂ (λ (x y : ℤ). magnitude (x -ℤ y)) g e ∙ signed_distance s (rounded 53 w) w in
    let whole : magnitude (a +ℤ b) ≡ w = ap magnitude e ∙ magnitude-signed s w in
    record {
      relative =
          subst (λ (x : ℕ). 2 ^ 53 * x ≤ magnitude (a +ℤ b)) (sym off)
          (subst (λ (x : ℕ). 2 ^ 53 * distance (rounded 53 w) w ≤ x) (sym whole)
          (subst (λ (x : ℕ). x ≤ w) (mul_comm (distance (rounded 53 w) w) (2 ^ 53)) (rounded_relative 53 w)));
      first = subst (λ (x : ℕ). x ≤ magnitude a) (sym off) first;
      second = subst (λ (x : ℕ). x ≤ magnitude b) (sym off) second;
    }

pub addition_error : (x y : Float) → T (fits binary64 x) → T (fits binary64 y) → T (finite (add binary64 x y))
    → AdditionError (count x) (count y) (count (add binary64 x y))
addition_error nan y h k r = absurd (finite-first nan y r)
addition_error (inf s) y h k r = absurd (finite-first (inf s) y r)
addition_error (fin s m e) nan h k r = absurd (finite-second (fin s m e) nan r)
addition_error (fin s m e) (inf t) h k r = absurd (finite-second (fin s m e) (inf t) r)
addition_error (fin s m e) (fin t n d) h k r =
    let sum = added s m e t n d h k r in
    error_of (count (fin s m e)) (count (fin t n d)) (count (add binary64 (fin s m e) (fin t n d))) sum.sign sum.size sum.exact
    (count-value (add binary64 (fin s m e) (fin t n d)) sum.sign (rounded 53 sum.size) sum.value)
    (subst (λ (x : ℕ). distance (rounded 53 sum.size) sum.size ≤ x) (sym (magnitude-signed s (units_of m e)))
    (within 53 (units_of n d) (units_of m e) sum.size (lit< tt) (count_digits t n d k) sum.second))
    (subst (λ (x : ℕ). distance (rounded 53 sum.size) sum.size ≤ x) (sym (magnitude-signed t (units_of n d)))
    (within 53 (units_of m e) (units_of n d) sum.size (lit< tt) (count_digits s m e h) sum.first))
