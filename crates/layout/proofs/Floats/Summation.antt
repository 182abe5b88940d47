-- Recursive summation: terms are added one after another, each sum rounded. From +0.0 the error of k terms is at most k - 1 units of roundoff
-- times the sum of the terms' magnitudes, for any k: an addition's error is at most a unit of roundoff times its sum, and at most its term
-- (Jeannerod and Rump, Improved error bounds for inner products in floating-point arithmetic, 2013).
use Prim.Native.Nat.{ℕ, suc, ◌+◌, ◌-◌, ◌*◌, ◌^◌, ◌≤◌, ◌<◌, zero-le}
use native.Mathlib.Nat.{le_trans, le_of_lt, mul_left_comm, mul-le-mul_left, mul-le-mul_right, le_of_mul-le-mul_left}
use native.Mathlib.Omega.{arith}
use mathlib.Core.Path.{◌≡◌, sym, ap, subst, ◌∙◌}
use mathlib.Core.Logic.{◌⊎◌, inl, inr}
use mathlib.Core.List.{List, [], ◌∷◌}
use lib.ListN.{length}
use lib.Dec.{T, lit<, lit≤}
use lib.Arith.{le-zero}
use lib.IntN.{ℤ, pos, ◌+ℤ◌, ◌-ℤ◌, +ℤ_idl, +ℤ_idr, +ℤ_assoc}
use lib.Ieee.{Float, add, fits, binary64}
use lib.Ieee.Fits.{add-fits}
use Rattle.layout.specs.General.Lists.{all}
use Rattle.layout.specs.General.Floats.{zero64, finite, Doubles, count, magnitude, left_sum, exact_sum, magnitudes}
use Rattle.layout.proofs.Lists.Tests.{and_iff, lt_or_le}
use Rattle.layout.proofs.Numbers.Integers.{linear}
use Rattle.layout.proofs.Floats.Magnitudes.{magnitude-add}
use Rattle.layout.proofs.Floats.Roundoff.{AdditionError, addition_error, finite-first, finite-second}

-- infinities and NaNs persist: if the result is finite, so are all intermediate sums and all terms
finite-from : (a : Float) (ts : List Float) → T (finite (left_sum a ts)) → T (finite a)
finite-from a [] h = h
finite-from a (t ∷ ts) h = finite-first a t (finite-from (add binary64 a t) ts h)

pub finite_terms : (a : Float) (ts : List Float) → T (finite (left_sum a ts)) → T (all finite ts)
finite_terms a [] h = tt
finite_terms a (t ∷ ts) h =
    (and_iff (finite t) (all finite ts)).1 (finite-second a t (finite-from (add binary64 a t) ts h), finite_terms (add binary64 a t) ts h)

-- ---- one more term

-- one more term: D is the error so far, S the sum of magnitudes so far, t the term's magnitude, r the addition's error, x its exact sum
step : (U k S D t r x : ℕ) → 0 < U → U * D ≤ k * S → U * r ≤ x → x ≤ S + D + t → r ≤ t → U * (D + r) ≤ suc k * (S + t)
step U k S D t r x u before relative size term = go (lt_or_le S (U * t))
  where
    go : (S < U * t) ⊎ (U * t ≤ S) → U * (D + r) ≤ suc k * (S + t)
    go (inl large) =
        let most : k * S ≤ U * (k * t) = subst (λ (z : ℕ). k * S ≤ z) (mul_left_comm k U t) (mul-le-mul_left k (le_of_lt large)) in
        let scaled : U * D ≤ U * (k * t) = le_trans before most in
        let few : D ≤ k * t = le_of_mul-le-mul_left scaled u in
        omega arith
    go (inr small) = omega (arith, mul-le-mul_left U term)

-- the total error is the error so far plus the error of the addition
split : (c a e t : ℤ) → c -ℤ (e +ℤ t) ≡ (a -ℤ e) +ℤ (c -ℤ (a +ℤ t))
split c a e t = simp linear

restore : (a e t : ℤ) → a +ℤ t ≡ (e +ℤ (a -ℤ e)) +ℤ t
restore a e t = simp linear

-- a differs from e by at most k units of roundoff times S
abbrev Off : ℕ → ℕ → ℤ → ℤ → Type 0
Off k S a e = 2 ^ 53 * magnitude (a -ℤ e) ≤ k * S

one_more : (k S : ℕ) (a e t c : ℤ) → magnitude e ≤ S → Off k S a e → AdditionError a t c → Off (suc k) (S + magnitude t) c (e +ℤ t)
one_more k S a e t c small before error =
    le_trans (mul-le-mul_left (2 ^ 53) triangle)
    (step (2 ^ 53) k S (magnitude (a -ℤ e)) (magnitude t) (magnitude (c -ℤ (a +ℤ t))) (magnitude (a +ℤ t)) (lit< tt)
    before error.relative sum error.second)
  where
    triangle : magnitude (c -ℤ (e +ℤ t)) ≤ magnitude (a -ℤ e) + magnitude (c -ℤ (a +ℤ t))
    triangle =
        subst (λ (z : ℤ). magnitude z ≤ magnitude (a -ℤ e) + magnitude (c -ℤ (a +ℤ t))) (sym (split c a e t))
        (magnitude-add (a -ℤ e) (c -ℤ (a +ℤ t)))

    sum : magnitude (a +ℤ t) ≤ S + magnitude (a -ℤ e) + magnitude t
    sum =
        subst (λ (z : ℤ). magnitude z ≤ S + magnitude (a -ℤ e) + magnitude t) (sym (restore a e t))
        (omega (arith, magnitude-add (e +ℤ (a -ℤ e)) t, magnitude-add e (a -ℤ e)))

-- ---- all terms

more_terms : (k S : ℕ) (a : Float) (e : ℤ) (ts : List Float) → T (fits binary64 a) → Doubles ts
    → T (finite (left_sum a ts)) → magnitude e ≤ S → Off k S (count a) e
    → Off (k + length ts) (S + magnitudes ts) (count (left_sum a ts)) (e +ℤ exact_sum ts)
more_terms k S a e [] fit all_fit fin small off =
    let same : (k + 0) * (S + 0) ≡ k * S = omega arith in
    subst (λ (z : ℕ). 2 ^ 53 * magnitude (count a -ℤ (e +ℤ pos 0)) ≤ z) (sym same)
    (subst (λ (z : ℤ). Off k S (count a) z) (sym (+ℤ_idr e)) off)
more_terms k S a e (t ∷ ts) fit all_fit fin small off =
    let (here, later) = (and_iff (fits binary64 t) (all (fits binary64) ts)).0 all_fit in
    let T' : ℕ = magnitude (count t) in
    let b : Float = add binary64 a t in
    let error = addition_error a t fit here (finite-from b ts fin) in
    let rest = more_terms (suc k) (S + T') b (e +ℤ count t) ts (add-fits binary64 a t) later fin
    (omega (arith, magnitude-add e (count t))) (one_more k S (count a) e (count t) (count b) small off error) in
    let same : (suc k + length ts) * (S + T' + magnitudes ts) ≡ (k + suc (length ts)) * (S + (T' + magnitudes ts)) = omega arith in
    subst (λ (z : ℕ). 2 ^ 53 * magnitude (count (left_sum b ts) -ℤ (e +ℤ (count t +ℤ exact_sum ts))) ≤ z) same
    (subst (λ (z : ℤ). Off (suc k + length ts) (S + T' + magnitudes ts) (count (left_sum b ts)) z) (+ℤ_assoc e (count t) (exact_sum ts)) rest)

-- from +0.0, k terms give at most k - 1 units of roundoff, since the first addition is exact
summation_sharp : (ts : List Float) → Doubles ts → T (finite (left_sum zero64 ts))
    → 2 ^ 53 * magnitude (count (left_sum zero64 ts) -ℤ exact_sum ts) ≤ (length ts - 1) * magnitudes ts
summation_sharp [] fit fin = lit≤ tt
summation_sharp (t ∷ ts) all_fit fin =
    let (here, later) = (and_iff (fits binary64 t) (all (fits binary64) ts)).0 all_fit in
    let error = addition_error zero64 t (unfold fits in tt) here (finite-from (add binary64 zero64 t) ts fin) in
    let exact : magnitude (count (add binary64 zero64 t) -ℤ count t) ≡ 0 =
    ap (λ (z : ℤ). magnitude (count (add binary64 zero64 t) -ℤ z)) (sym (+ℤ_idl (count t))) ∙ le-zero error.first in
    let others : 0 + length ts ≡ length (t ∷ ts) - 1 = omega arith in
    subst (λ (k : ℕ). Off k (magnitudes (t ∷ ts)) (count (left_sum zero64 (t ∷ ts))) (exact_sum (t ∷ ts))) others
    (more_terms 0 (magnitude (count t)) (add binary64 zero64 t) (count t) ts (add-fits binary64 zero64 t) later fin (omega arith)
    (subst (λ (z : ℕ). 2 ^ 53 * z ≤ 0 * magnitude (count t)) (sym exact) zero-le))

pub summation_error : (ts : List Float) → Doubles ts → T (finite (left_sum zero64 ts))
    → 2 ^ 53 * magnitude (count (left_sum zero64 ts) -ℤ exact_sum ts) ≤ length ts * magnitudes ts
summation_error ts fit fin = le_trans (summation_sharp ts fit fin) (mul-le-mul_right (magnitudes ts) (omega arith))
