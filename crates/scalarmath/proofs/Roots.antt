-- Newton's iteration for the integer root of v: the first guess, a step, and the end.
use Prim.Native.Nat.{ℕ, zero, suc, ◌+◌, ◌-◌, ◌*◌, ◌/◌, ◌^◌, ◌≤◌, ◌<◌}
use native.Mathlib.Nat.{mul-le-mul, mul_comm, le-div_iff_mul-le, div-lt_iff_lt-mul, mul-div_cancel}
use native.Mathlib.Omega.{arith}
use mathlib.Core.Path.{◌≡◌, sym, ap, subst, ◌∙◌}
use mathlib.Core.Logic.{inl, inr}
use lib.Pow.{pow_pos, pow_mono, pow-add}
use lib.Count.{count_leading_zeros, leading_length}
use Rattle.layout.proofs.Lists.Tests.{lt_or_le}

-- v is below the square of r + 1, so r is at least the root
abbrev pub Reaches : ℕ → ℕ → Type 0
Reaches v r = v < (r + 1) * (r + 1)

-- ---- the first guess

-- 2 ^ 16, halved once for every two leading zeros
abbrev pub guess : ℕ → ℕ
guess v = 65536 / 2 ^ (count_leading_zeros 32 v / 2)

power : (k : ℕ) → k ≤ 16 → 65536 / 2 ^ k ≡ 2 ^ (16 - k)
power k h =
    let e : 16 - k + k ≡ 16 = omega arith in
    let s : 65536 ≡ 2 ^ (16 - k) * 2 ^ k = ap (λ (n : ℕ). 2 ^ n) (sym e) ∙ pow-add 2 (16 - k) k in
    ap (λ (n : ℕ). n / 2 ^ k) s ∙ mul-div_cancel (2 ^ (16 - k)) (pow_pos k)

pub first_guess : (v : ℕ) → v < 2 ^ 32 → (0 < guess v) × (guess v ≤ 65536) × Reaches v (guess v)
first_guess v h =
    let k = count_leading_zeros 32 v / 2 in
    let r = 2 ^ (16 - k) in
    let (m, e, below, _) = leading_length 32 v h in
    let wide : 2 ^ m ≤ r * r = subst (λ (n : ℕ). 2 ^ m ≤ n) (pow-add 2 (16 - k) (16 - k)) (pow_mono {i = m} {j = 16 - k + (16 - k)} (omega arith)) in
    let small : r ≤ 2 ^ 16 = pow_mono {i = 16 - k} {j = 16} (omega arith) in
    rw (power k (omega arith)) (pow_pos (16 - k), small, omega arith)

-- ---- a step

-- of two numbers with a given sum, equal ones have the largest product
le_square : (a b m : ℕ) → a ≤ m → a + b ≤ m + m → a * b ≤ m * m
le_square a b m l h =
    let d = m - a in
    let p : a * b ≤ a * (a + d + d) = mul-le-mul {n₂ = a} {m₂ = a + d + d} (omega arith) (omega arith) in
    let e : m ≡ a + d = omega arith in
    rw e (omega arith)

product_le_square : (a b m : ℕ) → a + b ≤ m + m → a * b ≤ m * m
product_le_square a b m h = elim (lt_or_le m a) [
  | inl l ↦ rw (mul_comm a b) (le_square b a m (omega arith) (omega arith))
  | inr l ↦ le_square a b m l h
]

pub step_reaches : (v r : ℕ) → 0 < r → Reaches v ((r + v / r) / 2)
step_reaches v r p =
    let q = v / r in
    let m = (r + q) / 2 + 1 in
    let below : v < suc q * r = (div-lt_iff_lt-mul p).0 (omega arith) in
    let square : suc q * r ≤ m * m = product_le_square (suc q) r m (omega arith) in
    omega arith

pub reaches_positive : (v r : ℕ) → 0 < v → Reaches v r → 0 < r
reaches_positive v zero p h = absurd (omega arith)
reaches_positive v (suc r) p h = omega arith

-- ---- the end

pub end_below : (v r : ℕ) → 0 < r → r ≤ v / r → r * r ≤ v
end_below v r p h = (le-div_iff_mul-le p).0 h
