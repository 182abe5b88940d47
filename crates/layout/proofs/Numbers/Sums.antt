-- Finite sums of integers, over the numbers below n.
use mathlib.Core.Path.{◌≡◌, refl, ◌∙◌, ap, ap₂}
use mathlib.Core.Logic.{◌≢◌}
use Prim.Native.Nat.{ℕ, zero, suc, ◌<◌}
use native.Mathlib.Nat.{not-suc-le-zero, le_of_suc-le-suc}
use native.Mathlib.Omega.{arith}
use lib.IntN.{ℤ, pos, ◌+ℤ◌, +ℤ_idl, +ℤ_idr}
use Rattle.layout.proofs.Numbers.Integers.{sort}

-- a regrouping, stated over variables because `simp sort` may fail in a goal that contains a recursive call
pub swap_middle : (a b c d : ℤ) → (a +ℤ b) +ℤ (c +ℤ d) ≡ (a +ℤ c) +ℤ (b +ℤ d)
swap_middle a b c d = simp sort

-- f 0 + … + f (n − 1)
abbrev pub sum_up : ℕ → (ℕ → ℤ) → ℤ
sum_up zero f = pos 0
sum_up (suc n) f = f 0 +ℤ sum_up n (λ k. f (suc k))

pub sum_up_same : (n : ℕ) (f g : ℕ → ℤ) → ((k : ℕ) → k < n → f k ≡ g k) → sum_up n f ≡ sum_up n g
sum_up_same zero f g h = refl
sum_up_same (suc n) f g h =
    ap₂ ◌+ℤ◌ (h 0 (omega arith)) (sum_up_same n (λ k. f (suc k)) (λ k. g (suc k)) (λ k i. h (suc k) (omega arith)))

pub sum_up_add : (n : ℕ) (f g : ℕ → ℤ) → sum_up n (λ k. f k +ℤ g k) ≡ sum_up n f +ℤ sum_up n g
sum_up_add zero f g = refl
sum_up_add (suc n) f g =
    ap (λ z. (f 0 +ℤ g 0) +ℤ z) (sum_up_add n (λ k. f (suc k)) (λ k. g (suc k)))
    ∙ swap_middle (f 0) (g 0) (sum_up n (λ k. f (suc k))) (sum_up n (λ k. g (suc k)))

pub sum_up_zero : (n : ℕ) (f : ℕ → ℤ) → ((k : ℕ) → k < n → f k ≡ pos 0) → sum_up n f ≡ pos 0
sum_up_zero zero f h = refl
sum_up_zero (suc n) f h =
    ap₂ ◌+ℤ◌ (h 0 (omega arith)) (sum_up_zero n (λ k. f (suc k)) (λ k i. h (suc k) (omega arith)))

-- if only the term q may differ from 0, the sum is that term
pub sum_up_single : (n : ℕ) (f : ℕ → ℤ) (q : ℕ) → q < n → ((k : ℕ) → k < n → k ≢ q → f k ≡ pos 0) → sum_up n f ≡ f q
sum_up_single zero f q i h = absurd (not-suc-le-zero i)
sum_up_single (suc n) f zero i h =
    ap (λ z. f 0 +ℤ z) (sum_up_zero n (λ k. f (suc k)) (λ k j. h (suc k) (omega arith) (omega arith))) ∙ +ℤ_idr (f 0)
sum_up_single (suc n) f (suc q) i h =
    ap₂ ◌+ℤ◌ (h 0 (omega arith) (omega arith))
    (sum_up_single n (λ k. f (suc k)) q (le_of_suc-le-suc i) (λ k j ne. h (suc k) (omega arith) (omega arith)))
    ∙ +ℤ_idl (f (suc q))
