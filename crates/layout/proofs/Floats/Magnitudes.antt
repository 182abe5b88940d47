-- Magnitudes of integers: of a negation, of a sum, and of the difference of two integers of the same sign.
use Prim.Native.Nat.{ℕ, zero, suc, ◌+◌, ◌-◌, ◌≤◌, ◌<◌}
use native.Mathlib.Omega.{arith}
use mathlib.Core.Path.{◌≡◌, refl, sym, ap, ◌∙◌}
use mathlib.Core.Logic.{◌⊎◌, inl, inr}
use mathlib.Core.Bool.{Bool, true, false, not, cond}
use lib.Dec.{T, ltb, ltb→lt}
use lib.IntN.{ℤ, pos, negsuc, neg_ℤ, sub_ℕ, ◌+ℤ◌, ◌-ℤ◌, neg_ℤ-+ℤ}
use Rattle.layout.specs.General.Floats.{signed, magnitude}
use Rattle.layout.proofs.Lists.Tests.{lt_or_le}
use Rattle.layout.proofs.Numbers.Integers.{linear}

pub magnitude-neg : (a : ℤ) → magnitude (neg_ℤ a) ≡ magnitude a
magnitude-neg (pos zero) = refl
magnitude-neg (pos (suc n)) = refl
magnitude-neg (negsuc n) = refl

magnitude-sub : (a b : ℕ) → magnitude (sub_ℕ a b) ≤ a + b
magnitude-sub a b = go (ltb a b) (ltb→lt a b)
  where
    go : (t : Bool) → (T t → a < b) → magnitude (cond t (negsuc (b - suc a)) (pos (a - b))) ≤ a + b
    go true h = omega (arith, h tt)
    go false h = omega arith

-- the triangle inequality
pub magnitude-add : (a b : ℤ) → magnitude (a +ℤ b) ≤ magnitude a + magnitude b
magnitude-add (pos a) (pos b) = omega arith
magnitude-add (pos a) (negsuc b) = magnitude-sub a (suc b)
magnitude-add (negsuc a) (pos b) = omega (arith, magnitude-sub b (suc a))
magnitude-add (negsuc a) (negsuc b) = omega arith

pub magnitude-signed : (s : Bool) (w : ℕ) → magnitude (signed s w) ≡ w
magnitude-signed false w = refl
magnitude-signed true w = magnitude-neg (pos w)

-- ---- differences of natural numbers

abbrev pub distance : ℕ → ℕ → ℕ
distance a b = (a - b) + (b - a)

add-sub : (a b : ℤ) → (a +ℤ b) -ℤ a ≡ b
add-sub a b = simp linear

sub-add : (a b : ℤ) → a -ℤ (a +ℤ b) ≡ neg_ℤ b
sub-add a b = simp linear

neg-sub : (a b : ℤ) → neg_ℤ a -ℤ neg_ℤ b ≡ neg_ℤ (a -ℤ b)
neg-sub a b = simp linear

-- pos a - pos b by the difference of the naturals, for b ≤ a and for a ≤ b
pos-sub : (a b : ℕ) → b ≤ a → pos a -ℤ pos b ≡ pos (a - b)
pos-sub a b h = let e : a ≡ b + (a - b) = omega arith in ap (λ (x : ℕ). pos x -ℤ pos b) e ∙ add-sub (pos b) (pos (a - b))

pos-sub-neg : (a b : ℕ) → a ≤ b → pos a -ℤ pos b ≡ neg_ℤ (pos (b - a))
pos-sub-neg a b h = let e : b ≡ a + (b - a) = omega arith in ap (λ (x : ℕ). pos a -ℤ pos x) e ∙ sub-add (pos a) (pos (b - a))

pos_distance : (a b : ℕ) → magnitude (pos a -ℤ pos b) ≡ distance a b
pos_distance a b = go (lt_or_le a b)
  where
    go : (a < b) ⊎ (b ≤ a) → magnitude (pos a -ℤ pos b) ≡ distance a b
    go (inl h) = ap magnitude (pos-sub-neg a b (omega arith)) ∙ magnitude-neg (pos (b - a)) ∙ omega arith
    go (inr h) = ap magnitude (pos-sub a b h) ∙ omega arith

pub signed_distance : (s : Bool) (a b : ℕ) → magnitude (signed s a -ℤ signed s b) ≡ distance a b
signed_distance false a b = pos_distance a b
signed_distance true a b = ap magnitude (neg-sub (pos a) (pos b)) ∙ magnitude-neg (pos a -ℤ pos b) ∙ pos_distance a b

-- ---- sums of integers given by sign and magnitude

pub signed-sum : (s : Bool) (a b : ℕ) → signed s a +ℤ signed s b ≡ signed s (a + b)
signed-sum false a b = refl
signed-sum true a b = sym (neg_ℤ-+ℤ (pos a) (pos b))

-- with unlike signs, the second magnitude being at most the first
pub signed_difference : (s : Bool) (a b : ℕ) → b ≤ a → signed s a +ℤ signed (not s) b ≡ signed s (a - b)
signed_difference false a b h = pos-sub a b h
signed_difference true a b h = negative (pos a) (pos b) ∙ ap neg_ℤ (pos-sub a b h)
  where
    negative : (x y : ℤ) → neg_ℤ x +ℤ y ≡ neg_ℤ (x -ℤ y)
    negative x y = simp linear
