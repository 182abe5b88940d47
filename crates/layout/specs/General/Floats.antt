-- Doubles: constants, bits, the exact reading as a whole count of 2 ^ -1074, sums rounded and exact. Definitions only.
use Rattle.std.specs.Prelude.{ℕ, suc, ◌+◌, ◌*◌, ◌/◌, ◌^◌, Bool, true, false, List, [], ◌∷◌, map, T, eqb, ℤ, pos, negsuc, neg_ℤ, ◌+ℤ◌, Float}
use Rattle.std.specs.Float.{nan, inf, fin, binary64}
use Rattle.std.specs.Float.Ieee.{up, down, add, fits, of_bits, to_bits}
use Rattle.layout.specs.General.Lists.{all}

-- +0.0, 1.0 and -1.0
abbrev pub zero64 : Float
zero64 = fin false 0 (pos 0)

abbrev pub one64 : Float
one64 = fin false 1 (pos 0)

abbrev pub minus_one64 : Float
minus_one64 = fin true 1 (pos 0)

abbrev pub finite : Float → Bool
finite nan = false
finite (inf s) = false
finite (fin s m e) = true

-- each value is a double, as in a slice of f64
abbrev pub Doubles : List Float → Type 0
Doubles vs = T (all (fits binary64) vs)

-- ---- bits

-- whether two doubles agree bit by bit: +0.0 and -0.0 differ, and all NaNs count as one
abbrev pub same_bits : Float → Float → Bool
same_bits x y = eqb (to_bits binary64 x) (to_bits binary64 y)

-- the doubles of 64-bit patterns, and the patterns of doubles
abbrev pub floats : List ℕ → List Float
floats vs = map (of_bits binary64) vs

abbrev pub bits : List Float → List ℕ
bits vs = map (to_bits binary64) vs

-- ---- the exact reading

-- an integer from its sign and magnitude, and its magnitude
abbrev pub signed : Bool → ℕ → ℤ
signed false k = pos k
signed true k = neg_ℤ (pos k)

abbrev pub magnitude : ℤ → ℕ
magnitude (pos n) = n
magnitude (negsuc n) = suc n

-- a finite double as a count of 2 ^ -1074
abbrev pub count : Float → ℤ
count nan = pos 0
count (inf s) = pos 0
count (fin s m e) = signed s (m * up e * 2 ^ 1074 / down e)

-- a double that is a whole number, as that number
abbrev pub unit : Float → ℤ
unit nan = pos 0
unit (inf s) = pos 0
unit (fin s m e) = signed s (m * up e / down e)

-- ---- sums

-- v and the values after it, added from left to right
abbrev pub left_sum : Float → List Float → Float
left_sum v [] = v
left_sum v (w ∷ ws) = left_sum (add binary64 v w) ws

-- the exact sum of doubles, and the sum of their magnitudes
abbrev pub exact_sum : List Float → ℤ
exact_sum [] = pos 0
exact_sum (t ∷ ts) = count t +ℤ exact_sum ts

abbrev pub magnitudes : List Float → ℕ
magnitudes [] = 0
magnitudes (t ∷ ts) = magnitude (count t) + magnitudes ts
