-- The values of b by the codes of the augmented rows. Definitions only.
use Rattle.std.specs.Prelude.{ℕ, cond, List, get_or, ltb, Float}
use Rattle.std.specs.Float.{nan}
use Rattle.std.specs.Float.Ieee.{eq}
use Rattle.layout.specs.General.Floats.{zero64}

-- b's value in original row o, a zero of either sign becoming +0.0
abbrev value_on : List Float → ℕ → Float
value_on b o = let v = get_or b o nan in cond (eq v zero64) zero64 v

-- the value at a row with code c: b's value at its original row, or +0.0 at an overlap
abbrev pub code_value : List Float → ℕ → Float
code_value b c = cond (ltb c 65536) (value_on b c) zero64
