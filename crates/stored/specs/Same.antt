-- Whether two doubles are equal bit for bit, all NaNs being equal.
use Rattle.std.specs.Prelude.{Bool, not, ◌&&◌, cond, eqb, Float}
use Rattle.std.specs.Float.{binary64}
use Rattle.std.specs.Float.Ieee.{is_nan, to_bits}

abbrev pub alike_values : Float → Float → Bool
alike_values x y = cond (is_nan x) (is_nan y) (not (is_nan y) && eqb (to_bits binary64 x) (to_bits binary64 y))
