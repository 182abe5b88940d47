use Prim.Native.Nat.{◌%◌}
use mathlib.Core.Path.{◌≡◌, refl, sym, subst, ◌∙◌}
use mathlib.Core.Bool.{Bool, false, not}
use lib.Dec.{T, lt→ltb}
use lib.Ieee.{binary64, nan, is_nan, of_bits, nan_bits, div}
use lib.Ieee.Bits.{nan_bits_is, nan_bits_above}
use borrow.Author.Tests.{le-ltb}
use Rattle.layout.proofs.Floats.Nans.{nan_is}
use Rattle.file_bytes.proofs.float_of.Goals as goal

-- 0.0 / 0.0 is a NaN
zero_over : div binary64 (of_bits binary64 0) (of_bits binary64 0) ≡ nan
unfolding div of_bits
zero_over = refl

pub returns-then-pattern-gt-INFINITY : goal.returns-then-pattern-gt-INFINITY
returns-then-pattern-gt-INFINITY c =
    let n = c.args.pattern in
    let above : T (is_nan (of_bits binary64 n)) =
    subst T (sym (nan_bits_above binary64 n) ∙ nan_bits_is binary64 n) (lt→ltb 9218868437227405312 (n % 9223372036854775808) c.if-pattern-gt-INFINITY.true) in
    zero_over ∙ sym (nan_is (of_bits binary64 n) above)

pub float_from_bits-result : goal.float_from_bits-result
float_from_bits-result c =
    let n = c.args.pattern in
    let below : nan_bits binary64 n ≡ false = nan_bits_above binary64 n ∙ le-ltb 9218868437227405312 (n % 9223372036854775808) c.if-pattern-gt-INFINITY.false in
    subst (λ (b : Bool). T (not b)) (sym below) tt
