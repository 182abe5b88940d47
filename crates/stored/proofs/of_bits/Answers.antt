use Rattle.std.proofs.Common.{sym}
use lib.Ieee.{div, of_bits}
use Rattle.stored.proofs.Floats.{nan_pattern, no_nan_pattern}
use Rattle.stored.proofs.of_bits.Goals as goal

pub float_from_bits-result : goal.float_from_bits-result
float_from_bits-result c = no_nan_pattern c.args.bits c.if-bits-gt9218868437227405312.false

pub returns-then-bits-gt9218868437227405312 : goal.returns-then-bits-gt9218868437227405312
unfolding div of_bits
returns-then-bits-gt9218868437227405312 c = sym (nan_pattern c.args.bits c.if-bits-gt9218868437227405312.true)
