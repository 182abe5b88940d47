use Rattle.std.proofs.Common.{refl}
use lib.Ieee.{neg, of_bits}
use Rattle.stored.proofs.F64Element.unwritten.Goals as goal

pub returns : goal.returns
unfolding neg of_bits
returns c = rw c.from.ensures refl
