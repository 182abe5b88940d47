use mathlib.Core.Path.{sym, ap, subst, ◌∙◌}
use lib.Dec.{T}
use lib.Ieee.{binary64, to_bits}
use Rattle.layout.proofs.Floats.Nans.{ne_self, nan_is}
use Rattle.layout.proofs.Floats.Bits.{nan_pattern}
use Rattle.file_bytes.proofs.bits_of.Goals as goal

pub returns-then-x : goal.returns-then-x
returns-then-x c =
    let x = c.args.x in
    sym (ap (to_bits binary64) (nan_is x (subst T (sym (sym (ne_self x) ∙ c.if-x.true)) tt)) ∙ nan_pattern)

pub float_to_bits-result : goal.float_to_bits-result
float_to_bits-result c = rw (sym (ne_self c.args.x) ∙ c.if-x.false) tt
