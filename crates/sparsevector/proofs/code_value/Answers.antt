use native.Mathlib.Omega.{arith}
use lib.Ieee.{of_bits}
use borrow.Author.Tests.{lt-ltb, le-ltb}
use Rattle.sparsevector.proofs.code_value.Goals as goal

pub returns-then-code-ge-FIRST_OVERLAP : goal.returns-then-code-ge-FIRST_OVERLAP
unfolding of_bits
returns-then-code-ge-FIRST_OVERLAP c = simp (le-ltb _ _ c.if-code-ge-FIRST_OVERLAP.true)

pub bounds-b-code : goal.bounds-b-code
bounds-b-code c = c.requires (omega (arith, c.if-code-ge-FIRST_OVERLAP.false))

pub returns-then-v : goal.returns-then-v
unfolding of_bits
returns-then-v c = simp (lt-ltb _ _ c.if-code-ge-FIRST_OVERLAP.false, c.if-v.true)

pub returns : goal.returns
unfolding of_bits
returns c = simp (lt-ltb _ _ c.if-code-ge-FIRST_OVERLAP.false, c.if-v.false)
