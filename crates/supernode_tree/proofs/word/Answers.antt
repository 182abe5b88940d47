use mathlib.Core.Path.{refl}
use native.Mathlib.Omega.{arith}
use Rattle.supernode_tree.proofs.word.Goals as goal

pub bounds-words-at : goal.bounds-words-at
bounds-words-at c = c.requires

pub overflow_cast-result : goal.overflow_cast-result
overflow_cast-result c = omega (arith, c.shared_slice_known-1.given c.args.at)

pub returns : goal.returns
returns c = record { value = refl; upper_bound = omega (arith, c.shared_slice_known-1.given c.args.at) }
