use Prim.Native.Nat.{ℕ}
use mathlib.Core.List.{List, ◌++◌}
use lib.ListN.{take}
use Rattle.check_patterns.specs.Accepted.{Met}
use Rattle.check_patterns.proofs.mark_all.Given as goal

abbrev pub invariant-loop-word : goal.invariant-loop-word
invariant-loop-word l = (met : List ℕ) → Met l.b l.n l.initial.marks met → Met l.b l.n l.marks (met ++ take l.word-index l.words)
