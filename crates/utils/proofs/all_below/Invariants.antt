use Rattle.layout.specs.General.Lists.{all}
use lib.ListN.{drop}
use lib.Dec.{ltb}
use mathlib.Core.Path.{◌≡◌}
use mathlib.Core.Bool.{◌&&◌}
use Rattle.utils.proofs.all_below.Given as goal

-- `holds` is whether the numbers so far are below n
abbrev pub invariant-loop-word : goal.invariant-loop-word
invariant-loop-word l = all (λ x. ltb x l.n) l.words ≡ (l.holds && all (λ x. ltb x l.n) (drop l.word-index l.words))
