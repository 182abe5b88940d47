use mathlib.Core.Path.{◌≡◌}
use lib.ListN.{drop}
use Rattle.layout.specs.Calls.Generate.{drawn_side}
use Rattle.generator_draws.proofs.draw_side.Given as goal

abbrev pub invariant-loop-r : goal.invariant-loop-r
invariant-loop-r l = drawn_side l.state (drop l.r-index l.rows) l.out ≡ drawn_side l.s l.rows l.initial.out
