use mathlib.Core.Path.{◌≡◌}
use lib.ListN.{length}
use Rattle.layout.specs.General.Lists.{written}
use Rattle.generator_band.proofs.Words.{cliques_to}
use Rattle.generator_band.proofs.write_cliques.Given as goal

abbrev pub invariant-loop-c : goal.invariant-loop-c
invariant-loop-c l = (l.at ≡ length (cliques_to l.w l.c)) × (l.out ≡ written (cliques_to l.w l.c) l.initial.out)
