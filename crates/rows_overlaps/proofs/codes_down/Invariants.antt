use mathlib.Core.Path.{◌≡◌}
use mathlib.Core.List.{reverse}
use lib.ListN.{length, drop}
use Rattle.layout.specs.General.Lists.{written, join, below}
use Rattle.rows_overlaps.specs.Tables.{codes_here}
use Rattle.rows_overlaps.proofs.codes_down.Given as goal

abbrev pub invariant-loop-c : goal.invariant-loop-c
invariant-loop-c l = let R = join (codes_here l.base l.words l.ordering l.offsets l.starts) (reverse (drop l.c (below (length l.offsets)))) in
    (l.t ≡ length R) × (length l.out ≡ length l.initial.out) × (l.out ≡ written R l.initial.out)
