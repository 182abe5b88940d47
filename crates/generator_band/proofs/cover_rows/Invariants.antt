use mathlib.Core.Path.{◌≡◌}
use lib.ListN.{length}
use Rattle.layout.specs.General.Lists.{keep, below, written}
use Rattle.layout.specs.General.Triangle.{triangle}
use Rattle.layout.proofs.Generators.BandRows.{in_band_at}
use Rattle.generator_band.proofs.cover_rows.Given as goal

abbrev pub invariant-loop-j : goal.invariant-loop-j
invariant-loop-j l =
    (l.first ≡ triangle l.j) × (l.count ≡ length (keep (in_band_at l.places l.w) (below (triangle l.j))))
    × (l.rows ≡ written (keep (in_band_at l.places l.w) (below (triangle l.j))) l.initial.rows)
