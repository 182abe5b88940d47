use mathlib.Core.Path.{◌≡◌}
use lib.ListN.{length}
use Rattle.layout.specs.General.Lists.{keep, up_from, written}
use Rattle.layout.specs.General.Triangle.{triangle}
use Rattle.layout.proofs.Generators.BandRows.{in_band_at}
use Rattle.generator_band.proofs.cover_column.Given as goal

abbrev pub invariant-loop-i : goal.invariant-loop-i
invariant-loop-i l =
    (l.count ≡ length (keep (in_band_at l.places l.w) (up_from (triangle l.j) l.i)))
    × (l.rows ≡ written (keep (in_band_at l.places l.w) (up_from (triangle l.j) l.i)) l.initial.rows)
