use Rattle.std.proofs.Common.{◌≡◌, drop}
use Rattle.augment_compact.specs.Places.{row_table}
use Rattle.augment_compact.proofs.write_place.Given as goal

abbrev pub invariant-loop-r : goal.invariant-loop-r
invariant-loop-r l = row_table l.r (drop l.r l.codes) l.place ≡ row_table 0 l.codes l.initial.place
