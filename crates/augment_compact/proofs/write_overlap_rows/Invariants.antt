use Rattle.std.proofs.Common.{◌≡◌, length, take}
use Rattle.layout.specs.General.Lists.{written}
use Rattle.augment_compact.specs.Cut.{tied_rows}
use Rattle.augment_compact.proofs.write_overlap_rows.Given as goal

abbrev pub invariant-loop-r : goal.invariant-loop-r
invariant-loop-r l =
    (l.w ≡ length (tied_rows 0 (take l.r l.codes))) × (l.out ≡ written (tied_rows 0 (take l.r l.codes)) l.initial.out)
