use Rattle.std.proofs.Common.{◌≡◌, ◌+◌, length, get_or}
use Rattle.layout.specs.General.Lists.{part}
use Rattle.csc.specs.Matrix.{matrix}
use Rattle.cut_columns.specs.Marks.{marked_below}
use Rattle.augment_compact.specs.Groups.{unmarked, RowsGrow, ValuesGrow}
use Rattle.augment_compact.proofs.write_followers.Given as goal

abbrev pub invariant-loop-d : goal.invariant-loop-d
invariant-loop-d l =
    (part (get_or l.run_starts l.c 0) (get_or l.run_starts (l.c + 1) 0) l.rows_out ≡ marked_below l.codes (length l.codes))
    × RowsGrow l.n (matrix l.starts l.rows l.values) (unmarked (matrix l.starts l.rows l.values) l.place l.c l.codes) (l.c + 1) l.d l.initial.rows_out l.rows_out
    × ValuesGrow l.n (matrix l.starts l.rows l.values) (unmarked (matrix l.starts l.rows l.values) l.place l.c l.codes) (l.c + 1) l.d l.initial.values_out l.values_out
