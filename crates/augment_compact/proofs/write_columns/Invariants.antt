use Rattle.std.proofs.Common.{◌≡◌, ◌≤◌, ◌-◌}
use Rattle.layout.specs.General.Lists.{written}
use Rattle.layout.specs.Cuts.Compact.{csc}
use Rattle.layout.specs.Cuts.Runs.{sums}
use Rattle.csc.specs.Matrix.{matrix}
use Rattle.augment_compact.specs.Cut.{coded_columns}
use Rattle.augment_compact.proofs.write_columns.Given as goal

abbrev pub invariant-loop-c : goal.invariant-loop-c
invariant-loop-c l =
    (l.c ≤ l.n) × (l.codes ≡ l.initial.codes) × (l.chunks ≡ l.initial.chunks)
    × (l.rows_out ≡ written (csc (coded_columns l.c (sums l.n (matrix l.starts l.rows l.values)) l.initial.codes)).rows l.initial.rows_out)
    × (l.values_out ≡ written (csc (coded_columns l.c (sums l.n (matrix l.starts l.rows l.values)) l.initial.codes)).values l.initial.values_out)

abbrev pub decreases-loop-c : goal.decreases-loop-c
decreases-loop-c l = l.count - l.c
