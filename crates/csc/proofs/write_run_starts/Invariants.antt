use mathlib.Core.Path.{◌≡◌}
use Rattle.layout.specs.General.Lists.{written}
use Rattle.layout.specs.Cuts.Runs.{starts_of_runs, run_count}
use Rattle.csc.specs.Matrix.{table}
use Rattle.csc.proofs.write_run_starts.Given as goal

abbrev pub invariant-loop-c : goal.invariant-loop-c
invariant-loop-c l =
    (l.count ≡ run_count l.c (table l.starts l.rows)) × (l.out ≡ written (starts_of_runs l.c (table l.starts l.rows)) l.initial.out)
