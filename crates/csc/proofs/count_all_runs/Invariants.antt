use mathlib.Core.Path.{◌≡◌}
use Rattle.layout.specs.Cuts.Runs.{run_count}
use Rattle.csc.specs.Matrix.{table}
use Rattle.csc.proofs.count_all_runs.Given as goal

abbrev pub invariant-loop-c : goal.invariant-loop-c
invariant-loop-c l = l.count ≡ run_count l.c (table l.starts l.rows)
