use Prim.Native.Nat.{◌*◌, ◌≤◌}
use mathlib.Core.Path.{◌≡◌}
use mathlib.Core.List.{map}
use lib.ListN.{length}
use Rattle.layout.specs.General.Lists.{sum, written}
use Rattle.layout.specs.Cuts.Compact.{csc}
use Rattle.layout.specs.Calls.Generate.{drawn_columns, after_columns}
use Rattle.generator.proofs.write_columns.Given as goal

abbrev pub invariant-loop-c : goal.invariant-loop-c
invariant-loop-c l =
    (l.at ≤ 2080 * l.c) × (l.at ≤ length l.rows_out) × (l.at ≤ length l.values_out) × (l.at ≡ sum (map length (drawn_columns l.s l.rows l.c))) × (l.state ≡ after_columns l.s l.rows l.c)
    × (l.starts_out ≡ written (csc (drawn_columns l.s l.rows l.c)).starts l.initial.starts_out)
    × (l.rows_out ≡ written (csc (drawn_columns l.s l.rows l.c)).rows l.initial.rows_out)
    × (l.values_out ≡ written (csc (drawn_columns l.s l.rows l.c)).values l.initial.values_out)
