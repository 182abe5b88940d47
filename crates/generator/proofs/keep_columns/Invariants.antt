use Prim.Native.Nat.{◌<◌}
use mathlib.Core.Path.{◌≡◌}
use mathlib.Core.List.{map}
use lib.ListN.{length, take}
use Rattle.layout.specs.General.Lists.{sum, written}
use Rattle.layout.specs.Cuts.Compact.{csc}
use Rattle.layout.specs.Calls.Generate.{drawn_value, drawn_columns, after_columns}
use Rattle.generator.proofs.keep_columns.Given as goal

abbrev pub invariant-loop-c : goal.invariant-loop-c
invariant-loop-c l =
    (l.at < 8192) × (l.at ≡ sum (map length (drawn_columns l.s l.rows l.c))) × (l.state ≡ after_columns l.s l.rows l.c)
    × (l.starts ≡ written (csc (drawn_columns l.s l.rows l.c)).starts l.initial.starts)
    × (take l.at l.kept_rows ≡ (csc (drawn_columns l.s l.rows l.c)).rows)
    × (map drawn_value (take l.at l.kept) ≡ (csc (drawn_columns l.s l.rows l.c)).values)
