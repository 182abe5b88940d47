use Prim.Native.Nat.{◌*◌, ◌≤◌}
use mathlib.Core.Path.{◌≡◌}
use mathlib.Core.List.{map}
use lib.ListN.{length}
use Rattle.layout.specs.General.Lists.{sum}
use Rattle.layout.specs.Calls.Generate.{drawn_columns, after_columns}
use Rattle.generator.proofs.count_columns.Given as goal

abbrev pub invariant-loop : goal.invariant-loop
invariant-loop l =
    (l.state ≡ after_columns l.s l.rows l.counter) × (l.entries ≡ sum (map length (drawn_columns l.s l.rows l.counter))) × (l.entries ≤ 2080 * l.counter)
