use Prim.Native.Nat.{◌≤◌, ◌+◌, ◌*◌}
use mathlib.Core.Path.{◌≡◌}
use lib.ListN.{length, take, drop}
use Rattle.layout.specs.General.Lists.{written}
use Rattle.layout.specs.Problems.Cones.{records}
use Rattle.layout.specs.Problems.Patterns.{patterns}
use Rattle.layout.specs.Rows.Blocks.{parts, block_row_count}
use Rattle.walk_cones.specs.Ahead.{ahead, Reached}
use Rattle.rows_tables.specs.Tables.{codes_from}
use Rattle.rows_tables.proofs.write_table.Given as goal

abbrev pub invariant-loop-rows : goal.invariant-loop-rows
invariant-loop-rows l =
    let ps = parts (records l.cones) (patterns l.count l.words) in
    let full = codes_from l.table 0 ps in
    (l.t ≤ length full) × (length l.out ≡ length l.initial.out) × (l.out ≡ written (take l.t full) l.initial.out)
    × (drop l.t full ≡ codes_from l.table l.first (ahead l.cones l.words l.place)) × Reached l.m l.cones l.words l.place
    × (l.first + block_row_count (ahead l.cones l.words l.place) ≡ block_row_count ps) × (l.first ≤ l.place.cone * 8421376)

abbrev pub decreases-loop-rows : goal.decreases-loop-rows
decreases-loop-rows l = length (ahead l.cones l.words l.place)
