use Prim.Native.Nat.{◌≤◌, ◌+◌}
use mathlib.Core.Path.{◌≡◌}
use lib.ListN.{length, drop}
use Rattle.layout.specs.General.Lists.{same_numbers}
use Rattle.layout.specs.Rows.Blocks.{block_row_count}
use Rattle.layout.specs.Cuts.Compact.{cone_map, map_from, map_words}
use Rattle.layout.specs.Calls.Join.{joined_parts}
use Rattle.walk_cones.specs.Ahead.{ahead, Reached}
use Rattle.join_on_route.proofs.map_right.Given as goal

abbrev pub invariant-loop-rows : goal.invariant-loop-rows
invariant-loop-rows l =
    let ps = joined_parts l.cones l.count l.words in
    (l.t ≤ length l.entries) × Reached l.m l.cones l.words l.place
    × (same_numbers (drop l.t l.entries) (map_words (map_from l.first (ahead l.cones l.words l.place))) ≡ same_numbers l.entries (map_words (cone_map ps)))
    × (l.first + block_row_count (ahead l.cones l.words l.place) ≡ block_row_count ps)

abbrev pub decreases-loop-rows : goal.decreases-loop-rows
decreases-loop-rows l = length (ahead l.cones l.words l.place)
