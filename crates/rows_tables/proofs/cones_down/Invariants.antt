use Prim.Native.Nat.{◌*◌}
use mathlib.Core.Path.{◌≡◌}
use mathlib.Core.Bool.{true}
use mathlib.Core.List.{◌++◌}
use lib.ListN.{length, drop}
use Rattle.layout.specs.General.Lists.{all}
use Rattle.supernode_tree.specs.Reads.{Whole, cliques_from}
use Rattle.supernode_tree.specs.Sizes.{block_at_most}
use Rattle.rows_tables.proofs.Cones.{cones_back}
use Rattle.rows_tables.proofs.cones_down.Given as goal

abbrev pub invariant-loop-i : goal.invariant-loop-i
invariant-loop-i l = let cs = cliques_from l.words l.at l.i in
    Whole l.words l.at l.i × (all (block_at_most 256) cs ≡ true) × (length l.out ≡ length l.initial.out)
    × (cones_back cs ++ drop (l.i * 3) l.out ≡ cones_back (cliques_from l.words l.first l.count) ++ drop (l.count * 3) l.initial.out)
