use Prim.Native.Nat.{◌+◌, ◌-◌, ◌*◌}
use mathlib.Core.Path.{◌≡◌}
use mathlib.Core.Bool.{true}
use mathlib.Core.List.{◌++◌, map}
use lib.ListN.{length, drop}
use Rattle.layout.specs.General.Lists.{all, sum}
use Rattle.supernode_tree.specs.Reads.{Whole, cliques_from}
use Rattle.supernode_tree.specs.Sizes.{block_at_most, dim_of}
use Rattle.rows_tables.proofs.Cones.{down_words}
use Rattle.rows_tables.proofs.entries_down.Given as goal

abbrev pub invariant-loop-clique : goal.invariant-loop-clique
invariant-loop-clique l =
    let all_cliques = cliques_from l.words l.first l.count in
    let base = l.end - sum (map dim_of all_cliques) in
    let cs = cliques_from l.words l.at (l.count - l.clique) in
    Whole l.words l.at (l.count - l.clique) × (all (block_at_most 256) cs ≡ true) × (length l.out ≡ length l.initial.out)
    × (l.row ≡ base + sum (map dim_of cs))
    × (down_words l.cone l.pattern l.clique base cs ++ drop ((l.count - l.clique) * 5) l.out ≡ down_words l.cone l.pattern 0 base all_cliques ++ drop (l.count * 5) l.initial.out)
