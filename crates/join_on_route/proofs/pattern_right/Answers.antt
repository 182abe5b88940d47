use Prim.Native.Nat.{ℕ, ◌+◌}
use mathlib.Core.Path.{◌≡◌, refl, ap, ap₂, sym, ◌∙◌}
use mathlib.Core.Bool.{◌&&◌}
use mathlib.Core.List.{List, map}
use lib.ListN.{drop}
use lib.Dec.{eqb}
use Rattle.layout.specs.General.Lists.{all, sum}
use Rattle.layout.specs.Problems.Patterns.{Pattern, Clique}
use Rattle.layout.specs.Cuts.Compact.{map_words}
use Rattle.supernode_tree.specs.Reads.{pattern_at, cliques_from}
use Rattle.supernode_tree.specs.Sizes.{block_at_most, dim_of}
use Rattle.supernode_tree.proofs.Sizes.{blocks-small}
use Rattle.supernode_tree.proofs.Cliques.{right-head}
use Rattle.rows_blocks.proofs.Offsets.{cliques_here, pattern_here}
use Rattle.rows_tables.proofs.Cones.{down_words, entries-down}
use Rattle.join_on_route.specs.Begins.{begins}
use Rattle.join_on_route.proofs.pattern_right.Goals as goal
use Rattle.join_on_route.proofs.pattern_right.Goals.{After-here-p}

-- the cliques of the pattern are those read after its head
pattern : (c : After-here-p) → let a = c.args in
    (pattern_at a.words.now a.at).cliques ≡ cliques_from a.words.now c.here-p.result.cliques c.here-p.result.clique_count
pattern c = ap (λ (p : Pattern). p.cliques) (pattern_here c.args.words.now c.args.at _ c.requires.0 c.here-p.ensures.result_value c.here-p.result refl)

pub here-p-requires : goal.here-p-requires
here-p-requires c = right-head c.args.words.now c.args.at c.requires.0.tree

pub blocks_right-requires-clause-whole : goal.blocks_right-requires-clause-whole
blocks_right-requires-clause-whole c =
    (cliques_here c.args.words.now c.args.at _ c.requires.0 c.here-p.ensures.result_value c.here-p.result refl, c.requires.2)

pub blocks_right-requires-clause-count_value : goal.blocks_right-requires-clause-count_value
blocks_right-requires-clause-count_value c =
    let k = (goal.at.blocks_right-requires-clause-count_value c).After-here-p in
    sym (ap (all (block_at_most 256)) (pattern k)) ∙ blocks-small (pattern_at c.args.words.now c.args.at) 256 c.requires.0 c.requires.1

pub returns : goal.returns
returns c =
    let k = (goal.at.returns c).After-here-p in
    let a = c.args in
    c.blocks_right.ensures
    ∙ ap₂ (λ (l : List ℕ) (n : ℕ). begins (drop a.t a.entries.now) l && eqb a.end (a.start + n))
    (ap (down_words a.cone a.pattern 0 a.start) (sym (pattern k)) ∙ ap map_words (sym (entries-down (pattern_at a.words.now a.at) a.cone 0 a.pattern a.start)))
    (ap (λ (cs : List Clique). sum (map dim_of cs)) (sym (pattern k)))
