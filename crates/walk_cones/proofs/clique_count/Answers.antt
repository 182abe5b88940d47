use mathlib.Core.Path.{◌≡◌, ap, sym, ◌∙◌}
use lib.ListN.{drop}
use Rattle.layout.specs.Problems.Patterns.{Pattern, read, read_head, read_clique, clique_count}
use Rattle.supernode_tree.specs.Reads.{head_of, Whole}
use Rattle.supernode_tree.proofs.Many.{many-length}
use Rattle.supernode_tree.proofs.Cliques.{right-head, right-whole, pattern_whole}
use Rattle.walk_cones.proofs.clique_count.Goals as goal

pub here-p-requires : goal.here-p-requires
here-p-requires c = right-head c.args.words.now c.args.at c.requires.tree

pub returns : goal.returns
returns c =
    let ws = c.args.words.now in
    let p = c.here-p.result in
    let head : read_head (drop c.args.at ws) ≡ read (head_of ws p) (drop p.cliques ws) = sym c.here-p.ensures.result_value in
    let here : Whole ws p.cliques p.clique_count = right-whole ws c.args.at (head_of ws p) p.cliques head c.requires.tree in
    sym (ap (λ (q : Pattern). clique_count q) (pattern_whole ws c.args.at (head_of ws p) p.cliques head here)
    ∙ many-length read_clique p.clique_count (drop p.cliques ws) here)
