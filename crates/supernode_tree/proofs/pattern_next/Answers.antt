use Rattle.supernode_tree.proofs.Cliques.{head_of_whole, cliques_of_whole, rest_of_cliques}
use Rattle.supernode_tree.specs.Reads.{head_of}
use lib.ListN.{drop}
use mathlib.Core.Path.{sym, ◌∙◌}
use Rattle.supernode_tree.proofs.pattern_next.Goals as goal

pub here-p-requires : goal.here-p-requires
here-p-requires c = head_of_whole (drop c.args.at c.args.words.now) c.requires

pub cliques_next-requires : goal.cliques_next-requires
cliques_next-requires c =
    let ws = c.args.words.now in
    cliques_of_whole (drop c.args.at ws) (head_of ws c.here-p.result) _ (sym c.here-p.ensures.result_value) c.requires

pub returns : goal.returns
returns c =
    let ws = c.args.words.now in
    rest_of_cliques (drop c.args.at ws) (head_of ws c.here-p.result) _ (sym c.here-p.ensures.result_value) ∙ c.cliques_next.ensures
