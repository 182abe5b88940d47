use mathlib.Core.Path.{sym, ap, ◌∙◌}
use Rattle.layout.specs.Checks.{tree_right, cliques_right}
use Rattle.layout.specs.Problems.Patterns.{with_cliques}
use Rattle.layout.proofs.Lists.Tests.{and-true}
use Rattle.supernode_tree.specs.Reads.{head_of, cliques_from}
use Rattle.supernode_tree.proofs.Cliques.{pattern_head}
use Rattle.check_cliques.proofs.Trees.{separators-below}
use Rattle.check_cliques.proofs.cliques_right_by.Goals as goal

pub returns-then-snodes_right : goal.returns-then-snodes_right
returns-then-snodes_right c =
    let ws = c.args.words.now in
    let p = c.here-p.result in
    let w = c.requires.words_value in
    let snodes = sym c.snodes_right.ensures ∙ c.if-snodes_right.true in
    let whole = pattern_head ws c.args.at (head_of ws p) p.cliques (sym c.here-p.ensures.result_value) w.0 in
    c.separators_right.ensures
    ∙ separators-below (with_cliques (head_of ws p) (cliques_from ws p.cliques p.clique_count)) (sym (ap tree_right whole) ∙ w.1) snodes
    ∙ sym (ap cliques_right whole ∙ and-true _ _ snodes)
