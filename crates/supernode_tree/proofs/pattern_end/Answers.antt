use Rattle.supernode_tree.proofs.Cliques.{no_pattern_lem, ended-by-cliques}
use Rattle.supernode_tree.specs.Reads.{head_of, ended, end_read}
use lib.ListN.{drop}
use mathlib.Core.Path.{sym, ap, ◌∙◌}
use Rattle.supernode_tree.proofs.pattern_end.Goals as goal

pub returns-in_err-p : goal.returns-in_err-p
returns-in_err-p c =
    let ws = c.args.words.now in
    ap (end_read ws) c.from_residual.ensures ∙ sym (ap ended (no_pattern_lem (drop c.args.at ws) (sym c.in_err-p.ensures.result_value)))

pub returns : goal.returns
returns c =
    let ws = c.args.words.now in
    c.cliques_end.ensures ∙ sym (ended-by-cliques (drop c.args.at ws) (head_of ws c.in_ok-p.p) _ (sym c.in_ok-p.ensures.result_value))
