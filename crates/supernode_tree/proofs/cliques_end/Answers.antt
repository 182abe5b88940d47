use Rattle.supernode_tree.proofs.Many.{ended-short, ended-next, ended-none}
use Rattle.supernode_tree.specs.Reads.{ended, end_read}
use Rattle.layout.specs.Problems.Patterns.{read_clique}
use lib.ListN.{drop}
use Prim.Native.Nat.{◌-◌, ◌+◌}
use native.Mathlib.Omega.{arith}
use mathlib.Core.Path.{◌≡◌, refl, sym, ap, ◌∙◌}
use Rattle.supernode_tree.proofs.cliques_end.Goals as goal

pub returns-in_err-at : goal.returns-in_err-at
returns-in_err-at c =
    let ws = c.args.words.now in
    ap (end_read ws) c.from_residual.ensures
    ∙ sym (ended-short read_clique (c.args.count - c.loop.counter) (drop c.loop.at ws) (omega arith) _ (ap ended (sym c.in_err-at.ensures.result_value)) refl)
    ∙ c.loop.invariant

pub loop-preserved : goal.loop-preserved
loop-preserved c =
    let left = c.args.count - c.loop.counter in
    let e : c.args.count - (c.loop.counter + 1) ≡ left - 1 = omega arith in
    rw e (sym (ended-next read_clique left (drop c.loop.at c.args.words.now) (omega arith) _ (ap ended (sym c.in_ok-at.ensures.result_value)) _ refl)
    ∙ c.loop.invariant)

pub returns : goal.returns
returns c =
    sym (ended-none read_clique (c.args.count - c.loop.counter) (drop c.loop.at c.args.words.now) (omega arith)) ∙ c.loop.invariant
