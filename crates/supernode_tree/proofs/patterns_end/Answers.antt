use Rattle.supernode_tree.proofs.Many.{ended-ends, ended-short, ended-next, ended-none}
use Rattle.supernode_tree.proofs.Words.{ends_at}
use Rattle.supernode_tree.specs.Reads.{end_read}
use Rattle.layout.specs.Problems.Patterns.{read_pattern, read_patterns, ends_right}
use lib.ListN.{drop}
use Prim.Native.Nat.{◌-◌, ◌+◌}
use native.Mathlib.Omega.{arith}
use mathlib.Core.Path.{◌≡◌, sym, ap, ◌∙◌}
use Rattle.supernode_tree.proofs.patterns_end.Goals as goal

pub returns-in_default : goal.returns-in_default
returns-in_default c =
    let ws = c.args.words.now in
    ap ends_right (sym (ended-short read_pattern (c.args.count - c.loop.counter) (drop c.loop.at ws) (omega arith) _
    (sym c.pattern_end.ensures) (ap (end_read ws) c.in_default.is)) ∙ c.loop.invariant) ∙ ended-ends (read_patterns c.args.count ws)

pub loop-preserved : goal.loop-preserved
loop-preserved c =
    let ws = c.args.words.now in
    let left = c.args.count - c.loop.counter in
    let e : c.args.count - (c.loop.counter + 1) ≡ left - 1 = omega arith in
    rw e (sym (ended-next read_pattern left (drop c.loop.at ws) (omega arith) _ (sym c.pattern_end.ensures) _ (ap (end_read ws) c.in-Some.is)) ∙ c.loop.invariant)

pub returns : goal.returns
returns c =
    let ws = c.args.words.now in
    sym (ends_at (tt {0}) ws c.loop.at)
    ∙ ap ends_right (sym (ended-none read_pattern (c.args.count - c.loop.counter) (drop c.loop.at ws) (omega arith)) ∙ c.loop.invariant)
    ∙ ended-ends (read_patterns c.args.count ws)
