use Rattle.check_cliques.proofs.Trees.{tree_read, tree_start, tree-step, tree-done}
use Rattle.supernode_tree.proofs.Cliques.{first-whole, whole-next, separator-size}
use Rattle.layout.proofs.Lists.Tests.{and_cases, and_right}
use Rattle.check_cliques.specs.Trees.{parent_ok}
use Rattle.supernode_tree.specs.Reads.{head_of, clique_of}
use Rattle.layout.specs.Problems.Patterns.{read_cliques}
use lib.Dec.{eqb}
use lib.ListN.{drop}
use mathlib.Core.Path.{◌≡◌, refl, sym, ap, ◌∙◌}
use mathlib.Core.Bool.{Bool, true, false, not, ◌&&◌}
use Prim.Native.Nat.{ℕ, suc, ◌+◌, ◌-◌}
use native.Mathlib.Omega.{arith}
use Rattle.check_cliques.proofs.tree_right.Goals as goal
use Rattle.check_cliques.proofs.tree_right.Goals.{After-parent_right}

-- the test of the cliques from here on is that of this clique and of those after it
stepped : (c : After-parent_right) → let ws = c.args.words.now in
    let k = c.here-p.result.clique_count in
    let x = tree_read k 0 (read_cliques k (drop c.here-p.result.cliques ws)) in
    (c.parent_right.result ≡ false → x ≡ false)
    × (c.parent_right.result ≡ true → x ≡ tree_read k (c.loop-c.c + 1) (read_cliques (k - (c.loop-c.c + 1)) (drop c.here-q.result.next ws)))
stepped c =
    let ws = c.args.words.now in
    let k = c.here-p.result.clique_count in
    let i = c.loop-c.c in
    let at = c.loop-c.next in
    let q = c.here-q.result in
    let j : ℕ = k - (i + 1) in
    let e : k - i ≡ suc j = omega arith in
    let n : suc i ≡ i + 1 = omega arith in
    and_cases c.parent_right.result (tree_read k (i + 1) (read_cliques j (drop q.next ws))) _
    (c.loop-c.invariant.1 ∙ ap (λ (m : ℕ). tree_read k i (read_cliques m (drop at ws))) e
    ∙ tree-step k i j (drop at ws) (drop q.next ws) (clique_of ws q) (sym c.here-q.ensures.result_value)
    ∙ ap (λ (b : Bool). b && tree_read k (suc i) (read_cliques j (drop q.next ws)))
    (ap (parent_ok k i q.parent) (separator-size ws at q c.here-q.ensures.clique_inside) ∙ sym c.parent_right.ensures)
    ∙ ap (λ (m : ℕ). c.parent_right.result && tree_read k m (read_cliques j (drop q.next ws))) n)

pub here-q-requires : goal.here-q-requires
here-q-requires c = first-whole c.args.words.now c.loop-c.next (c.here-p.result.clique_count - c.loop-c.c) (omega arith) c.loop-c.invariant.0

pub returns-then-not-parent_right : goal.returns-then-not-parent_right
returns-then-not-parent_right c =
    let ws = c.args.words.now in
    let k = c.here-p.result.clique_count in
    sym (tree_start ws c.args.at (head_of ws c.here-p.result) _ (sym c.here-p.ensures.result_value)
    ∙ ap (λ (b : Bool). not (eqb k 0) && b) ((stepped (goal.at.returns-then-not-parent_right c).After-parent_right).0 c.if-not-parent_right.true) ∙ and_right (not (eqb k 0)) false refl)

pub loop-c-preserved : goal.loop-c-preserved
loop-c-preserved c =
    let left = c.here-p.result.clique_count - c.loop-c.c in
    let e : left - 1 ≡ c.here-p.result.clique_count - (c.loop-c.c + 1) = omega arith in (
      rw e at (sym (whole-next c.args.words.now c.loop-c.next left _ c.here-q.ensures.result_value (omega arith) c.here-q.result refl) ∙ c.loop-c.invariant.0),
      (stepped (goal.at.loop-c-preserved c).After-parent_right).1 c.if-not-parent_right.false,
    )

pub returns : goal.returns
returns c =
    let ws = c.args.words.now in
    let k = c.here-p.result.clique_count in
    let e : k - c.loop-c.c ≡ 0 = omega arith in
    tree-done k _ (c.loop-c.invariant.1 ∙ ap (λ (j : ℕ). tree_read k c.loop-c.c (read_cliques j (drop c.loop-c.next ws))) e)
    ∙ sym (tree_start ws c.args.at (head_of ws c.here-p.result) _ (sym c.here-p.ensures.result_value))
