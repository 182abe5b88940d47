use mathlib.Core.Bool.{false}
use mathlib.Core.Path.{sym, ap, subst, ◌∙◌}
use mathlib.Core.List.{List}
use Prim.Native.Nat.{ℕ}
use Rattle.layout.specs.Problems.Patterns.{Clique, no_clique}
use Rattle.layout.proofs.Lists.Tests.{and-true}
use Rattle.supernode_tree.specs.Reads.{value_or}
use Rattle.supernode_tree.proofs.Cliques.{snode-part}
use Rattle.check_patterns.specs.Accepted.{AddsOnce}
use Rattle.check_patterns.proofs.snode_holds.Goals as goal

pub returns : goal.returns
returns c =
    let s = c.args in
    let h = c.here-q in
    let part = snode-part s.words.now s.at h.result h.ensures.clique_inside ∙ ap (λ (r : Clique). r.snode) (ap (value_or no_clique) h.ensures.result_value) in
    λ met m.
    let met-too = subst (λ (us : List ℕ). AddsOnce false s.p.vertex_count s.marks.now us c.mark_all.new.marks c.mark_all.result) part c.mark_all.ensures met m in
    (met-too.0 ∙ sym (and-true _ _ (sym c.clique_holds.ensures ∙ c.if-not-clique_holds.false)), met-too.1)
