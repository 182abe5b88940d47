use Prim.Native.Nat.{ℕ, ◌+◌, ◌-◌}
use native.Mathlib.Omega.{arith}
use mathlib.Core.Bool.{Bool}
use mathlib.Core.Path.{◌≡◌, refl, sym, ap, ◌∙◌}
use mathlib.Core.List.{List}
use lib.ListN.{get_or, take, drop}
use Rattle.layout.specs.Problems.Patterns.{Clique, no_clique, members}
use Rattle.supernode_tree.specs.Reads.{cliques_from, clique_of}
use Rattle.supernode_tree.proofs.Cliques.{first-whole, whole-next, separator-part, clique_stops, clique_goes}
use Rattle.check_members.specs.OnceIn.{once_below_in}
use Rattle.check_cliques.specs.Trees.{separator_below}
use Rattle.check_cliques.proofs.separators_by.Goals as goal
use Rattle.check_cliques.proofs.separators_by.Goals.{After-separator_right}

-- the test of a clique's separator
abbrev right : After-separator_right → Clique → Bool
right c q = separator_below c.args.p.vertex_count (cliques_from c.args.words.now c.args.p.cliques c.args.p.clique_count) q.parent q.separator

-- the result for the separator of the clique just read
looked : (c : After-separator_right) → c.separator_right.result ≡ right c (clique_of c.args.words.now c.here-q.result)
looked c =
    let ws = c.args.words.now in
    let p = c.args.p in
    let q = c.here-q.result in
    c.separator_right.ensures
    ∙ ap (λ (ms : List ℕ). once_below_in p.vertex_count ms (take (q.next - q.separator) (drop q.separator ws))) c.members_by-m.ensures.0
    ∙ ap (once_below_in p.vertex_count (members (get_or (cliques_from ws p.cliques p.clique_count) q.parent no_clique))) (separator-part ws c.loop.at q c.here-q.ensures.clique_inside)

pub here-q-requires : goal.here-q-requires
here-q-requires c = first-whole c.args.words.now c.loop.at (c.args.p.clique_count - c.loop.counter) (omega arith) c.loop.invariant.0

pub returns-then-not-separator_right : goal.returns-then-not-separator_right
returns-then-not-separator_right c =
    let t = (goal.at.returns-then-not-separator_right c).After-separator_right in
    sym (clique_stops c.args.words.now c.loop.at (c.args.p.clique_count - c.loop.counter) _ c.here-q.ensures.result_value (omega arith) c.here-q.result refl c.loop.invariant.0 (right t) _ _
    c.loop.invariant.1 (looked t) c.if-not-separator_right.true)

pub loop-preserved : goal.loop-preserved
loop-preserved c =
    let ws = c.args.words.now in
    let t = (goal.at.loop-preserved c).After-separator_right in
    let left = c.args.p.clique_count - c.loop.counter in
    let e : c.args.p.clique_count - (c.loop.counter + 1) ≡ left - 1 = omega arith in
    rw e (
      sym (whole-next ws c.loop.at left _ c.here-q.ensures.result_value (omega arith) c.here-q.result refl) ∙ c.loop.invariant.0,
      clique_goes ws c.loop.at left _ c.here-q.ensures.result_value (omega arith) c.here-q.result refl c.loop.invariant.0 (right t) _ _ c.loop.invariant.1 (looked t) c.if-not-separator_right.false,
    )
