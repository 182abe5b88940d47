use Rattle.std.proofs.Common.{ℕ, suc, List, ◌∷◌, ◌++◌, ◌+◌, ◌-◌, ◌≡◌, take, true, refl, sym, ap, subst, ◌∙◌, arith}
use Rattle.layout.specs.Problems.Patterns.{Clique, no_clique}
use Rattle.supernode_tree.specs.Reads.{value_or, clique_here, cliques_from}
use Rattle.supernode_tree.proofs.Cliques.{first-whole, whole-next, from_next}
use Rattle.rows_blocks.specs.Cliques.{vertices_here}
use Rattle.join_blocks.specs.Joins.{block_rows_of, rows_up, AllSortable}
use Rattle.join_blocks.proofs.Laws.{BlockFits, block-fits, block-left}
use Rattle.join_blocks.proofs.join_cliques_up.Goals as goal
use Rattle.join_blocks.proofs.join_cliques_up.Goals.{After-here-q, After-clique_vertices-k}

-- after reading a clique
module _ (c : After-here-q) where
  abbrev left : ℕ
  left = c.args.count - c.loop.counter

  abbrev others : List Clique
  others = cliques_from c.args.words.now c.here-q.result.next (left - 1)

  first_of : cliques_from c.args.words.now c.loop.at left ≡ clique_here c.args.words.now c.loop.at ∷ others
  first_of =
      from_next c.args.words.now c.loop.at left _ c.here-q.ensures.result_value (omega arith) c.here-q.result refl c.loop.invariant.0
      ∙ ap (λ (q : Clique). q ∷ others) (ap (value_or no_clique) c.here-q.ensures.result_value)

  all-sortable : AllSortable c.args.ordering.now (clique_here c.args.words.now c.loop.at ∷ others)
  all-sortable = subst (AllSortable c.args.ordering.now) first_of c.loop.invariant.1

-- after writing its vertices
module _ (c : After-clique_vertices-k) (o : List Clique) where
  abbrev found : List ℕ
  found = take c.clique_vertices-k.result c.clique_vertices-k.new.out

  more : cliques_from c.args.words.now c.loop.at (c.args.count - c.loop.counter) ≡ clique_here c.args.words.now c.loop.at ∷ o
      → rows_up c.args.ordering.now (cliques_from c.args.words.now c.loop.at (c.args.count - c.loop.counter)) ≡ block_rows_of found ++ rows_up c.args.ordering.now o
  unfolding vertices_here
  more f =
      ap (rows_up c.args.ordering.now) f
      ∙ ap (λ (vs : List ℕ). block_rows_of vs ++ rows_up c.args.ordering.now o) (sym c.clique_vertices-k.ensures.out_after)

  fits : cliques_from c.args.words.now c.loop.at (c.args.count - c.loop.counter) ≡ clique_here c.args.words.now c.loop.at ∷ o
      → BlockFits true found c.loop.t c.args.s.now c.args.z.now c.loop.s_out c.loop.z_out c.loop.counts
  fits f =
      let a = c.args in
      block-fits true a.s.now a.z.now a.first (rows_up a.ordering.now (cliques_from a.words.now a.cliques a.count)) a.s_out.now a.z_out.now a.counts.now c.loop.t
      (rows_up a.ordering.now (cliques_from a.words.now c.loop.at (a.count - c.loop.counter))) c.loop.s_out c.loop.z_out c.loop.counts
      c.loop.invariant.2 a.words.now a.ordering.now c.loop.at found (rows_up a.ordering.now o) c.clique_vertices-k.ensures.out_after (more f)
      c.requires.count_in_bounds.0 c.requires.count_in_bounds.1 c.requires.ordering_in_bounds

pub here-q-requires : goal.here-q-requires
here-q-requires c = first-whole c.args.words.now c.loop.at (c.args.count - c.loop.counter) (omega arith) c.loop.invariant.0

pub clique_vertices-k-requires-clause-sortable_clique : goal.clique_vertices-k-requires-clause-sortable_clique
clique_vertices-k-requires-clause-sortable_clique c = record {
  found = first-whole c.args.words.now c.loop.at (c.args.count - c.loop.counter) (omega arith) c.loop.invariant.0;
  sortable = all-sortable (goal.at.clique_vertices-k-requires-clause-sortable_clique c).After-here-q 0 (omega arith);
}

pub join_block-t-requires-clause-t : goal.join_block-t-requires-clause-t
join_block-t-requires-clause-t c =
    let h = (goal.at.join_block-t-requires-clause-t c).After-here-q in
    (fits (goal.at.join_block-t-requires-clause-t c).After-clique_vertices-k (others h) (first_of h)).0

pub join_block-t-requires-clause-vertices_in_bounds : goal.join_block-t-requires-clause-vertices_in_bounds
join_block-t-requires-clause-vertices_in_bounds c =
    let h = (goal.at.join_block-t-requires-clause-vertices_in_bounds c).After-here-q in
    (fits (goal.at.join_block-t-requires-clause-vertices_in_bounds c).After-clique_vertices-k (others h) (first_of h)).1.0

pub join_block-t-requires-clause-countable : goal.join_block-t-requires-clause-countable
join_block-t-requires-clause-countable c =
    let h = (goal.at.join_block-t-requires-clause-countable c).After-here-q in
    (fits (goal.at.join_block-t-requires-clause-countable c).After-clique_vertices-k (others h) (first_of h)).1.1.1

pub loop-preserved : goal.loop-preserved
loop-preserved c =
    let h = (goal.at.loop-preserved c).After-here-q in
    let v = (goal.at.loop-preserved c).After-clique_vertices-k in
    let a = c.args in
    let ws = a.words.now in
    let l = c.loop in
    let w = c.join_block-t in
    let e : a.count - (l.counter + 1) ≡ left h - 1 = omega arith in
    rw e (
      sym (whole-next ws l.at (left h) _ c.here-q.ensures.result_value (omega arith) c.here-q.result refl) ∙ l.invariant.0,
      (λ k m. all-sortable h (suc k) (omega arith)),
      block-left true a.s.now a.z.now a.first (rows_up a.ordering.now (cliques_from ws a.cliques a.count)) a.s_out.now a.z_out.now a.counts.now l.t
          (rows_up a.ordering.now (cliques_from ws l.at (left h))) l.s_out l.z_out l.counts
          l.invariant.2 ws a.ordering.now l.at (found v (others h)) (rows_up a.ordering.now (others h)) c.clique_vertices-k.ensures.out_after (more v (others h) (first_of h))
          w.result w.new.s_out w.new.z_out w.new.counts w.auto.s_out w.auto.z_out w.auto.counts
          (w.ensures.value, (w.ensures.s_out_after, (w.ensures.z_out_after, w.ensures.counts))),
    )
