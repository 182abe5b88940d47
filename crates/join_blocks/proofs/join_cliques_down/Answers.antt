use Rattle.std.proofs.Common.{ℕ, suc, List, ◌∷◌, ◌++◌, ◌+◌, ◌-◌, ◌≡◌, ◌<◌, length, get_or, take, drop, map, false, sym, ap, subst, ◌∙◌, arith}
use native.Mathlib.Numerals.{add-one}
use mathlib.Core.Path.{ap₂}
use mathlib.Core.List.{reverse}
use lib.ListN.{length-reverse}
use lib.Seq.{drop-cons}
use Rattle.layout.specs.General.Lists.{join}
use Rattle.rows_blocks.specs.Cliques.{rows_here}
use Rattle.reverse_standard.specs.Routes.{Starts}
use Rattle.join_blocks.specs.Joins.{block_rows_of}
use Rattle.join_blocks.proofs.Laws.{BlockFits, BlockJoined, length-block, block-fits, block-left, reverse-at}
use Rattle.join_blocks.proofs.join_cliques_down.Goals as goal
use Rattle.join_blocks.proofs.join_cliques_down.Goals.{In-loop-i, After-clique_vertices-k}

-- the map's entries after the next block's
next-starts : (entries : List ℕ) (entry i t r n : ℕ) (ns : List ℕ) → Starts false entries (entry + i) t (n ∷ ns) → r ≡ t + n → Starts false entries (entry + (i + 1)) r ns
next-starts entries entry i t r n ns h e =
    let k : suc (entry + i) ≡ entry + (i + 1) = omega arith in
    subst (λ (j : ℕ). Starts false entries j r ns) k (subst (λ (q : ℕ). Starts false entries (suc (entry + i)) q ns) (sym e) h.2)

-- the next offset from the end, and those before it
first_of : (os : List ℕ) (i : ℕ) → i < length os → drop i (reverse os) ≡ get_or os (length os - 1 - i) 0 ∷ drop (i + 1) (reverse os)
first_of os i h =
    drop-cons (reverse os) i 0 (omega (arith, length-reverse os))
    ∙ ap₂ {C = List ℕ} (λ o n. o ∷ drop n (reverse os)) (reverse-at os i h) (sym (add-one i))

-- ---- one turn of the loop

-- the map entry of the next block has the index of the first value
module _ (c : In-loop-i) where
  abbrev sizes : List ℕ → List ℕ
  sizes os = map (λ (o : ℕ). length (rows_here 0 c.args.words.now c.args.ordering.now o)) os

  told : Starts false c.args.map.now (c.args.entry + c.loop-i.i) c.loop-i.t
      (sizes (get_or c.args.offsets.now (length c.args.offsets.now - 1 - c.loop-i.i) 0 ∷ drop (c.loop-i.i + 1) (reverse c.args.offsets.now)))
  told =
      subst (λ (os : List ℕ). Starts false c.args.map.now (c.args.entry + c.loop-i.i) c.loop-i.t (sizes os)) (first_of c.args.offsets.now c.loop-i.i c.loop-i-test.true)
      c.loop-i.invariant.0

-- after writing the vertices of the clique
module _ (c : After-clique_vertices-k) where
  abbrev found : List ℕ
  found = take c.clique_vertices-k.result c.clique_vertices-k.new.out

  abbrev next : ℕ
  next = get_or c.args.offsets.now (length c.args.offsets.now - 1 - c.loop-i.i) 0

  abbrev rows_at : ℕ → List ℕ
  rows_at = rows_here 0 c.args.words.now c.args.ordering.now

  abbrev others : List ℕ
  others = join rows_at (drop (c.loop-i.i + 1) (reverse c.args.offsets.now))

  block_is : rows_at next ≡ block_rows_of found
  unfolding rows_here
  block_is = ap block_rows_of (sym c.clique_vertices-k.ensures.out_after)

  more : join rows_at (drop c.loop-i.i (reverse c.args.offsets.now)) ≡ block_rows_of found ++ others
  more = ap (join rows_at) (first_of c.args.offsets.now c.loop-i.i c.loop-i-test.true) ∙ ap (λ (os : List ℕ). os ++ others) block_is

  fits : c.block_start-start.result ≡ c.loop-i.t → BlockFits false found c.block_start-start.result c.args.s.now c.args.z.now c.loop-i.s_out c.loop-i.z_out c.loop-i.counts
  fits began =
      let a = c.args in
      let l = c.loop-i in
      subst (λ (n : ℕ). BlockFits false found n a.s.now a.z.now l.s_out l.z_out l.counts) (sym began)
      (block-fits false a.s.now a.z.now a.first (join rows_at (reverse a.offsets.now)) a.s_out.now a.z_out.now a.counts.now l.t
      (join rows_at (drop l.i (reverse a.offsets.now))) l.s_out l.z_out l.counts
      l.invariant.1 a.words.now a.ordering.now next found others c.clique_vertices-k.ensures.out_after more
      c.requires.offsets_in_bounds.0 c.requires.offsets_in_bounds.1 c.requires.ordering_in_bounds)

pub block_start-start-requires : goal.block_start-start-requires
block_start-start-requires c = (told (goal.at.block_start-start-requires c).In-loop-i).0

pub join_block-t-requires-clause-t : goal.join_block-t-requires-clause-t
join_block-t-requires-clause-t c =
    let i = (goal.at.join_block-t-requires-clause-t c).In-loop-i in
    (fits (goal.at.join_block-t-requires-clause-t c).After-clique_vertices-k (c.block_start-start.ensures ∙ (told i).1)).0

pub join_block-t-requires-clause-vertices_in_bounds : goal.join_block-t-requires-clause-vertices_in_bounds
join_block-t-requires-clause-vertices_in_bounds c =
    let i = (goal.at.join_block-t-requires-clause-vertices_in_bounds c).In-loop-i in
    (fits (goal.at.join_block-t-requires-clause-vertices_in_bounds c).After-clique_vertices-k (c.block_start-start.ensures ∙ (told i).1)).1.0

pub loop-i-preserved : goal.loop-i-preserved
loop-i-preserved c =
    let i = (goal.at.loop-i-preserved c).In-loop-i in
    let v = (goal.at.loop-i-preserved c).After-clique_vertices-k in
    let a = c.args in
    let l = c.loop-i in
    let w = c.join_block-t in
    let order : List ℕ = reverse a.offsets.now in
    let began : c.block_start-start.result ≡ l.t = c.block_start-start.ensures ∙ (told i).1 in
    let joined : BlockJoined false (found v) l.t a.s.now a.z.now l.s_out l.z_out l.counts w.result w.new.s_out w.new.z_out w.new.counts =
    subst (λ (n : ℕ). BlockJoined false (found v) n a.s.now a.z.now l.s_out l.z_out l.counts w.result w.new.s_out w.new.z_out w.new.counts) began
    (w.ensures.value, (w.ensures.s_out_after, (w.ensures.z_out_after, w.ensures.counts))) in (
      next-starts a.map.now a.entry l.i l.t w.result (length (rows_at v (next v))) (sizes i (drop (l.i + 1) order)) (told i)
          (joined.0 ∙ ap (λ (n : ℕ). l.t + n) (sym (ap length (block_is v) ∙ length-block (found v)))),
      block-left false a.s.now a.z.now a.first (join (rows_at v) order) a.s_out.now a.z_out.now a.counts.now l.t (join (rows_at v) (drop l.i order)) l.s_out l.z_out l.counts
          l.invariant.1 a.words.now a.ordering.now (next v) (found v) (others v) c.clique_vertices-k.ensures.out_after (more v)
          w.result w.new.s_out w.new.z_out w.new.counts w.auto.s_out w.auto.z_out w.auto.counts joined,
    )
