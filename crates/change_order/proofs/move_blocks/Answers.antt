use Rattle.std.proofs.Common.{◌≡◌, ◌≤◌, ◌+◌, ◌-◌, ◌∙◌, ℕ, List, [], ◌∷◌, length, map, refl, ap, sym, arith}
use Rattle.layout.specs.General.Lists.{sum}
use Rattle.layout.specs.General.Triangle.{triangle}
use Rattle.layout.specs.Problems.Patterns.{Clique, block_size}
use Rattle.supernode_tree.specs.Reads.{cliques_from, clique_of}
use Rattle.supernode_tree.specs.Sizes.{block_at_most, dim_of}
use Rattle.supernode_tree.proofs.Cliques.{first-whole, whole-next, from_next, from-none, block_size_lem}
use Rattle.supernode_tree.proofs.Sizes.{all_cons}
use Rattle.change_order.proofs.Blocks.{first_few, begins, moves, ends}
use Rattle.change_order.proofs.move_blocks.Goals as goal
use Rattle.change_order.proofs.move_blocks.Goals.{After-here-q, After-triangular_number-k}

-- the clique just read is the first of those left, and its side is at most 256
first_of : (c : After-here-q) → let left = c.args.count - c.loop.counter in
    cliques_from c.args.words.now c.loop.at left ≡ clique_of c.args.words.now c.here-q.result ∷ cliques_from c.args.words.now c.here-q.result.next (left - 1)
first_of c =
    from_next c.args.words.now c.loop.at (c.args.count - c.loop.counter) _ c.here-q.ensures.result_value (omega arith) c.here-q.result refl c.loop.invariant.0

side : (c : After-here-q) → block_size (clique_of c.args.words.now c.here-q.result) ≡ c.here-q.result.snode_count + c.here-q.result.separator_count
side c = block_size_lem c.args.words.now c.loop.at c.here-q.result c.here-q.ensures.clique_inside

few : (c : After-here-q) → c.here-q.result.snode_count + c.here-q.result.separator_count ≤ 256
few c =
    let ws = c.args.words.now in
    let q = c.here-q.result in
    let left = c.args.count - c.loop.counter in
    first_few (clique_of ws q) (cliques_from ws q.next (left - 1)) (cliques_from ws c.loop.at left) (q.snode_count + q.separator_count) (first_of c) c.loop.invariant.1 (side c)

-- the number of its block rows, and of the rows left after it
rows : (c : After-triangular_number-k) → c.triangular_number-k.result ≡ dim_of (clique_of c.args.words.now c.here-q.result)
rows c = c.triangular_number-k.ensures ∙ ap triangle (c.get_nblk.ensures ∙ sym (side (goal.at.After-triangular_number-k c).After-here-q))

left-rows : (c : After-triangular_number-k)
    → c.triangular_number-k.result + sum (map dim_of (cliques_from c.args.words.now c.here-q.result.next (c.args.count - c.loop.counter - 1))) ≡ c.loop.to
left-rows c = omega (arith, rows c, ap (λ (cs : List Clique). sum (map dim_of cs)) (first_of (goal.at.After-triangular_number-k c).After-here-q), c.loop.invariant.2)

pub loop-init : goal.loop-init
loop-init c =
    let a = c.args in
    let ks = map dim_of (cliques_from a.words.now a.first a.count) in
    let (s_long, z_long) = c.requires.s_out_len in
    let all : a.count - 0 ≡ a.count = omega arith in
    rw all (
      c.requires.whole.0,
      c.requires.whole.1,
      c.requires.count_value.0 ∙ sym s_long,
      omega arith,
      begins ks a.s.now a.s_out.now (length a.s_out.now) s_long refl,
      begins ks a.z.now a.z_out.now (length a.s_out.now) (omega (arith, c.requires.count_value.1)) (omega arith),
    )

pub here-q-requires : goal.here-q-requires
here-q-requires c = first-whole c.args.words.now c.loop.at (c.args.count - c.loop.counter) (omega arith) c.loop.invariant.0

pub get_nblk-requires : goal.get_nblk-requires
get_nblk-requires c = omega (arith, few (goal.at.get_nblk-requires c).After-here-q)

pub overflow_cast-get_nblk : goal.overflow_cast-get_nblk
overflow_cast-get_nblk c = omega (arith, few (goal.at.overflow_cast-get_nblk c).After-here-q)

pub triangular_number-k-requires : goal.triangular_number-k-requires
triangular_number-k-requires c = omega (arith, few (goal.at.triangular_number-k-requires c).After-here-q)

pub overflow_sub-to : goal.overflow_sub-to
overflow_sub-to c = omega (arith, left-rows (goal.at.overflow_sub-to c).After-triangular_number-k)

pub move_both-requires : goal.move_both-requires
move_both-requires c =
    let left = left-rows (goal.at.move_both-requires c).After-triangular_number-k in record {
      k_in_bounds = (omega arith, omega (arith, c.requires.count_value.1));
      k_in_bounds_2 = (omega (arith, c.loop.invariant.4.0), omega (arith, c.loop.invariant.5.0, c.requires.count_value.1));
    }

pub loop-preserved : goal.loop-preserved
loop-preserved c =
    let a = c.args in
    let ws = a.words.now in
    let q = c.here-q.result in
    let n = c.triangular_number-k.result in
    let left = a.count - c.loop.counter in
    let others = cliques_from ws q.next (left - 1) in
    let ks = map dim_of others in
    let all-ks = map dim_of (cliques_from ws a.first a.count) in
    let js = map dim_of (cliques_from ws c.loop.at left) in
    let first = first_of (goal.at.loop-preserved c).After-here-q in
    let t = (goal.at.loop-preserved c).After-triangular_number-k in
    let e : js ≡ n ∷ ks = ap (map dim_of) first ∙ ap (λ (j : ℕ). j ∷ ks) (sym (rows t)) in
    let now : a.count - (c.loop.counter + 1) ≡ left - 1 = omega arith in
    rw now (
      sym (whole-next ws c.loop.at left _ c.here-q.ensures.result_value (omega arith) q refl) ∙ c.loop.invariant.0,
      (all_cons (block_at_most 256) (clique_of ws q) others _ first c.loop.invariant.1).1,
      omega (arith, left-rows t),
      omega (arith, left-rows t),
      moves n ks js all-ks a.s.now c.loop.s_out c.move_both.new.s_out c.loop.from c.loop.to e c.loop.invariant.3 (omega (arith, left-rows t))
          c.move_both.auto.s_out c.move_both.ensures.s_out_after c.loop.invariant.4,
      moves n ks js all-ks a.z.now c.loop.z_out c.move_both.new.z_out c.loop.from c.loop.to e (omega (arith, c.requires.count_value.1)) (omega (arith, left-rows t))
          c.move_both.auto.z_out c.move_both.ensures.z_out_after c.loop.invariant.5,
    )

pub returns : goal.returns
returns c =
    let a = c.args in
    let ws = a.words.now in
    let left = a.count - c.loop.counter in
    let ks = map dim_of (cliques_from ws c.loop.at left) in
    let all-ks = map dim_of (cliques_from ws a.first a.count) in
    let none : ks ≡ [] = ap (map dim_of) (from-none ws c.loop.at left (omega arith)) in
    let zero_left : c.loop.to ≡ 0 = sym c.loop.invariant.2 ∙ ap sum none in record {
      s_out_after = ends ks all-ks a.s.now c.loop.s_out c.loop.from c.loop.to none zero_left c.loop.invariant.4;
      z_out_after = ends ks all-ks a.z.now c.loop.z_out c.loop.from c.loop.to none zero_left c.loop.invariant.5;
    }
