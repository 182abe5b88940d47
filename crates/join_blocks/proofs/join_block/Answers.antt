use Rattle.std.proofs.Common.{ℕ, suc, List, ◌+◌, ◌++◌, ◌≡◌, ◌≤◌, length, sym, subst, arith}
use Rattle.layout.specs.General.Triangle.{triangle}
use Rattle.layout.specs.Rows.Blocks.{pair_row}
use Rattle.layout.specs.Joinings.Reverse.{add_at}
use Rattle.layout.proofs.Numbers.Triangles.{triangle-suc, triangle_mono}
use Rattle.rows_blocks.proofs.Columns.{columns_below, columns_more, length_more}
use Rattle.join_blocks.specs.Joins.{z_at, Countable, block_column_rows}
use Rattle.join_blocks.proofs.Laws.{walk-joined, counts-joined, countable_left}
use Rattle.join_blocks.proofs.join_block.Goals as goal

pub join_column-requires-clause-countable : goal.join_column-requires-clause-countable
join_column-requires-clause-countable c =
    let a = c.args in
    let vs = a.vertices.now in
    let l = c.loop-j in
    let done : List ℕ = columns_below (pair_row 0) vs l.j in
    let fits : length done + suc l.j ≤ triangle (length vs) =
    omega (arith, triangle-suc l.j, triangle_mono (suc l.j) (length vs) c.loop-j-test.true, l.invariant.0, l.invariant.1) in
    subst (λ (n : ℕ). Countable a.standard n (suc l.j) l.counts) (sym l.auto.s_out)
    (countable_left a.standard (length a.s_out.now) (triangle (length vs)) (suc l.j) done a.counts.now l.counts l.auto.counts fits l.invariant.4 c.requires.countable)

pub loop-j-preserved : goal.loop-j-preserved
loop-j-preserved c =
    let a = c.args in
    let vs = a.vertices.now in
    let l = c.loop-j in
    let w = c.join_column in
    let done : List ℕ = columns_below (pair_row 0) vs l.j in
    let column : List ℕ = block_column_rows vs l.j in
    let next : List ℕ = columns_below (pair_row 0) vs (l.j + 1) in
    let more : done ++ column ≡ next = sym (columns_more (pair_row 0) vs l.j) in (
      omega (arith, triangle-suc l.j, l.invariant.0),
      omega (arith, length_more (pair_row 0) vs l.j, l.invariant.1),
      walk-joined add_at done column next a.s.now a.s_out.now a.first l.t w.ensures.s_out_after l.invariant.2 l.invariant.1 more,
      walk-joined (z_at a.standard) done column next a.z.now a.z_out.now a.first l.t w.ensures.z_out_after l.invariant.3 l.invariant.1 more,
      counts-joined a.standard done column next a.counts.now l.counts w.new.counts w.auto.counts l.invariant.4 w.ensures.counts more,
    )
