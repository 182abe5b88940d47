use Rattle.std.proofs.Common.{ℕ, suc, List, ◌+◌, ◌-◌, ◌≤◌, length, map, sym, ap, ◌∙◌, arith}
use Rattle.layout.specs.General.Lists.{written}
use Rattle.layout.proofs.Numbers.Triangles.{triangle-suc, triangle_mono}
use Rattle.layout.proofs.Lists.Buffers.{written_next}
use Rattle.rows_blocks.specs.Columns.{column_pairs}
use Rattle.rows_blocks.proofs.Columns.{columns_below, columns_more, length_more, length-column}
use Rattle.rows_parent.specs.Places.{place_code}
use Rattle.rows_parent.proofs.code_block.Goals as goal

pub loop-j-preserved : goal.loop-j-preserved
loop-j-preserved c =
    let a = c.args in
    let f = place_code a.places.now a.base a.start in
    let vs = a.vertices.now in
    let j = c.loop-j.j in
    let t = c.loop-j.t in
    let call = c.tied_column in
    let fits : t + (j + 1) ≤ length c.loop-j.out =
    omega (arith, triangle-suc j, triangle_mono (suc j) (length vs) c.loop-j-test.true, c.requires.start_bound.2) in (
      omega (arith, triangle-suc j),
      omega (arith, length_more f vs j),
      written_next (columns_below f vs j) (map f (column_pairs vs j)) a.out.now c.loop-j.out call.new.out t (length c.loop-j.out - t) c.loop-j.invariant.1 c.loop-j.invariant.2
          (omega (arith, length-column f vs j)) (omega arith) call.ensures
          ∙ ap (λ (xs : List ℕ). written xs a.out.now) (sym (columns_more f vs j)),
    )
