use Rattle.std.proofs.Common.{◌≡◌, ◌+◌, ◌≤◌, get_or, map, sym, ◌∙◌, arith}
use lib.Seq.{length-take-le, get_or-take}
use Rattle.layout.proofs.Lists.Buffers.{copy_more, copy_done}
use Rattle.rows_blocks.specs.Columns.{column_pairs}
use Rattle.rows_blocks.proofs.Columns.{rises-le, length-column, column-at}
use Rattle.rows_parent.specs.Places.{tied_entry}
use Rattle.rows_parent.proofs.tied_entries.Goals as goal

pub overflow_add-row : goal.overflow_add-row
overflow_add-row c =
    let a = c.args in
    let vs = a.vertices.now in
    let i = c.loop-i.i in
    let l : i ≤ a.j = omega (arith, length-take-le (a.j + 1) vs (omega (arith, c.requires.j_in_bounds.0))) in
    rw (get_or-take (a.j + 1) vs i 0 (omega arith)) (omega (arith, rises-le vs i a.j c.requires.j_in_bounds.2 l c.requires.j_in_bounds.0, c.requires.j_bound.0))

pub loop-i-preserved : goal.loop-i-preserved
loop-i-preserved c =
    let a = c.args in
    let vs = a.vertices.now in
    let f = tied_entry a.places.now a.row a.tied in
    let i = c.loop-i.i in
    let l : i ≤ a.j = omega (arith, length-take-le (a.j + 1) vs (omega (arith, c.requires.j_in_bounds.0))) in
    let k = length-column f vs a.j in
    let e : c.tied_row.result ≡ get_or (map f (column_pairs vs a.j)) i 0 =
    (rw (get_or-take (a.j + 1) vs i 0 (omega arith)) at c.tied_row.ensures) ∙ sym (column-at f vs a.j i l) in
    rw (c.loop-i.invariant, e) (copy_more (map f (column_pairs vs a.j)) a.out.now i 0 (omega (arith, k)) (omega (arith, k, c.requires.j_in_bounds.1)))

pub returns : goal.returns
returns c =
    let a = c.args in
    let vs = a.vertices.now in
    let f = tied_entry a.places.now a.row a.tied in
    c.loop-i.invariant
    ∙ copy_done (map f (column_pairs vs a.j)) a.out.now c.loop-i.i
    (omega (arith, length-column f vs a.j, length-take-le (a.j + 1) vs (omega (arith, c.requires.j_in_bounds.0))))
