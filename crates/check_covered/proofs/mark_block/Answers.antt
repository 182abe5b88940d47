use Prim.Native.Nat.{ℕ}
use mathlib.Core.Bool.{true}
use mathlib.Core.Path.{◌≡◌, refl, ap, sym, ◌∙◌}
use mathlib.Core.List.{List, map}
use lib.ListN.{length}
use Rattle.layout.specs.Rows.Blocks.{pair_row}
use Rattle.rows_blocks.specs.Columns.{column_pairs}
use Rattle.rows_blocks.proofs.Columns.{columns_below, columns_more}
use Rattle.rows_blocks.specs.Vertices.{marked}
use Rattle.rows_blocks.proofs.Laws.{marked_append}
use native.Mathlib.Omega.{arith}
use Rattle.check_covered.proofs.mark_block.Goals as goal

pub loop-j-init : goal.loop-j-init
unfolding marked
loop-j-init c = refl

pub mark_column-requires : goal.mark_column-requires
mark_column-requires c =
    record { j_in_bounds = (c.loop-j-test.true, c.requires.0); block_fits = (c.requires.1 c.loop-j.j c.loop-j-test.true, rw c.loop-j.auto.covered (c.requires.2 c.loop-j.j c.loop-j-test.true)) }

pub loop-j-preserved : goal.loop-j-preserved
loop-j-preserved c =
    let a = c.args in
    let f = pair_row a.base in
    let vs = a.vertices.now in
    c.mark_column.ensures ∙ ap (marked true (map f (column_pairs vs c.loop-j.j))) c.loop-j.invariant
    ∙ sym (marked_append true (columns_below f vs c.loop-j.j) (map f (column_pairs vs c.loop-j.j)) a.covered.now)
    ∙ ap (λ (os : List ℕ). marked true os a.covered.now) (sym (columns_more f vs c.loop-j.j))

pub returns : goal.returns
returns c =
    let a = c.args in
    let e : c.loop-j.j ≡ length a.vertices.now = omega arith in
    c.loop-j.invariant ∙ ap (λ (n : ℕ). marked true (columns_below (pair_row a.base) a.vertices.now n) a.covered.now) e
