use Prim.Native.Nat.{ℕ, ◌+◌}
use mathlib.Core.Bool.{true}
use mathlib.Core.Path.{ap, sym, ◌∙◌}
use mathlib.Core.List.{map}
use lib.ListN.{get_or, drop, set}
use Rattle.layout.specs.Rows.Blocks.{pair_row}
use Rattle.rows_blocks.specs.Columns.{column_pairs}
use Rattle.rows_blocks.proofs.Columns.{rises-le, length-column, row-at}
use Rattle.rows_blocks.specs.Vertices.{marked}
use Rattle.rows_blocks.proofs.Laws.{marked_step, marked-done}
use native.Mathlib.Omega.{arith}
use Rattle.check_covered.proofs.mark_column.Goals as goal

pub overflow_add-row : goal.overflow_add-row
overflow_add-row c = omega (arith, c.triangular_number.ensures)

pub overflow_add-covered : goal.overflow_add-covered
overflow_add-covered c =
    let a = c.args in
    omega (arith, c.triangular_number.ensures, rises-le a.vertices.now c.loop-i.i a.j c.requires.j_in_bounds.1 (omega arith) c.requires.j_in_bounds.0)

pub bounds-covered-row : goal.bounds-covered-row
bounds-covered-row c =
    let a = c.args in
    omega (arith, c.triangular_number.ensures, rises-le a.vertices.now c.loop-i.i a.j c.requires.j_in_bounds.1 (omega arith) c.requires.j_in_bounds.0)

pub loop-i-preserved : goal.loop-i-preserved
loop-i-preserved c =
    let a = c.args in
    let os = map (pair_row a.base) (column_pairs a.vertices.now a.j) in
    let i = c.loop-i.i in
    ap (λ (o : ℕ). marked true (drop (i + 1) os) (set c.loop-i.covered o true))
    (ap (λ (n : ℕ). a.base + n + get_or a.vertices.now i 0) c.triangular_number.ensures
    ∙ sym (row-at a.base a.vertices.now a.j i c.requires.j_in_bounds.1 (omega arith) c.requires.j_in_bounds.0))
    ∙ sym (marked_step true os c.loop-i.covered i (omega (arith, length-column (pair_row a.base) a.vertices.now a.j))) ∙ c.loop-i.invariant

pub returns : goal.returns
returns c =
    let a = c.args in
    sym (marked-done true (map (pair_row a.base) (column_pairs a.vertices.now a.j)) c.loop-i.covered c.loop-i.i
    (omega (arith, length-column (pair_row a.base) a.vertices.now a.j))) ∙ c.loop-i.invariant
