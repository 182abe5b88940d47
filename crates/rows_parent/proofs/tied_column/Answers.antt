use Rattle.std.proofs.Common.{ℕ, List, ◌+◌, ◌-◌, get_or, map, ap, ◌∙◌, arith}
use mathlib.Core.Path.{ap₂}
use Rattle.layout.specs.General.Lists.{written}
use Rattle.rows_blocks.specs.Columns.{column_pairs}
use Rattle.rows_parent.specs.Places.{tied_entry}
use Rattle.rows_parent.proofs.Places.{own-column, tied_column_lem}
use Rattle.rows_parent.proofs.tied_column.Goals as goal

pub returns-then-noted-eq0 : goal.returns-then-noted-eq0
returns-then-noted-eq0 c =
    let a = c.args in
    c.row_column.ensures
    ∙ ap (λ (xs : List ℕ). written xs a.out.now)
    (own-column a.places.now a.vertices.now a.base a.start a.j c.requires.j_in_bounds.2 c.requires.j_in_bounds.0 c.if-noted-eq0.true)

pub returns : goal.returns
returns c =
    let a = c.args in
    let vs = a.vertices.now in
    c.tied_entries.ensures
    ∙ ap (λ (xs : List ℕ). written xs a.out.now)
    (ap₂ (λ (n m : ℕ). map (tied_entry a.places.now (a.base + n) (65536 + a.start + m)) (column_pairs vs a.j)) c.triangular_number.ensures c.triangular_number-2.ensures
    ∙ tied_column_lem a.places.now vs a.base a.start a.j c.requires.j_in_bounds.2 c.requires.j_in_bounds.0 c.requires.j_bound.2
    (get_or a.places.now (get_or vs a.j 0) 0 - 1) (omega (arith, c.if-noted-eq0.false)))
