use mathlib.Core.Path.{◌≡◌, sym, ◌∙◌}
use mathlib.Core.Bool.{true}
use borrow.Author.Tests.{not-true, not-false}
use Rattle.layout.specs.Checks.{starts_right, rows_in_order}
use Rattle.layout.specs.Files.FileWords.{unvalued}
use Rattle.csc.specs.Matrix.{matrix}
use Rattle.csc.proofs.Compressed.{columns_inside}
use Rattle.layout.proofs.Lists.Tests.{passes}
use Rattle.check_problem.proofs.check_matrices.Statement.{statement}
use Rattle.check_problem.proofs.check_matrices.Tie as tie

starts-right-requires : tie.Need-starts_right-requires
starts-right-requires c κs = tt

returns : tie.Need-returns-then-not-starts_right
returns c = rw (sym c.starts_right.ensures ∙ not-true _ c.if-not-starts_right.true-raw)

starts_of_a : (c : tie.Else-not-starts_right) → let s = c.before.before.before.before.before.before in
    starts_right s.args.n (matrix s.args.a_starts.now s.args.a_rows.now (unvalued s.args.a_entries)) ≡ true
starts_of_a c = sym c.starts_right.ensures ∙ not-false _ c.if-not-starts_right.false-raw

starts-right-requires-2 : tie.Need-starts_right-requires-2
starts-right-requires-2 c κs = tt

returns-2 : tie.Need-returns-then-not-starts_right-2
returns-2 c = rw (starts_of_a c.before.before, sym c.starts_right-2.ensures ∙ not-true _ c.if-not-starts_right-2.true-raw)

starts_of_p : (c : tie.Else-not-starts_right-2) → let s = c.before.before.before.before.before.before.before.before in
    starts_right s.args.n (matrix s.args.p_starts.now s.args.p_rows.now (unvalued s.args.p_entries)) ≡ true
starts_of_p c = sym c.starts_right-2.ensures ∙ not-false _ c.if-not-starts_right-2.false-raw

rows-in-order-requires : tie.Need-rows_in_order-requires
rows-in-order-requires c κs =
    let s = c.before.before.before.before.before.before.before.before in
    columns_inside s.args.n (matrix s.args.a_starts.now s.args.a_rows.now (unvalued s.args.a_entries)) (passes _ (starts_of_a c.before.before))

returns-3 : tie.Need-returns-then-not-rows_in_order
returns-3 c = rw (starts_of_a c.before.before.before.before, starts_of_p c.before.before, sym c.rows_in_order.ensures ∙ not-true _ c.if-not-rows_in_order.true-raw)

rows_of_a : (c : tie.Else-not-rows_in_order) → let s = c.before.before.before.before.before.before.before.before.before.before in
    rows_in_order s.args.m s.args.n (matrix s.args.a_starts.now s.args.a_rows.now (unvalued s.args.a_entries)) ≡ true
rows_of_a c = sym c.rows_in_order.ensures ∙ not-false _ c.if-not-rows_in_order.false-raw

rows-right-requires : tie.Need-rows_right-requires
rows-right-requires c κs =
    let s = c.before.before.before.before.before.before.before.before.before.before in
    columns_inside s.args.n (matrix s.args.p_starts.now s.args.p_rows.now (unvalued s.args.p_entries)) (passes _ (starts_of_p c.before.before))

returns-4 : tie.Need-returns-then-not-rows_right
returns-4 c = rw (starts_of_a c.before.before.before.before.before.before, starts_of_p c.before.before.before.before, rows_of_a c.before.before, sym c.rows_right.ensures ∙ not-true _ c.if-not-rows_right.true-raw)

returns-5 : tie.Need-returns
returns-5 c = rw (starts_of_a c.before.before.before.before.before.before, starts_of_p c.before.before.before.before, rows_of_a c.before.before, sym c.rows_right.ensures ∙ not-false _ c.if-not-rows_right.false-raw)

pub check_matrices_spec : {M : Type 1} → statement M
check_matrices_spec =
    tie.close
    (tie.spec
    starts-right-requires
    returns
    starts-right-requires-2
    returns-2
    rows-in-order-requires
    returns-3
    rows-right-requires
    returns-4
    returns-5)
