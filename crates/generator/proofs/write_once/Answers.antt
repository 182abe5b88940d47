use Prim.Native.Nat.{ℕ, ◌+◌}
use native.Mathlib.Omega.{arith}
use mathlib.Core.Path.{◌≡◌, sym, ap, ◌∙◌}
use mathlib.Core.List.{List}
use lib.ListN.{length, take, replicate}
use lib.Seq.{length-take-le}
use Rattle.layout.specs.General.Lists.{written}
use Rattle.layout.specs.Cuts.Compact.{csc}
use Rattle.layout.specs.Calls.Generate.{drawn_columns}
use Rattle.layout.proofs.Lists.Buffers.{front_read}
use Rattle.generator.proofs.Columns.{entries-few, starts-many}
use Rattle.generator.proofs.Numbers.{rooms_enough}
use Rattle.generator.proofs.write_once.Goals as goal

-- the starts are a prefix of their table
starts_front : (s n : ℕ) (rs ws old : List ℕ) → ws ≡ written (csc (drawn_columns s rs n)).starts old → take (n + 1) ws ≡ (csc (drawn_columns s rs n)).starts
starts_front s n rs ws old e = ap (λ (i : ℕ). take i ws) (sym (starts-many s rs n)) ∙ front_read (csc (drawn_columns s rs n)).starts old e

pub overflow_cast-d : goal.overflow_cast-d
overflow_cast-d c = let a = c.args in omega (arith, entries-few a.s a.rows.now a.n, c.keep_columns-d.ensures.count_value, c.requires.w_lt_v)

pub slice_bounds-kept_rows-end : goal.slice_bounds-kept_rows-end
slice_bounds-kept_rows-end c =
    let a = c.args in omega (arith, entries-few a.s a.rows.now a.n, c.keep_columns-d.ensures.count_value, c.requires.w_lt_v, c.keep_columns-d.auto.kept_rows)

pub slice_bounds-write_kept-end : goal.slice_bounds-write_kept-end
slice_bounds-write_kept-end c =
    let a = c.args in omega (arith, length-take-le {A = ℕ}, entries-few a.s a.rows.now a.n, c.keep_columns-d.ensures.count_value, c.requires.w_lt_v, c.keep_columns-d.auto.kept_rows)

pub slice_bounds-kept-end : goal.slice_bounds-kept-end
slice_bounds-kept-end c =
    let a = c.args in omega (arith, entries-few a.s a.rows.now a.n, c.keep_columns-d.ensures.count_value, c.requires.w_lt_v, c.keep_columns-d.auto.kept)

pub slice_bounds-write_kept-end-2 : goal.slice_bounds-write_kept-end-2
slice_bounds-write_kept-end-2 c =
    let a = c.args in omega (arith, length-take-le {A = ℕ}, entries-few a.s a.rows.now a.n, c.keep_columns-d.ensures.count_value, c.requires.w_lt_v, c.keep_columns-d.auto.kept)

pub write_kept-requires : goal.write_kept-requires
write_kept-requires c =
    let a = c.args in
    let k = c.keep_columns-d.result.count in
    let few = entries-few a.s a.rows.now a.n in
    let rows : length (take k c.keep_columns-d.new.kept_rows) ≡ k =
    length-take-le k c.keep_columns-d.new.kept_rows (omega (arith, few, c.keep_columns-d.ensures.count_value, c.requires.w_lt_v, c.keep_columns-d.auto.kept_rows)) in
    let draws : length (take k c.keep_columns-d.new.kept) ≡ k =
    length-take-le k c.keep_columns-d.new.kept (omega (arith, few, c.keep_columns-d.ensures.count_value, c.requires.w_lt_v, c.keep_columns-d.auto.kept)) in
    let enough =
    rooms_enough a.v a.w a.n k a.rooms.now (length a.starts_out.now) (length a.rows_out.now) (length a.values_out.now) (length a.b_out.now) c.requires.rooms_of
    c.in_ok-check_outputs.ensures in
    (draws ∙ sym rows, omega (arith, enough), omega (arith, enough))

pub write_side-requires : goal.write_side-requires
write_side-requires c =
    let a = c.args in
    let enough =
    rooms_enough a.v a.w a.n c.keep_columns-d.result.count a.rooms.now (length a.starts_out.now) (length a.rows_out.now) (length a.values_out.now)
    (length a.b_out.now) c.requires.rooms_of c.in_ok-check_outputs.ensures in
    (omega (arith, enough, c.requires.w_lt_v), c.requires.w_lt_v.5)

pub returns-clause-starts_out_after : goal.returns-clause-starts_out_after
returns-clause-starts_out_after c =
    let a = c.args in
    c.copy_front.ensures ∙ ap (λ (xs : List ℕ). written xs a.starts_out.now) (starts_front a.s a.n a.rows.now c.keep_columns-d.new.starts (replicate 65 0) c.keep_columns-d.ensures.starts_after)
