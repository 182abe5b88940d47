use Prim.Native.Nat.{ℕ, ◌≤◌}
use native.Mathlib.Omega.{arith}
use mathlib.Core.Path.{sym, ap, ◌∙◌}
use mathlib.Core.List.{List}
use borrow.Author.Rules.{rules}
use lib.ListN.{length, length-replicate}
use lib.Seq.{length-take-le}
use lib.Ieee.{Float}
use Rattle.layout.specs.General.Lists.{written}
use Rattle.layout.proofs.Generators.Drawn.{column-length}
use Rattle.generator_columns.proofs.write_few.Statement.{statement}
use Rattle.generator_columns.proofs.write_few.Tie as tie

-- the scratch buffers are long enough for the kept entries
room : (k : tie.After-keep_column-d)
    → (k.keep_column-d.result.count ≤ length k.keep_column-d.new.kept_rows) × (k.keep_column-d.result.count ≤ length k.keep_column-d.new.kept)
room k =
    let s = k.before.before.before.before.before.before in
    let few = column-length s.args.s s.args.rows.now in
    let many = length-replicate {A = ℕ} 64 0 in (
      omega (arith, few, many, k.keep_column-d.ensures.0.0, k.keep_column-d.auto.kept_rows, s.requires.0),
      omega (arith, few, many, k.keep_column-d.ensures.0.0, k.keep_column-d.auto.kept, s.requires.0),
    )

slice-aggregate-keep-column : tie.Need-slice_bounds-keep_column-end
slice-aggregate-keep-column c = search rules

slice-aggregate-keep-column-2 : tie.Need-slice_bounds-keep_column-end-2
slice-aggregate-keep-column-2 c = search rules

keep-column-requires : tie.Need-keep_column-d-requires
keep-column-requires c κs = search rules

array-share-prefix-kept-rows : tie.Need-slice_bounds-kept_rows-end
array-share-prefix-kept-rows c = (room c.before.before).0

slice-aggregate-write-kept : tie.Need-slice_bounds-write_kept-end
slice-aggregate-write-kept c = let k = c.before.before.before in sym (length-take-le k.keep_column-d.result.count k.keep_column-d.new.kept_rows (room k).0)

array-share-prefix-kept : tie.Need-slice_bounds-kept-end
array-share-prefix-kept c = (room c.before.before.before).1

slice-aggregate-write-kept-2 : tie.Need-slice_bounds-write_kept-end-2
slice-aggregate-write-kept-2 c = let k = c.before.before.before.before in sym (length-take-le k.keep_column-d.result.count k.keep_column-d.new.kept (room k).1)

write-kept-requires : tie.Need-write_kept-requires
write-kept-requires c κs =
    let k = c.before.before.before.before.before.before in
    let s = k.before.before.before.before.before.before in
    let rows = length-take-le k.keep_column-d.result.count k.keep_column-d.new.kept_rows (room k).0 in
    let draws = length-take-le k.keep_column-d.result.count k.keep_column-d.new.kept (room k).1 in
    (draws ∙ sym rows, omega (arith, draws, k.keep_column-d.ensures.0.0, s.requires.1.0), omega (arith, draws, k.keep_column-d.ensures.0.0, s.requires.1.1))

same_length : tie.Need-shape_of-rows_out
same_length c = search rules

same-length-2 : tie.Need-shape_of-values_out
same-length-2 c = search rules

returns : tie.Need-returns
returns c =
    let w = c.before.before.before.before in
    let k = w.before.before.before.before.before.before.before in
    let a = k.args in (
      k.keep_column-d.ensures.0,
      (
        w.write_kept.ensures.0 ∙ ap (λ (xs : List ℕ). written xs a.rows_out.now) k.keep_column-d.ensures.1.0,
        w.write_kept.ensures.1 ∙ ap (λ (xs : List Float). written xs a.values_out.now) k.keep_column-d.ensures.1.1,
      ),
    )

pub write_few_spec : {M : Type 1} → statement M
write_few_spec =
    tie.close
    (tie.spec
    slice-aggregate-keep-column
    slice-aggregate-keep-column-2
    keep-column-requires
    array-share-prefix-kept-rows
    slice-aggregate-write-kept
    array-share-prefix-kept
    slice-aggregate-write-kept-2
    write-kept-requires
    same_length
    same-length-2
    returns)
