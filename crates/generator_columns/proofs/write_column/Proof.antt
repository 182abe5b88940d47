use Prim.Native.Nat.{ℕ, ◌+◌, ◌-◌, ◌≤◌}
use native.Mathlib.Omega.{arith}
use mathlib.Core.Path.{◌≡◌, refl, sym, ap, ◌∙◌}
use mathlib.Core.List.{List, ◌++◌, map-append}
use borrow.Author.Rules.{rules}
use lib.ListN.{length, take, length-append, length-map}
use lib.Seq.{take_all}
use lib.Ieee.{Float}
use Rattle.layout.specs.General.Lists.{written}
use Rattle.layout.specs.Cuts.Compact.{Entry, rows_of}
use Rattle.layout.specs.Calls.Generate.{drawn_column, after_column}
use Rattle.layout.proofs.Lists.Buffers.{written_after, length_tail}
use Rattle.layout.proofs.Columns.Compressed.{values_of}
use Rattle.layout.proofs.Generators.Drawn.{column-length}
use Rattle.layout.proofs.Lists.Starts.{length-written}
use Rattle.generator_columns.proofs.Steps.{piece, piece_few, column_piece, after_piece, piece_fits}
use Rattle.generator_columns.proofs.write_column.Statement.{statement}
use Rattle.generator_columns.proofs.write_column.Tie as tie

abbrev invariant-loop : tie.invariant-loop-i
invariant-loop s rows rows-out₀ values-out₀ state₀ count₀ i₀ rows_out values-out state count i =
    (i ≤ length rows) × (count ≤ i) × (length rows_out ≡ length rows-out₀) × (length values-out ≡ length values-out₀)
    × (count ≡ length (drawn_column s (take i rows))) × (state ≡ after_column s (take i rows))
    × (rows_out ≡ written (rows_of (drawn_column s (take i rows))) rows-out₀)
    × (values-out ≡ written (values_of (drawn_column s (take i rows))) values-out₀)

abbrev decreases-loop : tie.decreases-loop-i
decreases-loop s rows rows-out₀ values-out₀ state₀ count₀ i₀ rows_out values-out state count i = length rows - i

-- the rows that are drawn in one call, and room for their entries
abbrev here : tie.After-few_of-few invariant-loop decreases-loop → List ℕ
here f =
    let l = f.before.before in
    let a = l.args in
    piece a.s a.rows.now l.loop-i.i f.few_of-few.result l.loop-i.state l.loop-i.invariant.5

room : (f : tie.After-few_of-few invariant-loop decreases-loop)
    → let l = f.before.before in
    (l.loop-i.count + length (drawn_column l.loop-i.state (here f)) ≤ length l.loop-i.rows_out)
    × (l.loop-i.count + length (drawn_column l.loop-i.state (here f)) ≤ length l.loop-i.values_out)
    × (length (here f) ≤ f.few_of-few.result)
room f =
    let l = f.before.before in
    let s = l.before.before.before.before in
    let fits = piece_fits s.args.s s.args.rows.now l.loop-i.i f.few_of-few.result l.loop-i.state l.loop-i.invariant.5 in
    (omega (arith, fits, s.requires.0), omega (arith, fits, s.requires.1), piece_few s.args.s s.args.rows.now l.loop-i.i f.few_of-few.result l.loop-i.state l.loop-i.invariant.5)

loop-holds : tie.Need-loop-i-init invariant-loop decreases-loop
loop-holds c = (search rules, search rules, refl, refl, refl, refl, refl, refl)

sub-few-of : tie.Need-overflow_sub-rows invariant-loop decreases-loop
sub-few-of c = omega arith

few-of-requires : tie.Need-few_of-few-requires invariant-loop decreases-loop
few-of-requires c κs = search rules

add-write-few : tie.Need-overflow_add-i invariant-loop decreases-loop
add-write-few c = omega arith

mul-write-few : tie.Need-offset_bounds-rows-i invariant-loop decreases-loop
mul-write-few c = omega arith

sub-write-few : tie.Need-slice_bounds-write_few-count invariant-loop decreases-loop
sub-write-few c = omega arith

part-write-few-start : tie.Need-slice_bounds-write_few-start invariant-loop decreases-loop
part-write-few-start c = omega arith

part-write-few-end : tie.Need-slice_bounds-write_few-end invariant-loop decreases-loop
part-write-few-end c = omega arith

mul-write-few-2 : tie.Need-offset_bounds-rows_out-count invariant-loop decreases-loop
mul-write-few-2 c = omega (arith, room c.before)

sub-write-few-2 : tie.Need-slice_bounds-write_few-count-in-loop-i invariant-loop decreases-loop
sub-write-few-2 c = omega (arith, room c.before)

part-write-few-start-2 : tie.Need-slice_bounds-write_few-start-in-loop-i invariant-loop decreases-loop
part-write-few-start-2 c = omega (arith, room c.before)

part-write-few-end-2 : tie.Need-slice_bounds-write_few-end-in-loop-i invariant-loop decreases-loop
part-write-few-end-2 c = omega (arith, room c.before)

mul-write-few-3 : tie.Need-offset_bounds-values_out-count invariant-loop decreases-loop
mul-write-few-3 c = omega (arith, room c.before.before)

sub-write-few-3 : tie.Need-slice_bounds-write_few-count-in-loop-i-2 invariant-loop decreases-loop
sub-write-few-3 c = omega (arith, room c.before.before)

part-write-few-start-3 : tie.Need-slice_bounds-write_few-start-in-loop-i-2 invariant-loop decreases-loop
part-write-few-start-3 c = omega (arith, room c.before.before)

part-write-few-end-3 : tie.Need-slice_bounds-write_few-end-in-loop-i-2 invariant-loop decreases-loop
part-write-few-end-3 c = omega (arith, room c.before.before)

write-few-requires : tie.Need-write_few-d-requires invariant-loop decreases-loop
write-few-requires c κs =
    let f = c.before.before.before in
    let l = f.before.before in (
      omega (arith, room f, f.few_of-few.ensures.1),
      (
        omega (arith, room f, length_tail l.loop-i.rows_out l.loop-i.count),
        omega (arith, room f, length_tail l.loop-i.values_out l.loop-i.count),
      ),
    )

add-count : tie.Need-overflow_add-count invariant-loop decreases-loop
add-count c =
    let w = c.before.before.before.before.before in
    let f = w.before.before.before.before in
    omega (arith, w.write_few-d.ensures.0.0, column-length f.loop-i.state (here f), room f, f.few_of-few.ensures.0)

add-i : tie.Need-overflow_add-i-in-loop-i invariant-loop decreases-loop
add-i c = omega arith

loop-less : tie.Need-loop-i-smaller invariant-loop decreases-loop
loop-less c =
    let f = c.before.before.before.before.before.before.before.before.before in
    omega (arith, f.few_of-few.ensures.0, f.few_of-few.ensures.2 (omega arith))

loop-again : tie.Need-loop-i-preserved invariant-loop decreases-loop
loop-again c =
    let w = c.before.before.before.before.before in
    let f = w.before.before.before.before in
    let l = f.before.before in
    let a = l.args in
    let i = l.loop-i.i in
    let k = f.few_of-few.result in
    let es = drawn_column a.s (take i a.rows.now) in
    let new = drawn_column l.loop-i.state (here f) in
    let both = column_piece a.s a.rows.now i k l.loop-i.state l.loop-i.invariant.5 in
    let few = column-length l.loop-i.state (here f) in
    let e = w.write_few-d.ensures in
    let row = length-map new (λ (x : Entry). x.row) in
    let value = length-map new (λ (x : Entry). x.value) in
    let before-rows = length-map es (λ (x : Entry). x.row) in
    let before-values = length-map es (λ (x : Entry). x.value) in
    let rows = written_after (rows_of es) (rows_of new) a.rows_out.now l.loop-i.count (l.loop-i.invariant.4 ∙ sym before-rows)
    (omega (arith, room f, row, before-rows, l.loop-i.invariant.4, l.loop-i.invariant.2)) l.loop-i.invariant.6 e.1.0 in
    let values = written_after (values_of es) (values_of new) a.values_out.now l.loop-i.count (l.loop-i.invariant.4 ∙ sym before-values)
    (omega (arith, room f, value, before-values, l.loop-i.invariant.4, l.loop-i.invariant.3)) l.loop-i.invariant.7 e.1.1 in (
      omega (arith, f.few_of-few.ensures.0),
      omega (arith, e.0.0, few, room f),
      ap length rows ∙ length-written (rows_of es ++ rows_of new) a.rows_out.now
          (omega (arith, room f, row, before-rows, length-append (rows_of es) (rows_of new), l.loop-i.invariant.4, l.loop-i.invariant.2)),
      ap length values ∙ length-written (values_of es ++ values_of new) a.values_out.now
          (omega (arith, room f, value, before-values, length-append (values_of es) (values_of new), l.loop-i.invariant.4, l.loop-i.invariant.3)),
      omega (arith, e.0.0, ap length both, length-append es new, l.loop-i.invariant.4),
      e.0.1 ∙ sym (after_piece a.s a.rows.now i k l.loop-i.state l.loop-i.invariant.5),
      rows ∙ ap (λ (xs : List ℕ). written xs a.rows_out.now) (sym (map-append (λ (x : Entry). x.row) es new) ∙ ap rows_of (sym both)),
      values ∙ ap (λ (xs : List Float). written xs a.values_out.now) (sym (map-append (λ (x : Entry). x.value) es new) ∙ ap values_of (sym both)),
    )

same_length : tie.Need-shape_of-rows_out invariant-loop decreases-loop
same_length c = c.loop-i.invariant.2

same-length-2 : tie.Need-shape_of-values_out invariant-loop decreases-loop
same-length-2 c = c.loop-i.invariant.3

returns : tie.Need-returns invariant-loop decreases-loop
returns c =
    let l = c.before in
    let a = l.args in
    let e : take l.loop-i.i a.rows.now ≡ a.rows.now = take_all l.loop-i.i a.rows.now c.loop-i-test.false in (
      (l.loop-i.invariant.4 ∙ ap (λ (xs : List ℕ). length (drawn_column a.s xs)) e, l.loop-i.invariant.5 ∙ ap (after_column a.s) e),
      (rw e at l.loop-i.invariant.6, rw e at l.loop-i.invariant.7),
    )

pub write_column_spec : {M : Type 1} → statement M
write_column_spec =
    tie.close
    (tie.spec
    invariant-loop
    decreases-loop
    loop-holds
    sub-few-of
    few-of-requires
    add-write-few
    mul-write-few
    sub-write-few
    part-write-few-start
    part-write-few-end
    mul-write-few-2
    sub-write-few-2
    part-write-few-start-2
    part-write-few-end-2
    mul-write-few-3
    sub-write-few-3
    part-write-few-start-3
    part-write-few-end-3
    write-few-requires
    add-count
    add-i
    loop-less
    loop-again
    same_length
    same-length-2
    returns)
