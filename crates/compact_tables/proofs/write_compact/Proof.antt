use Prim.Native.Nat.{ℕ, ◌≤◌}
use native.Mathlib.Omega.{arith}
use mathlib.Core.Path.{ap₂, sym, ◌∙◌}
use mathlib.Core.List.{List}
use lib.ListN.{length, replicate, length-map, length-replicate}
use lib.Seq.{length-take-le}
use lib.Ieee.{binary64, to_bits}
use Rattle.layout.specs.General.Lists.{written}
use Rattle.layout.specs.Files.File.{file_of}
use Rattle.layout.specs.Files.FileWords.{word_tables}
use Rattle.compact_tables.specs.Writers.{extended_tables}
use Rattle.compact_tables.proofs.Extended.{extends_as}
use Rattle.compact_tables.proofs.Fronts.{front_bits}
use borrow.Author.Rules.{rules}
use Rattle.compact_tables.proofs.write_compact.Statement.{statement}
use Rattle.compact_tables.proofs.write_compact.Tie as tie

few-entries : (s : tie.Start) → length s.args.a_values.now ≤ 8192
few-entries s = omega (arith, length-map s.args.a_values.now (to_bits binary64), s.requires.1.0.few_entries)

few-rows : (s : tie.Start) → length s.args.b.now ≤ 8192
few-rows s = omega (arith, length-map s.args.b.now (to_bits binary64), s.requires.1.0.few_rows)

slice-aggregate-write-bits : tie.Need-slice_bounds-write_bits-end
slice-aggregate-write-bits c = sym (length-replicate {A = ℕ} 8192 0)

write-bits-requires : tie.Need-write_bits-requires
write-bits-requires c κs = few-entries c.before.before.before.before.before.before.before.before.before

slice-aggregate-write-bits-2 : tie.Need-slice_bounds-write_bits-end-2
slice-aggregate-write-bits-2 c = sym (length-replicate {A = ℕ} 8192 0)

write-bits-requires-2 : tie.Need-write_bits-requires-2
write-bits-requires-2 c κs = few-rows c.before.before.before.before.before.before.before.before.before.before.before.before

array-share-prefix-entries : tie.Need-slice_bounds-entries-end
array-share-prefix-entries c = omega (arith, few-entries c.before.before.before.before.before.before.before.before.before.before.before.before.before.before, c.write_bits.auto.out)

slice-aggregate-write-extended : tie.Need-slice_bounds-write_extended-end
slice-aggregate-write-extended c =
    let s = c.before.before.before.before.before.before.before.before.before.before.before.before.before.before.before in
    sym (length-take-le (length s.args.a_values.now) c.write_bits.new.out (omega (arith, few-entries s, c.write_bits.auto.out)))

array-share-prefix-side : tie.Need-slice_bounds-side-end
array-share-prefix-side c = omega (arith, few-rows c.before.before.before.before.before.before.before.before.before.before.before.before.before.before.before, c.write_bits-2.auto.out)

slice-aggregate-write-extended-2 : tie.Need-slice_bounds-write_extended-end-2
slice-aggregate-write-extended-2 c =
    let s = c.before.before.before.before.before.before.before.before.before.before.before.before.before.before.before.before in
    sym (length-take-le (length s.args.b.now) c.write_bits-2.new.out (omega (arith, few-rows s, c.write_bits-2.auto.out)))

write-extended-requires : tie.Need-write_extended-requires
write-extended-requires c κs =
    let s = c.before.before.before.before.before.before.before.before.before.before.before.before.before.before.before.before.before in
    (s.requires.0, (extends_as (front_bits s.args.a_values.now (replicate 8192 0) c.write_bits.ensures) (front_bits s.args.b.now (replicate 8192 0) c.write_bits-2.ensures) s.requires.1.0, s.requires.1.1))

same_length : tie.Need-shape_of-out
same_length c = search rules

returns : tie.Need-returns
returns c =
    let s = c.before.before.before.before.before.before.before.before.before.before.before.before.before.before.before.before.before.before.before.before in
    let a = s.args in
    c.write_extended.ensures
    ∙ ap₂ (λ (values b : List ℕ). written (file_of (extended_tables (word_tables a.words.now) a.columns a.a_starts.now a.a_rows.now values b a.cones.now)) a.out.now)
    (front_bits s.args.a_values.now (replicate 8192 0) c.write_bits.ensures) (front_bits s.args.b.now (replicate 8192 0) c.write_bits-2.ensures)

pub write_compact_spec : {M : Type 1} → statement M
write_compact_spec =
    tie.close
    (tie.spec
    slice-aggregate-write-bits
    write-bits-requires
    slice-aggregate-write-bits-2
    write-bits-requires-2
    array-share-prefix-entries
    slice-aggregate-write-extended
    array-share-prefix-side
    slice-aggregate-write-extended-2
    write-extended-requires
    same_length
    returns)
