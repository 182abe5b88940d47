use Prim.Native.Nat.{ℕ}
use mathlib.Core.Path.{refl, ap, ◌∙◌}
use mathlib.Core.List.{List, [], ◌∷◌, ◌++◌}
use Rattle.layout.specs.General.Lists.{written}
use Rattle.layout.specs.Files.File.{BitTables, bit_tables, count_words, counts_of, offsets_from, end_from}
use Rattle.file_tables.proofs.Tables.{FewNumbers, few_numbers, sizes_counted, end_fits}
use native.Mathlib.Omega.{arith}
use borrow.Author.Rules.{rules}
use Rattle.file_tables.proofs.make_header.Statement.{statement}
use Rattle.file_tables.proofs.make_header.Tie as tie

-- the tables, and that each has fewer than 2^32 numbers
abbrev given : tie.Start → BitTables
given s =
    bit_tables s.args.n s.args.m s.args.p_starts.now s.args.p_rows.now s.args.p_values.now s.args.q.now
    s.args.a_starts.now s.args.a_rows.now s.args.a_values.now s.args.b.now
    s.args.cones.now s.args.alphas.now s.args.pattern_count s.args.pattern_words.now

few : (c : tie.After-slice_known-1) → FewNumbers (given c.before.before.before.before.before.before.before.before.before.before.before.before)
few c = let s = c.before.before.before.before.before.before.before.before.before.before.before.before in few_numbers (given s) s.requires.0

cast-t19 : tie.Need-overflow_cast-counts
cast-t19 c = omega (arith, (few c).p_values)

cast-t21 : tie.Need-overflow_cast-counts-2
cast-t21 c = omega (arith, (few c).a_values)

cast-t24 : tie.Need-overflow_cast-counts-3
cast-t24 c = omega (arith, (few c).cones)

cast-t26 : tie.Need-overflow_cast-counts-4
cast-t26 c = omega (arith, (few c).alphas)

cast-t28 : tie.Need-overflow_cast-counts-5
cast-t28 c = omega (arith, (few c).pattern_words)

cast-t28-2 : tie.Need-overflow_cast-lengths
cast-t28-2 c = omega (arith, (few c).p_starts)

cast-t26-2 : tie.Need-overflow_cast-lengths-2
cast-t26-2 c = omega (arith, (few c).p_rows)

cast-t24-2 : tie.Need-overflow_cast-lengths-3
cast-t24-2 c = omega (arith, (few c).p_values)

cast-t19-2 : tie.Need-overflow_cast-lengths-4
cast-t19-2 c = omega (arith, (few c).q)

cast-t21-2 : tie.Need-overflow_cast-lengths-5
cast-t21-2 c = omega (arith, (few c).a_starts)

cast-t29 : tie.Need-overflow_cast-lengths-6
cast-t29 c = omega (arith, (few c).a_rows)

cast-t31 : tie.Need-overflow_cast-lengths-7
cast-t31 c = omega (arith, (few c).a_values)

cast-t33 : tie.Need-overflow_cast-lengths-8
cast-t33 c = omega (arith, (few c).b)

cast-t35 : tie.Need-overflow_cast-lengths-9
cast-t35 c = omega (arith, (few c).cones)

cast-t37 : tie.Need-overflow_cast-lengths-10
cast-t37 c = omega (arith, (few c).alphas)

cast-t39 : tie.Need-overflow_cast-lengths-11
cast-t39 c = omega (arith, (few c).pattern_words)

slice-aggregate-write-header : tie.Need-slice_bounds-write_header-end
slice-aggregate-write-header c = search rules

slice-aggregate-write-header-2 : tie.Need-slice_bounds-write_header-end-2
slice-aggregate-write-header-2 c = search rules

write-header-requires : tie.Need-write_header-requires
write-header-requires c κs =
    let s = c.before.before.before.before.before.before.before.before.before.before.before.before.before.before.before in
    (refl, refl, s.requires.1, end_fits (given s) s.requires.0)

same_length : tie.Need-shape_of-out
same_length c = search rules

returns : tie.Need-returns
returns c =
    let s = c.before.before.before.before.before.before.before.before.before.before.before.before.before.before.before.before.before.before in
    let t = given s in
    c.write_header.ensures
    ∙ ap (λ (ks : List ℕ). written (count_words (counts_of t) ++ (offsets_from 80 ks ++ (end_from 80 ks ∷ []))) s.args.out.now) (sizes_counted t s.requires.0)

pub make_header_spec : {M : Type 1} → statement M
make_header_spec =
    tie.close
    (tie.spec
    cast-t19
    cast-t21
    cast-t24
    cast-t26
    cast-t28
    cast-t28-2
    cast-t26-2
    cast-t24-2
    cast-t19-2
    cast-t21-2
    cast-t29
    cast-t31
    cast-t33
    cast-t35
    cast-t37
    cast-t39
    slice-aggregate-write-header
    slice-aggregate-write-header-2
    write-header-requires
    same_length
    returns)
