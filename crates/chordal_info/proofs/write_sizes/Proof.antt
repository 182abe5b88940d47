use Prim.Native.Nat.{ℕ, ◌+◌, ◌*◌, ◌≤◌}
use mathlib.Core.Path.{◌≡◌, ap, subst, ◌∙◌}
use mathlib.Core.List.{List}
use lib.Dec.{T}
use Rattle.layout.specs.General.Lists.{written}
use Rattle.layout.specs.Problems.Problem.{Route}
use Rattle.layout.specs.Calls.Answers.{route_of}
use Rattle.layout.proofs.Lists.Tests.{leb_iff}
use Rattle.layout.proofs.Checks.Routes.{route_standard, route_compact}
use Rattle.chordal_info.specs.Sizes.{rows_fit, output_lengths, route_sizes}
use Rattle.chordal_info.proofs.Sizes.{rows_few, lengths_standard, lengths_compact, lengths-listed}
use native.Mathlib.Omega.{arith}
use borrow.Author.Rules.{rules}
use Rattle.chordal_info.proofs.write_sizes.Statement.{statement}
use Rattle.chordal_info.proofs.write_sizes.Tie as tie
use Rattle.chordal_info.proofs.write_sizes.Lts.{then-route-eq-STANDARD, else-route-eq-STANDARD}

few : (s : tie.Start) → s.args.rows ≤ 262144
few s = rows_few (route_of s.args.route) s.args.m s.args.rows s.args.overlaps s.requires.1.2

tall : (c : tie.Then-route-eq-STANDARD) → let a = c.args in a.m + a.rows ≤ 262144
tall c =
    let s = c.before.before in
    let a = s.args in
    (leb_iff (a.m + a.rows) 262144).0
    (subst (λ (x : Route). T (rows_fit x a.m a.rows a.overlaps)) (route_standard a.route c.if-route-eq-STANDARD.true) s.requires.1.2)

-- at most 262144 columns are added
short : (j : tie.Joined-route-eq-STANDARD) → j.if-route-eq-STANDARD.added ≤ 262144
short j =
    let s = j.before.before in
    elim j.if-route-eq-STANDARD.branch [
      | then-route-eq-STANDARD w ↦ omega (arith, w.added-is, few s)
      | else-route-eq-STANDARD w ↦ omega (arith, w.added-is, few s, s.requires.1.3)
    ]

-- the computed lengths are those of the route
lengths : (j : tie.Joined-route-eq-STANDARD)
    → let a = j.args in
    let x = j.if-route-eq-STANDARD in
    output_lengths (a.n + x.added) a.p_entries (a.a_entries + 2 * x.added) x.b x.cone_words a.alphas x.map_words
    ≡ route_sizes (route_of a.route) a.n a.m a.p_entries a.a_entries a.alphas a.rows a.overlaps a.cones
lengths j =
    let a = j.args in
    elim j.if-route-eq-STANDARD.branch [
      | then-route-eq-STANDARD w ↦ lengths_standard a.n a.m a.p_entries a.a_entries a.alphas a.rows a.overlaps a.cones
          (route_standard a.route w.if-route-eq-STANDARD.true) w.added-is w.b-is w.cone_words-is w.map_words-is
      | else-route-eq-STANDARD w ↦ lengths_compact a.n a.m a.p_entries a.a_entries a.alphas a.rows a.overlaps a.cones
          (route_compact a.route w.if-route-eq-STANDARD.false) w.added-is w.b-is w.cone_words-is w.map_words-is
    ]

cast-added : tie.Need-overflow_cast-added
cast-added c = omega (arith, few c.before)

cast-b : tie.Need-overflow_cast-b
cast-b c = omega (arith, few c.before)

cast-cone-words : tie.Need-overflow_cast-cone_words
cast-cone-words c = omega (arith, few c.before)

mul-cone-words : tie.Need-overflow_mul-cone_words
mul-cone-words c = omega (arith, few c.before)

cast-map-words : tie.Need-overflow_cast-map_words
cast-map-words c = omega (arith, few c.before)

mul-map-words : tie.Need-overflow_mul-map_words
mul-map-words c = omega (arith, few c.before)

add-b : tie.Need-overflow_add-b
add-b c = omega (arith, tall c)

add-cone-words : tie.Need-overflow_add-cone_words
add-cone-words c = omega (arith, few c.before.before)

add-columns : tie.Need-overflow_add-columns
add-columns c = omega (arith, short c.before)

add-starts : tie.Need-overflow_add-starts
add-starts c = omega (arith, short c.before)

mul-entries : tie.Need-overflow_mul-entries
mul-entries c = omega (arith, short c.before)

add-entries : tie.Need-overflow_add-entries
add-entries c = omega (arith, short c.before)

slice-aggregate-copy-numbers : tie.Need-slice_bounds-copy_front-end
slice-aggregate-copy-numbers c = search rules

copy-numbers-requires : tie.Need-copy_front-requires
copy-numbers-requires c κs = search rules

same_length : tie.Need-shape_of-out
same_length c = search rules

returns : tie.Need-returns
returns c =
    let w = c.before.before in
    let j = w.before.before.before.before in
    let a = j.args in
    let x = j.if-route-eq-STANDARD in
    w.copy_front.ensures
    ∙ ap (λ (xs : List ℕ). written xs a.out.now)
    (lengths-listed (a.n + x.added) a.p_entries (a.a_entries + 2 * x.added) x.b x.cone_words a.alphas x.map_words ∙ lengths j)

pub write_sizes_spec : {M : Type 1} → statement M
write_sizes_spec =
    tie.close
    (tie.spec
    cast-added
    cast-b
    cast-cone-words
    mul-cone-words
    cast-map-words
    mul-map-words
    add-b
    add-cone-words
    add-columns
    add-starts
    mul-entries
    add-entries
    slice-aggregate-copy-numbers
    copy-numbers-requires
    same_length
    returns)
