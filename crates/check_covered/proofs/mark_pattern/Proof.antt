use Prim.Native.Nat.{ℕ, ◌≤◌, ◌-◌}
use mathlib.Core.Bool.{true}
use mathlib.Core.Path.{◌≡◌, refl, ap, sym, ◌∙◌}
use mathlib.Core.List.{List, reverse}
use lib.ListN.{length, take, drop, length-replicate}
use lib.Seq.{length-take-le}
use Rattle.layout.specs.General.Lists.{join}
use Rattle.layout.specs.Problems.Patterns.{clique_count}
use Rattle.supernode_tree.specs.Reads.{pattern_at, PatternInside}
use Rattle.std.specs.Prelude.{Some}
use Rattle.rows_blocks.specs.Cliques.{rows_here}
use Rattle.supernode_tree.proofs.Cliques.{right-head}
use Rattle.rows_blocks.proofs.Offsets.{StandAt, cliques_here, cliques-count, count-few, ordering-part, stand_here, all-stand, rows-down}
use Rattle.rows_blocks.specs.Vertices.{marked}
use native.Mathlib.Omega.{arith}
use borrow.Author.Rules.{rules}
use Rattle.check_covered.proofs.mark_pattern.Statement.{statement}
use Rattle.check_covered.proofs.mark_pattern.Tie as tie

-- the head of the pattern lies in the words
inside : (k : tie.After-here-p) → PatternInside (length k.args.words.now) k.args.at (Some k.here-p.result)
inside k = k.here-p.ensures.1

-- the number of cliques is the count read, and at most 256
count : (k : tie.After-here-p) → clique_count (pattern_at k.args.words.now k.args.at) ≡ k.here-p.result.clique_count
count k =
    let s = k.before.before.before in
    cliques-count s.args.words.now s.args.at _ s.requires.0.0 k.here-p.ensures.0 k.here-p.result refl

few : (k : tie.After-here-p) → k.here-p.result.clique_count ≤ 256
few k =
    let s = k.before.before.before in
    count-few s.args.words.now s.args.at _ s.requires.0.0 k.here-p.ensures.0 k.here-p.result refl s.requires.0.1

ordering_here : (k : tie.After-here-p)
    → let a = k.args in
    let q = k.here-p.result in
    take (q.cliques - q.ordering) (drop q.ordering a.words.now) ≡ (pattern_at a.words.now a.at).ordering
ordering_here k =
    let s = k.before.before.before in
    ordering-part s.args.words.now s.args.at _ s.requires.0.0 k.here-p.ensures.0 k.here-p.result refl (inside k)

-- the table of offsets: its length, and that each offset is that of a valid clique
room : (o : tie.After-clique_offsets) → o.here-p.result.clique_count ≤ length o.clique_offsets.new.out
room o = omega (arith, few o.before.before, o.clique_offsets.auto.out, length-replicate {A = ℕ} 256 0)

standing : (o : tie.After-clique_offsets)
    → let a = o.args in
    StandAt a.words.now (pattern_at a.words.now a.at).cliques o.clique_offsets.new.out
standing o =
    let s = o.before.before.before.before.before in
    stand_here s.args.words.now s.args.at _ s.requires.0.0 o.here-p.ensures.0 o.here-p.result refl o.clique_offsets.new.out o.clique_offsets.ensures

here-requires : tie.Need-here-p-requires
here-requires c κs = let s = c.before.before in right-head s.args.words.now s.args.at s.requires.0.0.tree

slice-aggregate-clique-offsets : tie.Need-slice_bounds-clique_offsets-end
slice-aggregate-clique-offsets c = search rules

clique-offsets-requires : tie.Need-clique_offsets-requires
clique-offsets-requires c κs =
    let k = c.before in
    let s = k.before.before.before in (
      cliques_here s.args.words.now s.args.at _ s.requires.0.0 k.here-p.ensures.0 k.here-p.result refl,
      omega (arith, few k, length-replicate {A = ℕ} 256 0),
    )

cast-k : tie.Need-overflow_cast-k
cast-k c = search rules

mul-mark-cliques : tie.Need-offset_bounds-words-a
mul-mark-cliques c = let i = inside c.before.before.before.before in omega arith

sub-mark-cliques : tie.Need-slice_bounds-mark_cliques-count
sub-mark-cliques c = let i = inside c.before.before.before.before in omega arith

part-mark-cliques-start : tie.Need-slice_bounds-mark_cliques-start
part-mark-cliques-start c = let i = inside c.before.before.before.before in omega arith

part-mark-cliques-end : tie.Need-slice_bounds-mark_cliques-end
part-mark-cliques-end c = let i = inside c.before.before.before.before in omega arith

array-share-prefix-offsets : tie.Need-slice_bounds-offsets-end
array-share-prefix-offsets c = omega (arith, few c.before.before.before.before.before)

slice-aggregate-mark-cliques : tie.Need-slice_bounds-mark_cliques-end-2
slice-aggregate-mark-cliques c =
    let o = c.before.before.before.before in
    sym (length-take-le _ o.clique_offsets.new.out (room o))

mark-cliques-requires : tie.Need-mark_cliques-requires
mark-cliques-requires c κs =
    let o = c.before.before.before.before.before in
    let k = o.before.before in
    let s = k.before.before.before in
    let p = pattern_at s.args.words.now s.args.at in
    rw (ordering_here k) (
      all-stand p s.requires.0.0 s.args.words.now o.clique_offsets.new.out _ (count k) (room o) (standing o) s.requires.0.1,
      rw s.requires.0.0.ordered.vertices s.requires.1,
    )

same_length : tie.Need-shape_of-covered
same_length c = search rules

returns : tie.Need-returns
returns c =
    let w = c.before.before in
    let o = w.before.before.before.before.before.before in
    let k = o.before.before in
    let s = k.before.before.before in
    let p = pattern_at s.args.words.now s.args.at in
    let os = take k.here-p.result.clique_count o.clique_offsets.new.out in
    λ first.
    w.mark_cliques.ensures
    ∙ ap (λ (ordering : List ℕ). marked true (join (rows_here s.args.base s.args.words.now ordering) (reverse os)) s.args.covered.now) (ordering_here k)
    ∙ ap (λ (xs : List ℕ). marked true xs s.args.covered.now)
    (rows-down p s.requires.0.0 s.args.words.now o.clique_offsets.new.out _ (count k) (room o) (standing o) s.args.base first)

pub mark_pattern_spec : {M : Type 1} → statement M
mark_pattern_spec =
    tie.close
    (tie.spec
    here-requires
    slice-aggregate-clique-offsets
    clique-offsets-requires
    cast-k
    mul-mark-cliques
    sub-mark-cliques
    part-mark-cliques-start
    part-mark-cliques-end
    array-share-prefix-offsets
    slice-aggregate-mark-cliques
    mark-cliques-requires
    same_length
    returns)
