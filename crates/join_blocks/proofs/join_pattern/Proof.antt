use Prim.Native.Nat.{ℕ, ◌+◌, ◌≤◌, ◌<◌, ◌-◌}
use native.Mathlib.Nat.{le_trans}
use mathlib.Core.Path.{◌≡◌, refl, ap, sym, subst, ◌∙◌}
use mathlib.Core.Bool.{Bool, true, false}
use mathlib.Core.List.{List, map, reverse}
use lib.ListN.{length, take, drop}
use lib.Seq.{length-take-le}
use lib.Ieee.{Float}
use native.Mathlib.Omega.{arith}
use mir.Facts.{Fits-le, Fits-lit}
use Rattle.layout.specs.General.Lists.{join}
use Rattle.layout.specs.General.Triangle.{triangle}
use Rattle.layout.specs.Problems.Patterns.{Pattern, Clique, clique_count}
use Rattle.layout.specs.Rows.Blocks.{block_rows}
use Rattle.layout.specs.Joinings.Reverse.{add_columns}
use Rattle.supernode_tree.specs.Reads.{pattern_at, cliques_from}
use Rattle.supernode_tree.specs.declared.Pattern.{Pattern as Head}
use Rattle.std.specs.Prelude.{Some}
use Rattle.supernode_tree.proofs.Cliques.{right-head, starts_before}
use Rattle.rows_blocks.specs.Cliques.{rows_here}
use Rattle.rows_blocks.proofs.Patterns.{clique-sortable}
use Rattle.rows_blocks.proofs.Offsets.{StandAt, cliques_here, cliques-count, count-few, pattern_here, ordering-part, stand_here, all-stand, rows-down}
use Rattle.reverse_standard.specs.Routes.{Starts}
use Rattle.join_blocks.specs.Joins.{join_z, Counts, Countable, own_rows, rows_up, AllSortable, down_sizes}
use Rattle.join_blocks.proofs.Laws.{rows-cliques, sizes-down, length-own, by_same}
use Rattle.join_blocks.proofs.Room.{fits-number}
use Rattle.join_blocks.proofs.join_pattern.Statement.{statement}
use Rattle.join_blocks.proofs.join_pattern.Tie as tie

abbrev start : tie.After-here-p → tie.Start
start h = h.before.before.before.before.before.before.before.before.before.before

abbrev pattern : tie.Start → Pattern
pattern s = pattern_at s.args.words.now s.args.at

abbrev head : tie.After-here-p → Head
head h = h.here-p.result

-- there are as many cliques as were read, at most 256
count : (h : tie.After-here-p) → clique_count (pattern (start h)) ≡ (head h).clique_count
count h =
    let s = start h in
    cliques-count s.args.words.now s.args.at (Some (head h)) s.requires.0.0 h.here-p.ensures.0 (head h) refl

few : (h : tie.After-here-p) → (head h).clique_count ≤ 256
few h =
    let s = start h in
    count-few s.args.words.now s.args.at (Some (head h)) s.requires.0.0 h.here-p.ensures.0 (head h) refl s.requires.0.1

-- the ordering is a part of the words
ordering-ends : (h : tie.After-here-p) → (head h).ordering ≤ (head h).cliques
ordering-ends h = starts_before (head h).vertex_count h.here-p.ensures.1.1

abbrev ordering : tie.After-here-p → List ℕ
ordering h = take ((head h).cliques - (head h).ordering) (drop (head h).ordering (start h).args.words.now)

ordering_here : (h : tie.After-here-p) → ordering h ≡ (pattern (start h)).ordering
ordering_here h =
    let s = start h in
    ordering-part s.args.words.now s.args.at (Some (head h)) s.requires.0.0 h.here-p.ensures.0 (head h) refl h.here-p.ensures.1

covers : (h : tie.After-here-p) → triangle (length (ordering h)) ≤ length (start h).args.s_out.now
covers h =
    let s = start h in
    subst (λ (n : ℕ). triangle n ≤ length s.args.s_out.now) (sym (ap length (ordering_here h) ∙ s.requires.0.0.ordered.vertices)) s.requires.1.0.0

whole_words : (h : tie.After-here-p) → (head h).ordering ≤ length (start h).args.words.now
whole_words h = le_trans (ordering-ends h) h.here-p.ensures.1.2

here-requires : tie.Need-here-p-requires
here-requires c κs =
    let s = c.before.before.before.before.before.before.before.before.before in
    right-head s.args.words.now s.args.at s.requires.0.0.tree

-- ---- the promise, from the rows that the route joined

abbrev Promised : tie.Start → Bool → ℕ → List Float → List Float → List ℕ → Type 0
Promised s b r s₁ z₁ c₁ =
    let a = s.args in
    (r ≡ a.first + block_rows (pattern s))
    × ((s₁ ≡ add_columns (own_rows b (pattern s)) (drop a.first a.s.now) a.s_out.now)
    × ((z₁ ≡ join_z b (own_rows b (pattern s)) (drop a.first a.z.now) a.z_out.now) × Counts b (own_rows b (pattern s)) a.counts.now c₁))

module _ (s : tie.Start) (b : Bool) (route : s.args.standard ≡ b) (os : List ℕ) (rows : os ≡ own_rows b (pattern s)) where
  size : length os ≡ block_rows (pattern s)
  size = ap length rows ∙ length-own (pattern s) s.requires.0.0 b

  values : s.args.first + length os ≤ length s.args.s.now
  values = subst (λ (n : ℕ). s.args.first + n ≤ length s.args.s.now) (sym size) s.requires.1.1.0.0

  promised : (r : ℕ) (s₁ z₁ : List Float) (c₁ : List ℕ) → let a = s.args in
      r ≡ a.first + length os → s₁ ≡ add_columns os (drop a.first a.s.now) a.s_out.now
      → z₁ ≡ join_z b os (drop a.first a.z.now) a.z_out.now → Counts b os a.counts.now c₁ → Promised s a.standard r s₁ z₁ c₁
  promised r s₁ z₁ c₁ e f g h =
      let a = s.args in
      subst (λ (d : Bool). Promised s d r s₁ z₁ c₁) (sym route) (
        by_same (λ (n : ℕ). a.first + n) e size,
        (
          by_same (λ (os : List ℕ). add_columns os (drop a.first a.s.now) a.s_out.now) f rows,
          (
            by_same (λ (os : List ℕ). join_z b os (drop a.first a.z.now) a.z_out.now) g rows,
            subst (λ (os : List ℕ). Counts b os a.counts.now c₁) rows h,
          ),
        ),
      )

-- ---- the standard route

abbrev cliques : tie.After-here-p → List Clique
cliques h = cliques_from (start h).args.words.now (head h).cliques (head h).clique_count

cliques_are : (h : tie.After-here-p) → cliques h ≡ (pattern (start h)).cliques
cliques_are h =
    let s = start h in
    sym (ap (λ (p : Pattern). p.cliques) (pattern_here s.args.words.now s.args.at (Some (head h)) s.requires.0.0 h.here-p.ensures.0 (head h) refl))

up-rows : (h : tie.After-here-p) → rows_up (ordering h) (cliques h) ≡ own_rows true (pattern (start h))
up-rows h =
    let s = start h in
    ap (λ (ordering : List ℕ). rows_up ordering (cliques h)) (ordering_here h) ∙ ap (rows_up (pattern s).ordering) (cliques_are h)
    ∙ rows-cliques (pattern s) s.requires.0.0

mul-join-cliques-up : tie.Need-offset_bounds-words-a
mul-join-cliques-up c = fits-number (whole_words c.before) (start c.before).well_formed.1.0

sub-join-cliques-up : tie.Need-slice_bounds-join_cliques_up-count
sub-join-cliques-up c = ordering-ends c.before

part-join-cliques-up-start : tie.Need-slice_bounds-join_cliques_up-start
part-join-cliques-up-start c = ordering-ends c.before

part-join-cliques-up-end : tie.Need-slice_bounds-join_cliques_up-end
part-join-cliques-up-end c = c.here-p.ensures.1.2

join-cliques-up-requires : tie.Need-join_cliques_up-requires
join-cliques-up-requires c κs =
    let t = c.before.before.before.before.before in
    let h = t.before in
    let s = start h in
    let a = s.args in
    let p = pattern s in (
      (
        cliques_here a.words.now a.at (Some (head h)) s.requires.0.0 h.here-p.ensures.0 (head h) refl,
        subst (λ (ordering : List ℕ). AllSortable ordering (cliques h)) (sym (ordering_here h))
            (subst (AllSortable p.ordering) (sym (cliques_are h)) (clique-sortable p s.requires.0.0 s.requires.0.1)),
      ),
      (
        (values s true t.if-standard.true (rows_up (ordering h) (cliques h)) (up-rows h), s.requires.1.1.0.1),
        (
          (covers h, s.requires.1.0.1, s.requires.1.0.2),
          (
            subst (λ (n : ℕ). Countable true (length a.s_out.now) n a.counts.now) (sym (size s true t.if-standard.true (rows_up (ordering h) (cliques h)) (up-rows h)))
                (subst (λ (b : Bool). Countable b (length a.s_out.now) (block_rows p) a.counts.now) t.if-standard.true s.requires.1.1.1.0),
            s.requires.1.1.1.1.0.1,
          ),
        ),
      ),
    )

-- the state after the cliques were joined
abbrev up : tie.After-slice_known-then-standard-4-1 → tie.After-join_cliques_up
up c = c.before.before.before.before.before.before.before.before

abbrev taken : tie.After-join_cliques_up → tie.Then-standard
taken j = j.before.before.before.before.before.before

same_length : tie.Need-shape_of-s_out-then-standard
same_length c = (up c).join_cliques_up.auto.s_out

same-length-2 : tie.Need-shape_of-z_out-then-standard
same-length-2 c = (up c).join_cliques_up.auto.z_out

same-length-3 : tie.Need-shape_of-counts-then-standard
same-length-3 c = (up c).join_cliques_up.auto.counts

same-length-4 : tie.Need-shape_of-vertices-then-standard
same-length-4 c = (up c).join_cliques_up.auto.vertices

returns : tie.Need-returns-then-standard
returns c =
    let w = (up c).join_cliques_up in
    let t = taken (up c) in
    let h = t.before in
    promised (start h) true t.if-standard.true (rows_up (ordering h) (cliques h)) (up-rows h) w.result
    w.new.s_out w.new.z_out w.new.counts w.ensures.0 w.ensures.1.0 w.ensures.1.1.0 w.ensures.1.1.1

-- ---- the compact route

-- the table of offsets
abbrev left : tie.After-clique_offsets → tie.Else-standard
left o = o.before.before

abbrev read : tie.After-clique_offsets → tie.After-here-p
read o = (left o).before

abbrev offsets : tie.After-clique_offsets → List ℕ
offsets o = o.clique_offsets.new.out

room : (o : tie.After-clique_offsets) → (head (read o)).clique_count ≤ length (offsets o)
room o =
    subst (λ (n : ℕ). (head (read o)).clique_count ≤ n) (sym o.clique_offsets.auto.out) (le_trans (few (read o)) (start (read o)).requires.1.1.1.1.0.0)

standing : (o : tie.After-clique_offsets) → let s = start (read o) in StandAt s.args.words.now (pattern s).cliques (offsets o)
standing o =
    let h = read o in
    let s = start h in
    stand_here s.args.words.now s.args.at (Some (head h)) s.requires.0.0 h.here-p.ensures.0 (head h) refl (offsets o) o.clique_offsets.ensures

-- the rows of the cliques at the offsets are those of the pattern
abbrev downward : tie.After-clique_offsets → List ℕ
downward o = let h = read o in join (rows_here 0 (start h).args.words.now (ordering h)) (reverse (take (head h).clique_count (offsets o)))

down-rows : (o : tie.After-clique_offsets) → downward o ≡ own_rows false (pattern (start (read o)))
down-rows o =
    let h = read o in
    let s = start h in
    let n = (head h).clique_count in
    ap (λ (ordering : List ℕ). join (rows_here 0 s.args.words.now ordering) (reverse (take n (offsets o)))) (ordering_here h)
    ∙ rows-down (pattern s) s.requires.0.0 s.args.words.now (offsets o) n (count h) (room o) (standing o) 0 0

few-entries : (entry k n : ℕ) → entry ≤ 262144 → k ≡ n → n ≤ 256 → entry + k < 18446744073709551616
few-entries entry k n h e l = omega arith

clique-offsets-requires : tie.Need-clique_offsets-requires
clique-offsets-requires c κs =
    let h = c.before.before in
    let s = start h in (
      cliques_here s.args.words.now s.args.at (Some (head h)) s.requires.0.0 h.here-p.ensures.0 (head h) refl,
      le_trans (few h) s.requires.1.1.1.1.0.0,
    )

-- the state after the offsets were written
abbrev filled : tie.After-struct_known-1 → tie.After-clique_offsets
filled c = c.before.before.before

cast-k : tie.Need-overflow_cast-k
cast-k c = Fits-le (few (read (filled c))) (Fits-lit tt)

mul-join-cliques-down : tie.Need-offset_bounds-words-a-2
mul-join-cliques-down c = let h = read (filled c) in fits-number (whole_words h) (start h).well_formed.1.0

sub-join-cliques-down : tie.Need-slice_bounds-join_cliques_down-count
sub-join-cliques-down c = ordering-ends (read (filled c))

part-join-cliques-down-start : tie.Need-slice_bounds-join_cliques_down-start
part-join-cliques-down-start c = ordering-ends (read (filled c))

part-join-cliques-down-end : tie.Need-slice_bounds-join_cliques_down-end
part-join-cliques-down-end c = (read (filled c)).here-p.ensures.1.2

slice-reshare-prefix-join-cliques-down : tie.Need-slice_bounds-join_cliques_down-end-2
slice-reshare-prefix-join-cliques-down c = room (filled c.before)

slice-aggregate-join-cliques-down : tie.Need-slice_bounds-join_cliques_down-end-3
slice-aggregate-join-cliques-down c =
    let o = filled c.before in
    sym (length-take-le (head (read o)).clique_count (offsets o) (room o))

join-cliques-down-requires : tie.Need-join_cliques_down-requires
join-cliques-down-requires c κs =
    let o = filled c.before.before.before.before.before in
    let h = read o in
    let s = start h in
    let a = s.args in
    let p = pattern s in
    let n = (head h).clique_count in (
      rw (ordering_here h) (all-stand p s.requires.0.0 a.words.now (offsets o) n (count h) (room o) (standing o) s.requires.0.1),
      (
        (values s false (left o).if-standard.false (downward o) (down-rows o), s.requires.1.1.0.1),
        (
          (covers h, s.requires.1.0.1, s.requires.1.0.2),
          (
            s.requires.1.1.1.1.0.1,
            (
              subst (λ (ordering : List ℕ). Starts false a.map.now a.entry a.first (map (λ o. length (rows_here 0 a.words.now ordering o)) (reverse (take n (offsets o))))) (sym (ordering_here h))
                  (subst (Starts false a.map.now a.entry a.first) (sym (sizes-down p s.requires.0.0 a.words.now (offsets o) n (count h) (room o) (standing o)))
                  (subst (λ (b : Bool). Starts b a.map.now a.entry a.first (down_sizes p)) (left o).if-standard.false s.requires.1.1.1.1.1.0)),
              few-entries a.entry (length (take n (offsets o))) n s.requires.1.1.1.1.1.1 (length-take-le n (offsets o) (room o)) (few h),
            ),
          ),
        ),
      ),
    )

-- the state after the cliques were joined
abbrev down : tie.After-slice_known-10-1 → tie.After-join_cliques_down
down c = c.before.before.before.before.before.before.before.before

abbrev table : tie.After-join_cliques_down → tie.After-clique_offsets
table j = filled j.before.before.before.before.before.before

same-length-5 : tie.Need-shape_of-s_out
same-length-5 c = (down c).join_cliques_down.auto.s_out

same-length-6 : tie.Need-shape_of-z_out
same-length-6 c = (down c).join_cliques_down.auto.z_out

same-length-7 : tie.Need-shape_of-counts
same-length-7 c = (down c).join_cliques_down.auto.counts

same-length-8 : tie.Need-shape_of-offsets
same-length-8 c = (table (down c)).clique_offsets.auto.out

same-length-9 : tie.Need-shape_of-vertices
same-length-9 c = (down c).join_cliques_down.auto.vertices

returns-2 : tie.Need-returns
returns-2 c =
    let w = (down c).join_cliques_down in
    let o = table (down c) in
    promised (start (read o)) false (left o).if-standard.false (downward o) (down-rows o) w.result
    w.new.s_out w.new.z_out w.new.counts w.ensures.0 w.ensures.1.0 w.ensures.1.1 tt

pub join_pattern_spec : {M : Type 1} → statement M
join_pattern_spec =
    tie.close
    (tie.spec
    here-requires
    mul-join-cliques-up
    sub-join-cliques-up
    part-join-cliques-up-start
    part-join-cliques-up-end
    join-cliques-up-requires
    same_length
    same-length-2
    same-length-3
    same-length-4
    returns
    clique-offsets-requires
    cast-k
    mul-join-cliques-down
    sub-join-cliques-down
    part-join-cliques-down-start
    part-join-cliques-down-end
    slice-reshare-prefix-join-cliques-down
    slice-aggregate-join-cliques-down
    join-cliques-down-requires
    same-length-5
    same-length-6
    same-length-7
    same-length-8
    same-length-9
    returns-2)
