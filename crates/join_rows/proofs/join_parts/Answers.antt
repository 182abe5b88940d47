use Prim.Native.Nat.{ℕ, suc, zero-le, ◌+◌, ◌*◌, ◌≤◌, ◌<◌}
use native.Mathlib.Nat.{le_trans, le_of_eq}
use mathlib.Core.Path.{◌≡◌, refl, ap, sym, subst, ◌∙◌}
use mathlib.Core.Bool.{Bool, true, false}
use mathlib.Core.List.{List, [], ◌∷◌, map}
use lib.ListN.{length, get_or, drop, length-replicate}
use lib.Dec.{T, lit≤}
use lib.Ieee.{Float}
use Rattle.layout.specs.General.Lists.{part, sum, written}
use Rattle.layout.specs.General.Triangle.{triangle}
use Rattle.layout.specs.Problems.Cones.{Cone, records, row_count}
use Rattle.layout.specs.Problems.Patterns.{Pattern, clique_count}
use Rattle.layout.specs.Rows.Blocks.{Part, whole, cut, block_rows, block_row_count, cone_rows}
use Rattle.layout.specs.Checks.{no_cone, names_its_cone}
use Rattle.layout.specs.Calls.Join.{joined_parts}
use Rattle.layout.proofs.Rows.Laid.{sound-total}
use Rattle.supernode_tree.specs.Reads.{pattern_at}
use Rattle.walk_cones.specs.Ahead.{patterns_ahead, ahead}
use Rattle.reverse_standard.specs.Routes.{Starts, HasEntry, start_of}
use Rattle.reverse_standard.proofs.Starts.{start_here, starts-next, starts-append}
use Rattle.join_blocks.specs.Joins.{down_sizes}
use Rattle.join_blocks.proofs.Laws.{by_same}
use Rattle.join_blocks.proofs.Room.{le_same, fits_count}
use Rattle.join_cones.specs.Parts.{whole_values, s_part, z_part, values_from, written_at, CountsRows, Cleared}
use Rattle.join_rows.specs.Joined.{first_of, block_sizes}
use Rattle.join_rows.specs.Counts.{CountsCones}
use Rattle.join_rows.proofs.Counts.{cut-passes}
use Rattle.join_rows.proofs.Sizes.{sizes-count, sizes-sum}
use Rattle.join_rows.proofs.Parts.{length_s_cut, length_z_cut}
use Rattle.join_rows.proofs.Walk.{Joins, joins_none, joins_more, joins_whole, joins_done, values_last, same_count, joined_s, joined_z}
use native.Mathlib.Omega.{arith}
use Rattle.layout.proofs.Patterns.WordCounts.{cliques-few}
use Rattle.layout.proofs.Lists.Walks.{same_le}
use Rattle.join_rows.proofs.join_parts.Goals as goal
use Rattle.join_rows.proofs.join_parts.Goals.{In-Some-Whole, In-Some-Cut}

-- ---- numbers: n of those left belong to the next part

sum-begins : (a b m : ℕ) → a ≡ b → b ≡ m → 0 + a ≡ m
sum-begins a b m e h = omega arith

values_begin : (t k a b l : ℕ) → t ≡ k → a ≡ b → l ≡ k + b → t + a ≡ l
values_begin t k a b l e f h = omega arith

sum_fits : (a n k rest left total : ℕ) → a + left ≡ total → left ≡ k + rest → n ≡ k → a + n ≤ total
sum_fits a n k rest left total h e f = omega arith

sum-next : (a n k rest left total : ℕ) → a + left ≡ total → left ≡ k + rest → n ≡ k → a + n + rest ≡ total
sum-next a n k rest left total h e f = omega arith

values-next : (t next k rest left total : ℕ) → t + left ≡ total → left ≡ k + rest → next ≡ t + k → next + rest ≡ total
values-next t next k rest left total h e f = omega arith

sum_done : (a left m : ℕ) → a + left ≡ m → left ≡ 0 → a ≡ m
sum_done a left m h e = omega arith

first-few : (k rest left b : ℕ) → left ≡ k + rest → left ≤ b → k ≤ b
first-few k rest left b e h = omega arith

rest-few : (k rest left b : ℕ) → left ≡ k + rest → left ≤ b → rest ≤ b
rest-few k rest left b e h = omega arith

part-le : (a n k : ℕ) → a + n ≤ k → n ≤ k
part-le a n k h = omega arith

shorter : (x : Part) (ps left : List Part) → left ≡ x ∷ ps → suc (length ps) ≤ length left
shorter x ps left e = omega (arith, ap length e)

-- the table of counts is long enough for the rows of a cone
counts-rows : (standard : Bool) (m n : ℕ) (cones a b : List ℕ) (p : Pattern) → n ≡ triangle p.vertex_count → n ≤ m → p.vertex_count ≤ 256 → length b ≡ length a
    → T (names_its_cone (records cones) p) → CountsCones standard m cones a → CountsRows standard n b
counts-rows true m n cones a b p r h g e named room = omega (arith, r, room.0 p named (omega (arith, r)) g)
counts-rows false m n cones a b p r h g e named room = tt {0}

cleared_first : (standard : Bool) (m : ℕ) (cones counts : List ℕ) → CountsCones standard m cones counts → Cleared standard counts
cleared_first true m cones counts room = room.1
cleared_first false m cones counts room = tt {0}

few-entries : (entry cone : ℕ) → entry ≤ cone * 256 → cone < 1024 → entry ≤ 262144
few-entries entry cone h l = omega arith

more_entries : (entry k cone next : ℕ) → entry ≤ cone * 256 → k ≤ 256 → next ≡ cone + 1 → entry + k ≤ next * 256
more_entries entry k cone next h l e = omega arith

abbrev rows_of : List Part → ℕ
rows_of ps = sum (map cone_rows ps)

-- ---- the next cone is not decomposed

module _ (c : In-Some-Whole) where
  abbrev left-whole : List Part
  left-whole = ahead c.args.cones.now c.args.words.now c.loop-rows.place

  abbrev cone_of : Cone
  cone_of = get_or (records c.args.cones.now) c.loop-rows.place.cone no_cone

  abbrev whole_of : Part
  whole_of = whole c.loop-rows.place.cone cone_of c.loop-rows.place.row

  abbrev after-whole : List Part
  after-whole = ahead c.args.cones.now c.args.words.now c.in-Some-Whole.next

  met_whole : left-whole ≡ whole_of ∷ after-whole
  met_whole = (rw c.in-Some-Whole.field-0-is at c.in-Some-Whole.ensures).self_value

  -- the cone's rows and values
  rows_whole : c.loop-rows.row + c.in-Some-Whole.rows ≤ c.args.m
  rows_whole =
      sum_fits c.loop-rows.row c.in-Some-Whole.rows (cone_rows whole_of) (rows_of after-whole) (rows_of left-whole) c.args.m c.loop-rows.invariant.3 (ap rows_of met_whole) (rw c.in-Some-Whole.field-0-is at c.in-Some-Whole.ensures).knows.0

  s_whole : c.loop-rows.t + c.in-Some-Whole.rows ≤ length c.args.s.now
  s_whole =
      sum_fits c.loop-rows.t c.in-Some-Whole.rows (cone_rows whole_of) (block_row_count after-whole) (block_row_count left-whole) (length c.args.s.now) c.loop-rows.invariant.4
      (ap block_row_count met_whole) (rw c.in-Some-Whole.field-0-is at c.in-Some-Whole.ensures).knows.0

  z_whole : c.loop-rows.t + c.in-Some-Whole.rows ≤ length c.args.z.now
  z_whole = le_same s_whole (same_count c.args.standard c.requires.joinable)

  -- the index of the cone's first value, which its map entry holds on the compact route
  starts-whole : Starts c.args.standard c.args.map.now c.loop-rows.entry c.loop-rows.t (row_count cone_of ∷ block_sizes after-whole)
  starts-whole = subst (λ (ps : List Part). Starts c.args.standard c.args.map.now c.loop-rows.entry c.loop-rows.t (block_sizes ps)) met_whole c.loop-rows.invariant.9

  here-whole : HasEntry c.args.standard c.args.map.now c.loop-rows.entry × (start_of c.args.standard c.loop-rows.t c.args.map.now c.loop-rows.entry ≡ c.loop-rows.t)
  here-whole = start_here c.args.standard c.args.map.now c.loop-rows.entry c.loop-rows.t (row_count cone_of) (block_sizes after-whole) starts-whole

-- ---- the next cone is decomposed

module _ (c : In-Some-Cut) where
  abbrev left-cut : List Part
  left-cut = ahead c.args.cones.now c.args.words.now c.loop-rows.place

  abbrev pattern_of : Pattern
  pattern_of = pattern_at c.args.words.now c.in-Some-Cut.at

  abbrev cut_of : Part
  cut_of = cut c.loop-rows.place.cone c.loop-rows.place.row c.loop-rows.place.pattern pattern_of

  abbrev after-cut : List Part
  after-cut = ahead c.args.cones.now c.args.words.now c.in-Some-Cut.next

  met_cut : left-cut ≡ cut_of ∷ after-cut
  met_cut = (rw c.in-Some-Cut.field-0-is at c.in-Some-Cut.ensures).self_value

  -- the pattern names its cone
  named-cut : T (names_its_cone (records c.args.cones.now) pattern_of)
  named-cut =
      let a = c.args in
      let q = c.loop-rows.place in
      cut-passes (names_its_cone (records a.cones.now)) q.cone q.row q.pattern (drop q.cone (records a.cones.now)) (patterns_ahead a.words.now q)
      q.cone q.row q.pattern pattern_of after-cut met_cut c.loop-rows.invariant.6.named

  -- the indices where the values of its blocks start, and those of the parts after it
  starts-cut : let ns = down_sizes pattern_of in
      Starts c.args.standard c.args.map.now c.loop-rows.entry c.loop-rows.t ns
      × Starts c.args.standard c.args.map.now (c.loop-rows.entry + length ns) (c.loop-rows.t + sum ns) (block_sizes after-cut)
  starts-cut =
      let a = c.args in
      starts-append a.standard a.map.now c.loop-rows.entry c.loop-rows.t (down_sizes pattern_of) (block_sizes after-cut)
      (subst (λ (ps : List Part). Starts a.standard a.map.now c.loop-rows.entry c.loop-rows.t (block_sizes ps)) met_cut c.loop-rows.invariant.9)

  -- there are at most 256 cliques
  cliques-cut : clique_count pattern_of ≤ 256
  cliques-cut = let h = (rw c.in-Some-Cut.field-0-is at c.in-Some-Cut.ensures).knows in le_trans (cliques-few pattern_of h.1) h.2

  few-cut : block_rows pattern_of ≤ 262144
  few-cut = first-few (block_rows pattern_of) (block_row_count after-cut) (block_row_count left-cut) 262144 (ap block_row_count met_cut) c.loop-rows.invariant.5

  -- the cone's rows and values
  rows_cut : (n : ℕ) → n ≡ triangle pattern_of.vertex_count → c.loop-rows.row + n ≤ c.args.m
  rows_cut n e =
      sum_fits c.loop-rows.row n (triangle pattern_of.vertex_count) (rows_of after-cut) (rows_of left-cut) c.args.m c.loop-rows.invariant.3 (ap rows_of met_cut) e

  s_cut : c.loop-rows.t + block_rows pattern_of ≤ length c.args.s.now
  s_cut =
      let k = block_rows pattern_of in
      sum_fits c.loop-rows.t k k (block_row_count after-cut) (block_row_count left-cut) (length c.args.s.now) c.loop-rows.invariant.4 (ap block_row_count met_cut) refl

-- ---- the proof obligations

pub loop-rows-init : goal.loop-rows-init
loop-rows-init c =
    let a = c.args in
    let ps = joined_parts a.cones.now a.count a.words.now in
    let w = c.start-place in
    let qs = ahead a.cones.now a.words.now w.result in
    let e = w.ensures.result_value in
    let t = c.first_value-t.result in
    let f = c.first_value-t.ensures in (
      subst (λ (k : ℕ). Joins (s_part a.standard) a.m (values_from (s_part a.standard) ps (drop k a.s.now)) a.s.now a.s_out.now qs 0 t a.s_out.now) f
          (joins_none (s_part a.standard) a.m a.s.now a.s_out.now c.requires.m_in_bounds.0 ps qs t e),
      subst (λ (k : ℕ). Joins (z_part a.standard) a.m (values_from (z_part a.standard) ps (drop k a.z.now)) a.z.now a.z_out.now qs 0 t a.z_out.now) f
          (joins_none (z_part a.standard) a.m a.z.now a.z_out.now c.requires.m_in_bounds.1 ps qs t e),
      (refl, cleared_first a.standard a.m a.cones.now a.counts.now c.requires.m_in_bounds.2),
      sum-begins (rows_of qs) (rows_of ps) a.m (ap rows_of e) (sound-total c.requires.joinable.sound),
      values_begin t (first_of a.standard a.m) (block_row_count qs) (block_row_count ps) (length a.s.now) f (ap block_row_count e) (values_last a.standard c.requires.joinable),
      same_le (ap block_row_count e) c.requires.joinable.few,
      w.ensures.reached,
      length-replicate {A = ℕ} 256 0,
      length-replicate {A = ℕ} 256 0,
      subst (λ (k : ℕ). Starts a.standard a.map.now 0 k (block_sizes qs)) (sym f) (subst (λ (rs : List Part). Starts a.standard a.map.now 0 (first_of a.standard a.m) (block_sizes rs)) (sym e) c.requires.starts),
      zero-le,
    )

pub next-requires : goal.next-requires
next-requires c = c.loop-rows.invariant.6

pub block_start-start-requires : goal.block_start-start-requires
block_start-start-requires c = (here-whole (goal.at.block_start-start-requires c).In-Some-Whole).0

pub join_whole-requires : goal.join_whole-requires
join_whole-requires c =
    let k = (goal.at.join_whole-requires c).In-Some-Whole in
    let began : c.block_start-start.result ≡ c.loop-rows.t = c.block_start-start.ensures ∙ (here-whole k).1 in
    (subst (λ (n : ℕ). n + c.in-Some-Whole.rows ≤ length c.args.s.now) (sym began) (s_whole k), le_same (le_trans (rows_whole k) c.requires.m_in_bounds.0) c.loop-rows.invariant.0.size)

pub join_whole-requires-in-Some-Whole : goal.join_whole-requires-in-Some-Whole
join_whole-requires-in-Some-Whole c =
    let k = (goal.at.join_whole-requires-in-Some-Whole c).In-Some-Whole in
    let began : c.block_start-start.result ≡ c.loop-rows.t = c.block_start-start.ensures ∙ (here-whole k).1 in
    (subst (λ (n : ℕ). n + c.in-Some-Whole.rows ≤ length c.args.z.now) (sym began) (z_whole k), le_same (le_trans (rows_whole k) c.requires.m_in_bounds.1) c.loop-rows.invariant.1.size)

pub overflow_add-row : goal.overflow_add-row
overflow_add-row c = omega (arith, rows_whole (goal.at.overflow_add-row c).In-Some-Whole)

pub overflow_add-t : goal.overflow_add-t
overflow_add-t c =
    let k = (goal.at.overflow_add-t c).In-Some-Whole in
    let began : c.block_start-start.result ≡ c.loop-rows.t = c.block_start-start.ensures ∙ (here-whole k).1 in
    fits_count 8 (subst (λ (n : ℕ). n + c.in-Some-Whole.rows ≤ length c.args.s.now) (sym began) (s_whole k)) c.well_formed.1.1.1.1.1.1.0

pub overflow_add-entry : goal.overflow_add-entry
overflow_add-entry c = omega (arith, c.loop-rows.invariant.10, (rw c.in-Some-Whole.field-0-is at c.in-Some-Whole.ensures).knows.2)

pub loop-rows-smaller-in-Some-Whole : goal.loop-rows-smaller-in-Some-Whole
loop-rows-smaller-in-Some-Whole c = omega (arith, ap length (rw c.in-Some-Whole.field-0-is at c.in-Some-Whole.ensures).self_value)

pub loop-rows-preserved-in-Some-Whole : goal.loop-rows-preserved-in-Some-Whole
loop-rows-preserved-in-Some-Whole c =
    let k = (goal.at.loop-rows-preserved-in-Some-Whole c).In-Some-Whole in
    let began : c.block_start-start.result ≡ c.loop-rows.t = c.block_start-start.ensures ∙ (here-whole k).1 in
    let v = c.join_whole in
    let w = c.join_whole-in-Some-Whole in
    let a = c.args in
    let q = c.loop-rows.place in
    let e = met_whole k in
    let n = c.in-Some-Whole.rows in
    let h = (rw c.in-Some-Whole.field-0-is at c.in-Some-Whole.ensures).knows in
    let row = c.loop-rows.row in
    let t = c.loop-rows.t in
    let ps = joined_parts a.cones.now a.count a.words.now in
    let from : (P : ℕ → Type 0) → P t → P c.block_start-start.result = λ P. subst P (sym began) in (
      from (λ (j : ℕ). Joins (s_part a.standard) a.m (values_from (s_part a.standard) ps (drop (first_of a.standard a.m) a.s.now)) a.s.now a.s_out.now (after-whole k) (row + n) (j + n) v.new.out) (joins_whole (s_part a.standard) a.m a.s.now a.s_out.now c.requires.m_in_bounds.0 (values_from (s_part a.standard) ps (drop (first_of a.standard a.m) a.s.now)) a.standard q.cone (cone_of k) q.row
          (after-whole k) (left-whole k) row t n c.loop-rows.s_out v.new.out (λ vs. refl) c.loop-rows.invariant.0 e (rows_whole k) h.0 (s_whole k)
          (by_same (λ (j : ℕ). written_at row (whole_values a.standard (part j (j + n) a.s.now)) c.loop-rows.s_out) v.ensures began)),
      from (λ (j : ℕ). Joins (z_part a.standard) a.m (values_from (z_part a.standard) ps (drop (first_of a.standard a.m) a.z.now)) a.z.now a.z_out.now (after-whole k) (row + n) (j + n) w.new.out) (joins_whole (z_part a.standard) a.m a.z.now a.z_out.now c.requires.m_in_bounds.1 (values_from (z_part a.standard) ps (drop (first_of a.standard a.m) a.z.now)) a.standard q.cone (cone_of k) q.row
          (after-whole k) (left-whole k) row t n c.loop-rows.z_out w.new.out (λ vs. refl) c.loop-rows.invariant.1 e (rows_whole k) h.0 (z_whole k)
          (by_same (λ (j : ℕ). written_at row (whole_values a.standard (part j (j + n) a.z.now)) c.loop-rows.z_out) w.ensures began)),
      c.loop-rows.invariant.2,
      sum-next row n (cone_rows (whole_of k)) (rows_of (after-whole k)) (rows_of (left-whole k)) a.m c.loop-rows.invariant.3 (ap rows_of e) h.0,
      from (λ (j : ℕ). j + n + block_row_count (after-whole k) ≡ length a.s.now)
          (sum-next t n (cone_rows (whole_of k)) (block_row_count (after-whole k)) (block_row_count (left-whole k)) (length a.s.now) c.loop-rows.invariant.4 (ap block_row_count e) h.0),
      rest-few (cone_rows (whole_of k)) (block_row_count (after-whole k)) (block_row_count (left-whole k)) 262144 (ap block_row_count e) c.loop-rows.invariant.5,
      h.5,
      c.loop-rows.invariant.7,
      c.loop-rows.invariant.8,
      from (λ (j : ℕ). Starts a.standard a.map.now (c.loop-rows.entry + 1) (j + n) (block_sizes (after-whole k)))
          (subst (λ (r : ℕ). Starts a.standard a.map.now (c.loop-rows.entry + 1) (t + r) (block_sizes (after-whole k))) (sym h.0)
          (starts-next a.standard a.map.now c.loop-rows.entry t (row_count (cone_of k)) (block_sizes (after-whole k)) (starts-whole k))),
      more_entries c.loop-rows.entry 1 q.cone c.in-Some-Whole.next.cone c.loop-rows.invariant.10 (lit≤ tt) h.4,
    )

pub cone_rows-n-requires : goal.cone_rows-n-requires
cone_rows-n-requires c = let h = (rw c.in-Some-Cut.field-0-is at c.in-Some-Cut.ensures).knows in (h.1, h.2)

pub slice_bounds-join_cut-end : goal.slice_bounds-join_cut-end
slice_bounds-join_cut-end c = sym c.loop-rows.invariant.7

pub slice_bounds-join_cut-end-in-Some-Cut : goal.slice_bounds-join_cut-end-in-Some-Cut
slice_bounds-join_cut-end-in-Some-Cut c = sym c.loop-rows.invariant.8

pub join_cut-t-requires : goal.join_cut-t-requires
join_cut-t-requires c =
    let k = (goal.at.join_cut-t-requires c).In-Some-Cut in
    let a = c.args in
    let h = (rw c.in-Some-Cut.field-0-is at c.in-Some-Cut.ensures).knows in
    let n = c.cone_rows-n.result in
    let rows = rows_cut k n c.cone_rows-n.ensures in
    record {
      right_pattern = (h.1, h.2, c.cone_rows-n.ensures);
      n_in_bounds = (le_same (le_trans rows c.requires.m_in_bounds.0) c.loop-rows.invariant.0.size, le_same (le_trans rows c.requires.m_in_bounds.1) c.loop-rows.invariant.1.size);
      at_bound = (few-cut k, s_cut k, same_count a.standard c.requires.joinable);
      counts_rows = (
        counts-rows a.standard a.m n a.cones.now a.counts.now c.loop-rows.counts (pattern_of k) c.cone_rows-n.ensures (part-le c.loop-rows.row n a.m rows) h.2
            c.loop-rows.invariant.2.0 (named-cut k) c.requires.m_in_bounds.2,
        c.loop-rows.invariant.2.1,
      );
      in_bounds = (le_of_eq (sym c.loop-rows.invariant.7), le_of_eq (sym c.loop-rows.invariant.8));
      starts = ((starts-cut k).0, few-entries c.loop-rows.entry c.loop-rows.place.cone c.loop-rows.invariant.10 h.4);
    }

pub overflow_add-row-in-Some-Cut : goal.overflow_add-row-in-Some-Cut
overflow_add-row-in-Some-Cut c = omega (arith, rows_cut (goal.at.overflow_add-row-in-Some-Cut c).In-Some-Cut c.cone_rows-n.result c.cone_rows-n.ensures)

pub clique_count-requires : goal.clique_count-requires
clique_count-requires c = (rw c.in-Some-Cut.field-0-is at c.in-Some-Cut.ensures).knows.1

pub overflow_add-entry-in-Some-Cut : goal.overflow_add-entry-in-Some-Cut
overflow_add-entry-in-Some-Cut c =
    omega (arith, c.loop-rows.invariant.10, (rw c.in-Some-Cut.field-0-is at c.in-Some-Cut.ensures).knows.4, cliques-cut (goal.at.overflow_add-entry-in-Some-Cut c).In-Some-Cut, c.clique_count.ensures)

pub loop-rows-smaller : goal.loop-rows-smaller
loop-rows-smaller c = omega (arith, ap length (rw c.in-Some-Cut.field-0-is at c.in-Some-Cut.ensures).self_value)

pub loop-rows-preserved : goal.loop-rows-preserved
loop-rows-preserved c =
    let k = (goal.at.loop-rows-preserved c).In-Some-Cut in
    let count = c.clique_count in
    let a = c.args in
    let p = pattern_of k in
    let e = met_cut k in
    let n = c.cone_rows-n.ensures in
    let rows = rows_cut k c.cone_rows-n.result n in
    let w = c.join_cut-t in
    let row = c.loop-rows.row in
    let t = c.loop-rows.t in
    let ps = joined_parts a.cones.now a.count a.words.now in (
      joins_more (s_part a.standard) a.m a.s.now a.s_out.now c.requires.m_in_bounds.0 (values_from (s_part a.standard) ps (drop (first_of a.standard a.m) a.s.now)) (cut_of k) (after-cut k) (left-cut k) row t
          c.cone_rows-n.result w.result c.loop-rows.s_out w.new.s_out c.loop-rows.invariant.0 e rows w.ensures.value
          (length_s_cut a.standard p (drop t a.s.now) ∙ sym n) w.ensures.s_out_after,
      joins_more (z_part a.standard) a.m a.z.now a.z_out.now c.requires.m_in_bounds.1 (values_from (z_part a.standard) ps (drop (first_of a.standard a.m) a.z.now)) (cut_of k) (after-cut k) (left-cut k) row t
          c.cone_rows-n.result w.result c.loop-rows.z_out w.new.z_out c.loop-rows.invariant.1 e rows w.ensures.value
          (length_z_cut a.standard p (drop t a.z.now) ∙ sym n) w.ensures.z_out_after,
      (◌∙◌ {b = length c.loop-rows.counts} w.auto.counts c.loop-rows.invariant.2.0, w.ensures.cleared),
      sum-next row c.cone_rows-n.result (triangle p.vertex_count) (rows_of (after-cut k)) (rows_of (left-cut k)) a.m c.loop-rows.invariant.3 (ap rows_of e) n,
      values-next t w.result (block_rows p) (block_row_count (after-cut k)) (block_row_count (left-cut k)) (length a.s.now) c.loop-rows.invariant.4 (ap block_row_count e) w.ensures.value,
      rest-few (block_rows p) (block_row_count (after-cut k)) (block_row_count (left-cut k)) 262144 (ap block_row_count e) c.loop-rows.invariant.5,
      (rw c.in-Some-Cut.field-0-is at c.in-Some-Cut.ensures).knows.6,
      ◌∙◌ {b = length c.loop-rows.offsets} w.auto.offsets c.loop-rows.invariant.7,
      ◌∙◌ {b = length c.loop-rows.vertices} w.auto.vertices c.loop-rows.invariant.8,
      subst (λ (n : ℕ). Starts a.standard a.map.now (c.loop-rows.entry + n) w.result (block_sizes (after-cut k))) (sizes-count p ∙ sym count.ensures)
          (subst (λ (n : ℕ). Starts a.standard a.map.now (c.loop-rows.entry + length (down_sizes p)) n (block_sizes (after-cut k)))
          (ap (λ (n : ℕ). t + n) (sizes-sum p) ∙ sym w.ensures.value) (starts-cut k).1),
      more_entries c.loop-rows.entry count.result c.loop-rows.place.cone c.in-Some-Cut.next.cone c.loop-rows.invariant.10 (same_le count.ensures (cliques-cut k)) (rw c.in-Some-Cut.field-0-is at c.in-Some-Cut.ensures).knows.5,
    )

pub shape_of-s_out : goal.shape_of-s_out
shape_of-s_out c = c.loop-rows.invariant.0.size

pub shape_of-z_out : goal.shape_of-z_out
shape_of-z_out c = c.loop-rows.invariant.1.size

pub shape_of-counts : goal.shape_of-counts
shape_of-counts c = c.loop-rows.invariant.2.0

pub returns : goal.returns
returns c =
    let a = c.args in
    let ps = joined_parts a.cones.now a.count a.words.now in
    let left : List Part = ahead a.cones.now a.words.now c.loop-rows.place in
    let none : left ≡ [] = c.in-None.ensures.self_value in
    let all : c.loop-rows.row ≡ a.m = sum_done c.loop-rows.row (rows_of left) a.m c.loop-rows.invariant.3 (ap rows_of none) in
    record {
      s_out_after = by_same (λ (xs : List Float). written xs a.s_out.now)
          (joins_done (s_part a.standard) a.m a.s.now a.s_out.now c.requires.m_in_bounds.0 (values_from (s_part a.standard) ps (drop (first_of a.standard a.m) a.s.now)) left c.loop-rows.row c.loop-rows.t
          c.loop-rows.s_out c.loop-rows.invariant.0 none all)
          (joined_s a.standard c.requires.joinable);
      z_out_after = by_same (λ (xs : List Float). written xs a.z_out.now)
          (joins_done (z_part a.standard) a.m a.z.now a.z_out.now c.requires.m_in_bounds.1 (values_from (z_part a.standard) ps (drop (first_of a.standard a.m) a.z.now)) left c.loop-rows.row c.loop-rows.t
          c.loop-rows.z_out c.loop-rows.invariant.1 none all)
          (joined_z a.standard c.requires.joinable);
    }
