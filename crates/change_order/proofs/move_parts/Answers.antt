use Prim.Native.Nat.{ℕ, ◌+◌, ◌≤◌}
use native.Mathlib.Omega.{arith}
use mathlib.Core.Path.{◌≡◌, refl, ap, ap₂, ◌∙◌}
use mathlib.Core.List.{List, [], ◌∷◌, ◌++◌}
use lib.ListN.{length, get_or, take, drop}
use lib.Ieee.{Float}
use Rattle.layout.specs.Problems.Cones.{records}
use Rattle.layout.specs.Rows.Blocks.{Part, whole, cut, part_rows, block_row_count}
use Rattle.layout.specs.Checks.{no_cone}
use Rattle.layout.specs.Rows.Orders.{block_lengths, last_first, compact_order}
use Rattle.layout.specs.Calls.Join.{joined_parts}
use Rattle.layout.proofs.Lists.Buffers.{take_none}
use Rattle.supernode_tree.specs.Reads.{pattern_at}
use Rattle.walk_cones.specs.Ahead.{ahead}
use Rattle.join_blocks.proofs.Room.{fits_count}
use Rattle.join_cones.specs.Parts.{written_at}
use Rattle.change_order.proofs.Laws.{part_more, rest-kept, length-kept, parts-done}
use Rattle.change_order.proofs.move_parts.Invariants.{Moved}
use Rattle.change_order.proofs.move_parts.Goals as goal
use Rattle.change_order.proofs.move_parts.Goals.{At-loop-rows, In-Some-Whole, In-Some-Cut}

-- inputs and outputs are long enough for the values of part x
abbrev Fits : ℕ → Part → List Float → List Float → Type 0
Fits t x vs out = (t + part_rows x ≤ length vs) × (t + part_rows x ≤ length out)

abbrev left : At-loop-rows → List Part
left l = ahead l.args.cones.now l.args.words.now l.loop-rows.place

abbrev all-parts : At-loop-rows → List Part
all-parts l = joined_parts l.args.cones.now l.args.count l.args.words.now

module _ (l : At-loop-rows) (x : Part) (later : List Part) (e : left l ≡ x ∷ later) where
  s_fits : Fits l.loop-rows.t x l.args.s.now l.loop-rows.s_out
  s_fits =
      let i = l.loop-rows.invariant in
      (omega (arith, i.0, ap block_row_count e, l.requires.words_in_bounds.0), omega (arith, i.0, i.1.0, ap block_row_count e, l.requires.words_in_bounds_2.0))

  z_fits : Fits l.loop-rows.t x l.args.z.now l.loop-rows.z_out
  z_fits =
      let i = l.loop-rows.invariant in
      (omega (arith, i.0, ap block_row_count e, l.requires.words_in_bounds.1), omega (arith, i.0, i.2.0, ap block_row_count e, l.requires.words_in_bounds_2.1))

  total : l.loop-rows.t + part_rows x + block_row_count later ≡ block_row_count (all-parts l)
  total = omega (arith, l.loop-rows.invariant.0, ap block_row_count e)

-- after moving one more part
moves : (x : Part) (ps before later : List Part) (vs first old new : List Float) (t end : ℕ) → before ≡ x ∷ later → Fits t x vs old
    → end ≡ t + part_rows x → new ≡ written_at t (last_first (block_lengths x) (drop t vs)) old
    → Moved ps before vs first old t → Moved ps later vs first new end
moves x ps before later vs first old new t end e f ends put h = (
  length-kept x before later vs first old new t end (compact_order ps vs) e f.0 f.1 ends put ∙ h.0,
  part_more x before later vs first old new t end (compact_order ps vs) e f.0 f.1 ends put h.1,
  rest-kept x before later vs first old new t end (compact_order ps vs) e f.0 f.1 ends put h.2,
)

-- when the next cone is not decomposed
abbrev whole_of : In-Some-Whole → Part
whole_of c = let q = c.loop-rows.place in whole q.cone (get_or (records c.args.cones.now) q.cone no_cone) q.row

abbrev after-whole : In-Some-Whole → List Part
after-whole c = ahead c.args.cones.now c.args.words.now c.in-Some-Whole.next

-- when the next cone is decomposed
abbrev cut_of : In-Some-Cut → Part
cut_of c = let q = c.loop-rows.place in cut q.cone q.row q.pattern (pattern_at c.args.words.now c.in-Some-Cut.at)

abbrev after-cut : In-Some-Cut → List Part
after-cut c = ahead c.args.cones.now c.args.words.now c.in-Some-Cut.next

-- before any part is moved
begins : (ps left : List Part) (vs out : List Float) → left ≡ ps → Moved ps left vs out out 0
begins ps left vs out e = (refl, ap₂ ◌++◌ (take_none out) (ap (λ (qs : List Part). compact_order qs vs) e), refl)

pub loop-rows-init : goal.loop-rows-init
loop-rows-init c =
    let a = c.args in
    let ps = joined_parts a.cones.now a.count a.words.now in
    let e = c.start-place.ensures.result_value in (
      omega (arith, ap block_row_count e),
      begins ps _ a.s.now a.s_out.now e,
      begins ps _ a.z.now a.z_out.now e,
      c.start-place.ensures.reached,
    )

pub next-requires : goal.next-requires
next-requires c = c.loop-rows.invariant.3

pub move_values-requires : goal.move_values-requires
move_values-requires c =
    let k = (goal.at.move_values-requires c).In-Some-Whole in
    let l = (goal.at.move_values-requires c).At-loop-rows in
    let f = s_fits l (whole_of k) (after-whole k) (rw c.in-Some-Whole.field-0-is at c.in-Some-Whole.ensures).self_value in
    let h = (rw c.in-Some-Whole.field-0-is at c.in-Some-Whole.ensures).knows in
    (omega (arith, f.0, h.0), omega (arith, f.1, h.0))

pub move_values-requires-in-Some-Whole : goal.move_values-requires-in-Some-Whole
move_values-requires-in-Some-Whole c =
    let k = (goal.at.move_values-requires-in-Some-Whole c).In-Some-Whole in
    let l = (goal.at.move_values-requires-in-Some-Whole c).At-loop-rows in
    let f = z_fits l (whole_of k) (after-whole k) (rw c.in-Some-Whole.field-0-is at c.in-Some-Whole.ensures).self_value in
    let h = (rw c.in-Some-Whole.field-0-is at c.in-Some-Whole.ensures).knows in
    (omega (arith, f.0, h.0), omega (arith, f.1, h.0))

pub overflow_add-t : goal.overflow_add-t
overflow_add-t c =
    let k = (goal.at.overflow_add-t c).In-Some-Whole in
    let l = (goal.at.overflow_add-t c).At-loop-rows in
    let f = s_fits l (whole_of k) (after-whole k) (rw c.in-Some-Whole.field-0-is at c.in-Some-Whole.ensures).self_value in
    fits_count {n = length c.args.s.now} 8 (omega (arith, f.0, (rw c.in-Some-Whole.field-0-is at c.in-Some-Whole.ensures).knows.0)) c.well_formed.1.1.1.1.0

pub loop-rows-smaller-in-Some-Whole : goal.loop-rows-smaller-in-Some-Whole
loop-rows-smaller-in-Some-Whole c = omega (arith, ap length (rw c.in-Some-Whole.field-0-is at c.in-Some-Whole.ensures).self_value)

pub loop-rows-preserved-in-Some-Whole : goal.loop-rows-preserved-in-Some-Whole
loop-rows-preserved-in-Some-Whole c =
    let k = (goal.at.loop-rows-preserved-in-Some-Whole c).In-Some-Whole in
    let l = (goal.at.loop-rows-preserved-in-Some-Whole c).At-loop-rows in
    let a = c.args in
    let i = c.loop-rows.invariant in
    let h = (rw c.in-Some-Whole.field-0-is at c.in-Some-Whole.ensures).knows in
    let x = whole_of k in
    let later = after-whole k in
    let e = (rw c.in-Some-Whole.field-0-is at c.in-Some-Whole.ensures).self_value in
    let t = c.loop-rows.t in
    let end : ℕ = t + c.in-Some-Whole.rows in
    let ends = ap (λ (n : ℕ). t + n) h.0 in
    let put : List Float → List Float → ℕ → List Float = λ vs old n. written_at t (take n (drop t vs)) old in (
      omega (arith, total l x later e, h.0),
      moves x (all-parts l) (left l) later a.s.now a.s_out.now c.loop-rows.s_out c.move_values.new.out t end e
          (s_fits l x later e) ends (c.move_values.ensures ∙ ap (put a.s.now c.loop-rows.s_out) h.0) i.1,
      moves x (all-parts l) (left l) later a.z.now a.z_out.now c.loop-rows.z_out c.move_values-in-Some-Whole.new.out t end e
          (z_fits l x later e) ends (c.move_values-in-Some-Whole.ensures ∙ ap (put a.z.now c.loop-rows.z_out) h.0) i.2,
      h.5,
    )

pub move_cut-t-requires : goal.move_cut-t-requires
move_cut-t-requires c =
    let k = (goal.at.move_cut-t-requires c).In-Some-Cut in
    let l = (goal.at.move_cut-t-requires c).At-loop-rows in
    let h = (rw c.in-Some-Cut.field-0-is at c.in-Some-Cut.ensures).knows in
    let f = s_fits l (cut_of k) (after-cut k) (rw c.in-Some-Cut.field-0-is at c.in-Some-Cut.ensures).self_value in
    let g = z_fits l (cut_of k) (after-cut k) (rw c.in-Some-Cut.field-0-is at c.in-Some-Cut.ensures).self_value in
    record { right_pattern = (h.1, h.2); at_in_bounds = (f.0, g.0); at_in_bounds_2 = (f.1, g.1) }

pub loop-rows-smaller : goal.loop-rows-smaller
loop-rows-smaller c = omega (arith, ap length (rw c.in-Some-Cut.field-0-is at c.in-Some-Cut.ensures).self_value)

pub loop-rows-preserved : goal.loop-rows-preserved
loop-rows-preserved c =
    let k = (goal.at.loop-rows-preserved c).In-Some-Cut in
    let l = (goal.at.loop-rows-preserved c).At-loop-rows in
    let w = c.move_cut-t in
    let a = c.args in
    let i = c.loop-rows.invariant in
    let x = cut_of k in
    let later = after-cut k in
    let e = (rw c.in-Some-Cut.field-0-is at c.in-Some-Cut.ensures).self_value in
    let t = c.loop-rows.t in
    let end = w.result in
    let done = w.ensures in (
      omega (arith, total l x later e, done.value),
      moves x (all-parts l) (left l) later a.s.now a.s_out.now c.loop-rows.s_out w.new.s_out t end e
          (s_fits l x later e) done.value done.s_out_after i.1,
      moves x (all-parts l) (left l) later a.z.now a.z_out.now c.loop-rows.z_out w.new.z_out t end e
          (z_fits l x later e) done.value done.z_out_after i.2,
      (rw c.in-Some-Cut.field-0-is at c.in-Some-Cut.ensures).knows.6,
    )

pub shape_of-s_out : goal.shape_of-s_out
shape_of-s_out c = c.loop-rows.invariant.1.0

pub shape_of-z_out : goal.shape_of-z_out
shape_of-z_out c = c.loop-rows.invariant.2.0

pub returns : goal.returns
returns c =
    let l = (goal.at.returns c).At-loop-rows in
    let a = c.args in
    let i = c.loop-rows.invariant in
    let none : left l ≡ [] = c.in-None.ensures.self_value in
    record {
      s_out_after = parts-done (left l) a.s.now a.s_out.now c.loop-rows.s_out (compact_order (all-parts l) a.s.now) c.loop-rows.t none
          (omega (arith, i.0, i.1.0, c.requires.words_in_bounds_2.0)) i.1.1 i.1.2;
      z_out_after = parts-done (left l) a.z.now a.z_out.now c.loop-rows.z_out (compact_order (all-parts l) a.z.now) c.loop-rows.t none
          (omega (arith, i.0, i.2.0, c.requires.words_in_bounds_2.1)) i.2.1 i.2.2;
    }
