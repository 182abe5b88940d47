use Prim.Native.Nat.{ℕ, ◌+◌, ◌-◌, ◌≤◌, ◌<◌}
use native.Mathlib.Omega.{arith}
use mathlib.Core.Path.{◌≡◌, refl, sym, ap, ◌∙◌}
use mathlib.Core.Logic.{inl}
use mathlib.Core.List.{List, [], ◌∷◌, map, map-append}
use borrow.Author.Rules.{rules}
use lib.ListN.{length, get_or, take, length-set}
use lib.Seq.{take_all}
use Rattle.layout.specs.Cuts.Compact.{Entry, rows_of}
use Rattle.layout.specs.Calls.Generate.{drawn_value, drawn_column, after_column}
use Rattle.layout.proofs.Lists.Buffers.{take_none}
use Rattle.layout.proofs.Columns.Compressed.{values_of}
use Rattle.generator_columns.proofs.Steps.{Between, Turn, turn, going, next-count, next-kept, all_drawn}
use Rattle.generator_columns.proofs.keep_column.Statement.{statement}
use Rattle.generator_columns.proofs.keep_column.Tie as tie

abbrev invariant-loop : tie.invariant-loop-i
invariant-loop s rows kept-rows₀ kept₀ state₀ count₀ due₀ i₀ kept-rows kept state count due i =
    (i ≤ length rows) × (count ≤ i) × (due ≤ 1) × (count ≡ length (drawn_column s (take i rows))) × Between s rows i due state
    × (length kept-rows ≡ length kept-rows₀) × (length kept ≡ length kept₀)
    × (take count kept-rows ≡ rows_of (drawn_column s (take i rows)))
    × (map drawn_value (take count kept) ≡ values_of (drawn_column s (take i rows)))

abbrev decreases-loop : tie.decreases-loop-i
decreases-loop s rows kept-rows₀ kept₀ state₀ count₀ due₀ i₀ kept-rows kept state count due i = length rows - i + (length rows - i) - due

-- what the draw decides
turned : (c : tie.After-due_after-due invariant-loop decreases-loop)
    → let d = c.before.before in let l = d.before.before in let a = l.args in
    Turn a.s a.rows.now l.loop-i.i l.loop-i.due d.draw-state.result c.due_after-due.result
turned c =
    let d = c.before.before in
    let l = d.before.before in
    let a = l.args in
    rw c.due_after-due.ensures
    (turn a.s a.rows.now l.loop-i.i l.loop-i.due l.loop-i.state d.draw-state.result (omega arith) d.draw-state.ensures l.loop-i.invariant.4)

-- the loop's state after the draw
went : (c : tie.After-due_after-due invariant-loop decreases-loop)
    → let d = c.before.before in let l = d.before.before in let a = l.args in let k = c.due_after-due.result in let at = l.loop-i.i + (1 - k) in
    let n = length a.rows.now in
    (k ≤ 1) × (at ≤ n) × (l.loop-i.count + l.loop-i.due ≤ at) × (n - at + (n - at) - k < n - l.loop-i.i + (n - l.loop-i.i) - l.loop-i.due)
    × Between a.s a.rows.now at k d.draw-state.result
went c =
    let d = c.before.before in
    let l = d.before.before in
    let a = l.args in
    going a.s a.rows.now l.loop-i.i l.loop-i.count l.loop-i.due d.draw-state.result c.due_after-due.result (omega arith) l.loop-i.invariant.1 (turned c)

loop-holds : tie.Need-loop-i-init invariant-loop decreases-loop
loop-holds c =
    let a = c.args in
    let none = take_none a.rows.now in (
      search rules,
      search rules,
      search rules,
      sym (ap (λ (xs : List ℕ). length (drawn_column a.s xs)) none),
      inl (refl, sym (ap (after_column a.s) none)),
      refl,
      refl,
      take_none a.kept_rows.now ∙ sym (ap (λ (xs : List ℕ). rows_of (drawn_column a.s xs)) none),
      ap (map drawn_value) (take_none a.kept.now) ∙ sym (ap (λ (xs : List ℕ). values_of (drawn_column a.s xs)) none),
    )

draw-requires : tie.Need-draw-state-requires invariant-loop decreases-loop
draw-requires c κs = search rules

mul-kept-rows : tie.Need-offset_bounds-rows-i invariant-loop decreases-loop
mul-kept-rows c = omega arith

shared-slice-read-kept-rows : tie.Need-bounds-rows-i invariant-loop decreases-loop
shared-slice-read-kept-rows c = omega arith

mul-kept-rows-2 : tie.Need-offset_bounds-kept_rows-count invariant-loop decreases-loop
mul-kept-rows-2 c = omega arith

slice-write-kept-rows : tie.Need-bounds-kept_rows-count invariant-loop decreases-loop
slice-write-kept-rows c = omega arith

mul-kept : tie.Need-offset_bounds-kept-count invariant-loop decreases-loop
mul-kept c = omega arith

slice-write-kept : tie.Need-bounds-kept-count invariant-loop decreases-loop
slice-write-kept c = omega arith

add-count : tie.Need-overflow_add-count invariant-loop decreases-loop
add-count c = omega arith

due-after-requires : tie.Need-due_after-due-requires invariant-loop decreases-loop
due-after-requires c κs = search rules

sub-i : tie.Need-overflow_sub-i invariant-loop decreases-loop
sub-i c = omega (arith, (went c).0)

add-i : tie.Need-overflow_add-i invariant-loop decreases-loop
add-i c = omega (arith, (went c).0, (went c).1)

loop-less : tie.Need-loop-i-smaller invariant-loop decreases-loop
loop-less c = (went c).3

loop-again : tie.Need-loop-i-preserved invariant-loop decreases-loop
loop-again c =
    let d = c.before.before in
    let l = d.before.before in
    let a = l.args in
    let (small, inside, few, _, between) = went c in (
      inside,
      few,
      small,
      next-count a.s a.rows.now l.loop-i.i l.loop-i.count l.loop-i.due d.draw-state.result c.due_after-due.result (omega arith) l.loop-i.invariant.1 (turned c) l.loop-i.invariant.3,
      between,
      simp length-set l.loop-i.invariant.5,
      simp length-set l.loop-i.invariant.6,
      next-kept a.s a.rows.now l.loop-i.i l.loop-i.count l.loop-i.due d.draw-state.result c.due_after-due.result (omega arith) l.loop-i.invariant.1 (turned c)
          (λ (e : Entry). e.row) (λ (xs : List ℕ). xs) (get_or a.rows.now l.loop-i.i 0) (λ ys. refl) l.loop-i.kept_rows (omega arith) l.loop-i.invariant.7,
      next-kept a.s a.rows.now l.loop-i.i l.loop-i.count l.loop-i.due d.draw-state.result c.due_after-due.result (omega arith) l.loop-i.invariant.1 (turned c)
          (λ (e : Entry). e.value) (map drawn_value) d.draw-state.result (λ ys. map-append drawn_value ys (d.draw-state.result ∷ [])) l.loop-i.kept (omega arith) l.loop-i.invariant.8,
    )

same_length : tie.Need-shape_of-kept_rows invariant-loop decreases-loop
same_length c = c.loop-i.invariant.5

same-length-2 : tie.Need-shape_of-kept invariant-loop decreases-loop
same-length-2 c = c.loop-i.invariant.6

returns : tie.Need-returns invariant-loop decreases-loop
returns c =
    let l = c.before in
    let a = l.args in
    let e : take l.loop-i.i a.rows.now ≡ a.rows.now = take_all l.loop-i.i a.rows.now c.loop-i-test.false in (
      (
        l.loop-i.invariant.3 ∙ ap (λ (xs : List ℕ). length (drawn_column a.s xs)) e,
        all_drawn a.s a.rows.now l.loop-i.i l.loop-i.due l.loop-i.state c.loop-i-test.false l.loop-i.invariant.4 ∙ ap (after_column a.s) e,
      ),
      (
        l.loop-i.invariant.7 ∙ ap (λ (xs : List ℕ). rows_of (drawn_column a.s xs)) e,
        l.loop-i.invariant.8 ∙ ap (λ (xs : List ℕ). values_of (drawn_column a.s xs)) e,
      ),
    )

pub keep_column_spec : {M : Type 1} → statement M
keep_column_spec =
    tie.close
    (tie.spec
    invariant-loop
    decreases-loop
    loop-holds
    draw-requires
    mul-kept-rows
    shared-slice-read-kept-rows
    mul-kept-rows-2
    slice-write-kept-rows
    mul-kept
    slice-write-kept
    add-count
    due-after-requires
    sub-i
    add-i
    loop-less
    loop-again
    same_length
    same-length-2
    returns)
