use Prim.Native.Nat.{ℕ, ◌+◌, ◌-◌, ◌≤◌, ◌<◌}
use native.Mathlib.Omega.{arith}
use mathlib.Core.Path.{◌≡◌, refl, sym, ap, ◌∙◌}
use mathlib.Core.Logic.{inl}
use mathlib.Core.List.{List}
use borrow.Author.Rules.{rules}
use lib.ListN.{length, take}
use lib.Seq.{take_all}
use Rattle.layout.specs.Calls.Generate.{drawn_column, after_column}
use Rattle.layout.proofs.Lists.Buffers.{take_none}
use Rattle.generator_columns.proofs.Steps.{Between, Turn, turn, going, next-count, all_drawn}
use Rattle.generator_columns.proofs.count_column.Statement.{statement}
use Rattle.generator_columns.proofs.count_column.Tie as tie

abbrev invariant-loop : tie.invariant-loop-i
invariant-loop s rows state₀ count₀ due₀ i₀ state count due i =
    (i ≤ length rows) × (count ≤ i) × (due ≤ 1) × (count ≡ length (drawn_column s (take i rows))) × Between s rows i due state

abbrev decreases-loop : tie.decreases-loop-i
decreases-loop s rows state₀ count₀ due₀ i₀ state count due i = length rows - i + (length rows - i) - due

-- what the draw decides
turned : (c : tie.After-due_after-due invariant-loop decreases-loop)
    → let d = c.before in let l = d.before.before in let a = l.args in
    Turn a.s a.rows.now l.loop-i.i l.loop-i.due d.draw-state.result c.due_after-due.result
turned c =
    let d = c.before in
    let l = d.before.before in
    let a = l.args in
    rw c.due_after-due.ensures
    (turn a.s a.rows.now l.loop-i.i l.loop-i.due l.loop-i.state d.draw-state.result (omega arith) d.draw-state.ensures l.loop-i.invariant.4)

-- the loop's state after the draw
went : (c : tie.After-due_after-due invariant-loop decreases-loop)
    → let d = c.before in let l = d.before.before in let a = l.args in let k = c.due_after-due.result in let at = l.loop-i.i + (1 - k) in
    let n = length a.rows.now in
    (k ≤ 1) × (at ≤ n) × (l.loop-i.count + l.loop-i.due ≤ at) × (n - at + (n - at) - k < n - l.loop-i.i + (n - l.loop-i.i) - l.loop-i.due)
    × Between a.s a.rows.now at k d.draw-state.result
went c =
    let d = c.before in
    let l = d.before.before in
    let a = l.args in
    going a.s a.rows.now l.loop-i.i l.loop-i.count l.loop-i.due d.draw-state.result c.due_after-due.result (omega arith) l.loop-i.invariant.1 (turned c)

loop-holds : tie.Need-loop-i-init invariant-loop decreases-loop
loop-holds c = let a = c.args in (search rules, search rules, search rules, sym (ap (λ (xs : List ℕ). length (drawn_column a.s xs)) (take_none a.rows.now)), inl (refl, sym (ap (after_column a.s) (take_none a.rows.now))))

draw-requires : tie.Need-draw-state-requires invariant-loop decreases-loop
draw-requires c κs = search rules

add-count : tie.Need-overflow_add-count invariant-loop decreases-loop
add-count c = omega arith

due-after-requires : tie.Need-due_after-due-requires invariant-loop decreases-loop
due-after-requires c κs = search rules

sub-i : tie.Need-overflow_sub-i invariant-loop decreases-loop
sub-i c = omega (arith, (went c).0)

add-i : tie.Need-overflow_add-i invariant-loop decreases-loop
add-i c = omega (arith, (went c).0, (went c).1)

loop-less : tie.Need-loop-i-smaller invariant-loop decreases-loop
loop-less c = (went c).3

loop-again : tie.Need-loop-i-preserved invariant-loop decreases-loop
loop-again c =
    let d = c.before in
    let l = d.before.before in
    let a = l.args in
    let (small, inside, few, _, between) = went c in (
      inside,
      few,
      small,
      next-count a.s a.rows.now l.loop-i.i l.loop-i.count l.loop-i.due d.draw-state.result c.due_after-due.result (omega arith) l.loop-i.invariant.1 (turned c) l.loop-i.invariant.3,
      between,
    )

returns : tie.Need-returns invariant-loop decreases-loop
returns c =
    let l = c.before in
    let a = l.args in
    let e : take l.loop-i.i a.rows.now ≡ a.rows.now = take_all l.loop-i.i a.rows.now c.loop-i-test.false in (
      l.loop-i.invariant.3 ∙ ap (λ (xs : List ℕ). length (drawn_column a.s xs)) e,
      all_drawn a.s a.rows.now l.loop-i.i l.loop-i.due l.loop-i.state c.loop-i-test.false l.loop-i.invariant.4 ∙ ap (after_column a.s) e,
    )

pub count_column_spec : {M : Type 1} → statement M
count_column_spec =
    tie.close
    (tie.spec
    invariant-loop
    decreases-loop
    loop-holds
    draw-requires
    add-count
    due-after-requires
    sub-i
    add-i
    loop-less
    loop-again
    returns)
