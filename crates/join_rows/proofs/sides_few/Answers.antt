use Rattle.std.proofs.Common.{◌≡◌, ◌∙◌, Bool, ap, sym, arith}
use Rattle.layout.specs.Problems.Cones.{Cone, records}
use Rattle.layout.specs.Checks.{no_cone}
use Rattle.layout.proofs.Lists.Walks.{all-step, all_fails, all_done}
use Rattle.supportedcone.specs.Cases.{record_at}
use Rattle.supportedcone.proofs.Records.{inside, record_in}
use Rattle.join_rows.specs.Counts.{side_few}
use Rattle.join_rows.proofs.sides_few.Goals as goal

abbrev few : Cone → Bool
few c = side_few c.kind c.first

pub overflow_mul-at : goal.overflow_mul-at
overflow_mul-at c = omega (arith, inside c.args.cones.now c.loop-i.i (omega arith))

pub offset_bounds-cones-at : goal.offset_bounds-cones-at
offset_bounds-cones-at c = omega (arith, inside c.args.cones.now c.loop-i.i (omega arith))

pub bounds-cones-at : goal.bounds-cones-at
bounds-cones-at c = omega (arith, inside c.args.cones.now c.loop-i.i (omega arith))

pub overflow_add-at : goal.overflow_add-at
overflow_add-at c = omega (arith, inside c.args.cones.now c.loop-i.i (omega arith))

pub offset_bounds-cones-at-in-loop-i : goal.offset_bounds-cones-at-in-loop-i
offset_bounds-cones-at-in-loop-i c = omega (arith, inside c.args.cones.now c.loop-i.i (omega arith))

pub bounds-cones-at-in-loop-i : goal.bounds-cones-at-in-loop-i
bounds-cones-at-in-loop-i c = omega (arith, inside c.args.cones.now c.loop-i.i (omega arith))

pub returns-then-not-side_few : goal.returns-then-not-side_few
returns-then-not-side_few c =
    let ws = c.args.cones.now in
    let tested : c.side_few.result ≡ few (record_at ws c.loop-i.i) = c.side_few.ensures ∙ ap few (sym (record_in ws c.loop-i.i (omega arith))) in
    sym (c.loop-i.invariant ∙ all_fails few (records ws) c.loop-i.i no_cone (omega arith) (sym tested ∙ c.if-not-side_few.true))

pub loop-i-preserved : goal.loop-i-preserved
loop-i-preserved c =
    let ws = c.args.cones.now in
    let tested : c.side_few.result ≡ few (record_at ws c.loop-i.i) = c.side_few.ensures ∙ ap few (sym (record_in ws c.loop-i.i (omega arith))) in
    c.loop-i.invariant ∙ all-step few (records ws) c.loop-i.i no_cone (omega arith) (sym tested ∙ c.if-not-side_few.false)

pub returns : goal.returns
returns c = sym (c.loop-i.invariant ∙ all_done few (records c.args.cones.now) c.loop-i.i (omega arith))
