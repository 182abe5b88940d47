use Prim.Native.Nat.{ℕ}
use mathlib.Core.Bool.{true}
use mathlib.Core.Path.{refl, sym, ap, ◌∙◌}
use mathlib.Core.List.{List, map}
use lib.ListN.{length, get_or}
use Rattle.layout.specs.General.Lists.{up_from, join}
use Rattle.layout.specs.Problems.Cones.{records}
use Rattle.layout.specs.Rows.Blocks.{Part, whole, cut, original_row, pattern_rows}
use Rattle.layout.specs.Checks.{no_cone}
use Rattle.supernode_tree.specs.Reads.{pattern_at}
use Rattle.walk_cones.specs.Ahead.{ahead}
use Rattle.rows_blocks.specs.Vertices.{marked}
use Rattle.check_covered.proofs.Parts.{part_originals, covered_parts, part_step, parts-done}
use native.Mathlib.Omega.{arith}
use Rattle.check_covered.proofs.mark_covered.Goals as goal

pub loop-size-init : goal.loop-size-init
loop-size-init c =
    let a = c.args in (
      c.start-place.ensures.reached,
      refl,
      ap (λ (ps : List Part). marked true (join part_originals ps) a.covered.now) c.start-place.ensures.result_value
          ∙ ap (λ (os : List ℕ). marked true os a.covered.now) (sym (covered_parts c.requires.sound)),
    )

pub next-requires : goal.next-requires
next-requires c = c.loop-size.invariant.0

pub mark_range-requires : goal.mark_range-requires
mark_range-requires c =
    omega (arith, (rw c.in-Some-Whole.field-0-is at c.in-Some-Whole.ensures).knows.1, c.loop-size.invariant.0.few, c.loop-size.invariant.1, c.requires.m_in_bounds)

pub loop-size-smaller-in-Some-Whole : goal.loop-size-smaller-in-Some-Whole
loop-size-smaller-in-Some-Whole c = omega (arith, ap length (rw c.in-Some-Whole.field-0-is at c.in-Some-Whole.ensures).self_value)

pub loop-size-preserved-in-Some-Whole : goal.loop-size-preserved-in-Some-Whole
loop-size-preserved-in-Some-Whole c =
    let cones = c.args.cones.now in
    let words = c.args.words.now in
    let at = c.loop-size.place in (
      (rw c.in-Some-Whole.field-0-is at c.in-Some-Whole.ensures).knows.5,
      c.mark_range.auto.covered ∙ c.loop-size.invariant.1,
      ap (marked true (join part_originals (ahead cones words c.in-Some-Whole.next))) c.mark_range.ensures
          ∙ part_step (whole at.cone (get_or (records cones) at.cone no_cone) at.row) (ahead cones words at)
          (ahead cones words c.in-Some-Whole.next) (up_from at.row c.in-Some-Whole.size) c.loop-size.covered (rw c.in-Some-Whole.field-0-is at c.in-Some-Whole.ensures).self_value
          (ap (up_from at.row) (rw c.in-Some-Whole.field-0-is at c.in-Some-Whole.ensures).knows.0)
          ∙ c.loop-size.invariant.2,
    )

pub mark_pattern-requires : goal.mark_pattern-requires
mark_pattern-requires c =
    let k = (rw c.in-Some-Cut.field-0-is at c.in-Some-Cut.ensures).knows in
    record {
      right_pattern = (k.1, k.2);
      block_fits = (omega (arith, k.3, c.loop-size.invariant.0.few), omega (arith, k.3, c.loop-size.invariant.1, c.requires.m_in_bounds));
    }

pub loop-size-smaller : goal.loop-size-smaller
loop-size-smaller c = omega (arith, ap length (rw c.in-Some-Cut.field-0-is at c.in-Some-Cut.ensures).self_value)

pub loop-size-preserved : goal.loop-size-preserved
loop-size-preserved c =
    let cones = c.args.cones.now in
    let words = c.args.words.now in
    let at = c.loop-size.place in
    let p = pattern_at words c.in-Some-Cut.at in (
      (rw c.in-Some-Cut.field-0-is at c.in-Some-Cut.ensures).knows.6,
      c.mark_pattern.auto.covered ∙ c.loop-size.invariant.1,
      ap (marked true (join part_originals (ahead cones words c.in-Some-Cut.next))) (c.mark_pattern.ensures 0)
          ∙ part_step (cut at.cone at.row at.pattern p) (ahead cones words at)
          (ahead cones words c.in-Some-Cut.next) (map original_row (pattern_rows p at.row 0)) c.loop-size.covered (rw c.in-Some-Cut.field-0-is at c.in-Some-Cut.ensures).self_value refl
          ∙ c.loop-size.invariant.2,
    )

pub shape_of-covered-in-None : goal.shape_of-covered-in-None
shape_of-covered-in-None c = c.loop-size.invariant.1

pub returns-in-None : goal.returns-in-None
returns-in-None c =
    let a = c.args in
    parts-done (ahead a.cones.now a.words.now c.loop-size.place) c.loop-size.covered c.in-None.ensures.self_value ∙ c.loop-size.invariant.2
