use Prim.Native.Nat.{◌≤◌, ◌<◌}
use mathlib.Core.Path.{◌≡◌, refl, ap}
use mathlib.Core.Bool.{false}
use Rattle.layout.proofs.Lists.Tests.{passed}
use mathlib.Core.List.{List}
use lib.ListN.{length, drop_of_length-le}
use Rattle.layout.specs.Problems.Cones.{Cone, records}
use Rattle.layout.specs.Rows.Blocks.{is_cut, parts_from}
use Rattle.layout.proofs.Patterns.Records.{record_count_lem}
use Rattle.walk_cones.specs.Ahead.{patterns_ahead}
use Rattle.walk_cones.proofs.Laws.{few-cones, row_fits, whole-ahead, whole-stands, none_left, first_read, head-inside, not_mine, cut-ahead, cut_right, cut-rows, cut-few, cut_stands}
use native.Mathlib.Omega.{arith}
use Rattle.walk_cones.proofs.Place.next.Goals as goal
use Rattle.walk_cones.proofs.Place.next.Goals.{else-self-gt0-via-then-self-gt0+else-words-at, else-self-gt0-via-else-self-gt0}

pub returns-then-cones-i : goal.returns-then-cones-i
returns-then-cones-i c =
    let cones = c.args.cones.now in
    let p = c.args.self in
    let none : length (records cones) ≤ p.cone = omega (arith, record_count_lem cones) in
    record {
      self_value = ap (λ (cs : List Cone). parts_from p.cone p.row p.pattern cs (patterns_ahead c.args.words.now p)) (drop_of_length-le (records cones) none);
      knows = tt {0};
    }

pub cone_rows-rows-requires : goal.cone_rows-rows-requires
cone_rows-rows-requires c = record { cones_value = passed _ c.requires.bounded; cones_value_2 = passed _ c.requires.reads }

pub overflow_add-row : goal.overflow_add-row
overflow_add-row c =
    omega (arith, row_fits c.args.m c.args.cones.now c.args.words.now c.args.self c.requires (omega (arith, record_count_lem c.args.cones.now)), c.cone_rows-rows.ensures, c.requires.few)

pub offset_bounds-words-at : goal.offset_bounds-words-at
offset_bounds-words-at c =
    omega (arith, head-inside c.args.m c.args.cones.now c.args.words.now c.args.self c.requires (omega (arith, record_count_lem c.args.cones.now)) c.if-self-gt0.true)

pub bounds-words-at : goal.bounds-words-at
bounds-words-at c =
    omega (arith, head-inside c.args.m c.args.cones.now c.args.words.now c.args.self c.requires (omega (arith, record_count_lem c.args.cones.now)) c.if-self-gt0.true)

pub pattern_next-requires : goal.pattern_next-requires
pattern_next-requires c =
    first_read c.args.m c.args.cones.now c.args.words.now c.args.self c.requires (omega (arith, record_count_lem c.args.cones.now)) c.if-self-gt0.true

pub returns-then-words-at : goal.returns-then-words-at
returns-then-words-at c =
    let m = c.args.m in
    let cones = c.args.cones.now in
    let words = c.args.words.now in
    let p = c.args.self in
    let h = c.requires in
    let l : p.cone < length (records cones) = omega (arith, record_count_lem cones) in
    let more = c.if-self-gt0.true in
    let rows = c.cone_rows-rows.result in
    let e = c.cone_rows-rows.ensures in
    let next = c.pattern_next.result in
    let n = c.pattern_next.ensures in
    let mine = c.if-words-at.true in
    record {
      self_value = cut-ahead m cones words p h l more mine rows e next n;
      knows = (
        first_read m cones words p h l more,
        cut_right m cones words p h l more mine rows e next n,
        cut-few m cones words p h l more mine rows e next n,
        omega (arith, row_fits m cones words p h l, cut-rows m cones words p h l more mine rows e next n),
        few-cones m cones words p h l,
        refl,
        cut_stands m cones words p h l more mine rows e next n,
      );
    }

pub returns : goal.returns
returns c =
    let m = c.args.m in
    let cones = c.args.cones.now in
    let words = c.args.words.now in
    let p = c.args.self in
    let h = c.requires in
    let l : p.cone < length (records cones) = omega (arith, record_count_lem cones) in
    let rows = c.cone_rows-rows.result in
    let e = c.cone_rows-rows.ensures in
    let free : is_cut p.cone (patterns_ahead words p) ≡ false =
    elim c.else-self-gt0.branch [
      | else-self-gt0-via-then-self-gt0+else-words-at w ↦ not_mine m cones words p h l w.if-self-gt0.true w.if-words-at.false
      | else-self-gt0-via-else-self-gt0 w ↦ none_left m cones words p h l (omega (arith, w.if-self-gt0.false))
    ] in
    record {
      self_value = whole-ahead m cones words p h l rows e free;
      knows = (
        e,
        omega (arith, row_fits m cones words p h l, e),
        few-cones m cones words p h l,
        omega (arith, record_count_lem cones, l),
        refl,
        whole-stands m cones words p h l rows e free,
      );
    }
