use Rattle.std.proofs.Common.{◌≡◌, ◌≤◌, ◌+◌, ◌-◌, ◌∙◌, ◌++◌, ℕ, List, length, take, drop, map, ap, arith}
use lib.ListN.{length-append, length-map}
use lib.Ieee.{Float}
use lib.Seq.{paste, length-take-le}
use Rattle.layout.specs.General.Lists.{part, written}
use Rattle.layout.proofs.Lists.Buffers.{written-whole}
use Rattle.cut_gather.specs.Gathered.{summed_value}
use Rattle.cut_columns.proofs.Parts.{length_part, part_over}
use Rattle.augment_compact.proofs.Groups.{part_front}
use Rattle.augment_compact.proofs.repeat_column.Goals as goal

copied : (old : List ℕ) (from start count : ℕ) → from + count ≤ length old → start ≤ length old
    → paste old start (drop from old) (from + count - from) ≡ written (take start old ++ part from (from + count) old) old
copied old from start count h l =
    let again : List ℕ = part from (from + count) old in
    let e : start + (from + count - from) ≡ length (take start old ++ again) =
    omega (arith, length-append (take start old) again, length-take-le start old l, length_part from (from + count) old (omega arith) h) in
    ap (λ (k : ℕ). (take start old ++ again) ++ drop k old) e

-- the rows that are repeated stay where they are
still : (old new : List ℕ) (from start count : ℕ) → from + count ≤ start → start + count ≤ length old
    → new ≡ paste old start (drop from old) (from + count - from) → part from (from + count) new ≡ part from (from + count) old
still old new from start count l h e =
    ap (part from (from + count)) (e ∙ copied old from start count (omega arith) (omega arith))
    ∙ part_front from (from + count) start (part from (from + count) old) old (omega arith) l (omega arith)

pub gather_column-requires : goal.gather_column-requires
gather_column-requires c =
    let a = c.args in
    let bound = c.requires.count_bound in
    let size = length_part a.from (a.from + a.count) a.rows_out.now (omega arith) (omega arith) in
    let size-out = length_part a.start (a.start + a.count) a.values_out.now (omega arith) bound.2 in
    rw (still a.rows_out.now c.copy_within.new.self a.from a.start a.count bound.0 bound.1 c.copy_within.ensures.after) record {
      marks_inside = (c.requires.marks_inside.0, omega arith, c.requires.marks_inside.1);
      t = (c.requires.t.0, omega arith);
    }

pub returns-clause-values_out_after : goal.returns-clause-values_out_after
returns-clause-values_out_after c =
    let a = c.args in
    let bound = c.requires.count_bound in
    let again : List ℕ = part a.from (a.from + a.count) a.rows_out.now in
    let f : ℕ → Float = summed_value a.codes.now a.rows.now a.values.now in
    let size = length_part a.from (a.from + a.count) a.rows_out.now (omega arith) (omega arith) in
    let size-out = length_part a.start (a.start + a.count) a.values_out.now (omega arith) bound.2 in
    let mapped = length-map again f in
    part_over a.start (a.start + a.count) c.gather_column.new.out (map f again) a.values_out.now
    (c.gather_column.ensures ∙ rw (still a.rows_out.now c.copy_within.new.self a.from a.start a.count bound.0 bound.1 c.copy_within.ensures.after)
    (written-whole (map f again) (part a.start (a.start + a.count) a.values_out.now) (omega arith)))
    (omega arith) (omega arith) bound.2
