use Prim.Native.Nat.{ℕ, ◌≤◌, ◌*◌}
use mathlib.Core.Path.{◌≡◌, sym, ap, subst, ◌∙◌}
use mathlib.Core.List.{List, map}
use lib.ListN.{length}
use lib.Ieee.{Float}
use Rattle.layout.specs.Rows.Blocks.{compact_rows}
use Rattle.layout.specs.Calls.Join.{joined_parts}
use Rattle.rows_codes.specs.Codes.{cut_code, RowsInside}
use Rattle.sparsevector.specs.Sides.{moved_sides}
use Rattle.augment_standard.proofs.Constraints.{renamed}
use Rattle.cut_compact.specs.System.{MovableSides}
use Rattle.cut_compact.proofs.Laws.{codes_count, front}
use Rattle.cut_compact.proofs.write_sides.Goals as goal

-- the precondition of the writer of right sides, for either list
movable : {m rows : ℕ} {cs taken : List ℕ} → taken ≡ cs → rows ≡ length cs → RowsInside m cs → (sides : List Float) (n : ℕ) (out : List Float) → MovableSides m rows sides n out
    → (n * length taken ≤ length out) × (n * m ≤ length sides) × RowsInside m taken
movable {m} {rows} {cs} {taken} e k inside sides n out fit =
    subst (λ (xs : List ℕ). (n * length xs ≤ length out) × (n * m ≤ length sides) × RowsInside m xs) (sym e) (subst (λ (j : ℕ). n * j ≤ length out) k fit.0, fit.1, inside)

pub write_table-requires-clause-words_in_bounds : goal.write_table-requires-clause-words_in_bounds
write_table-requires-clause-words_in_bounds c =
    subst (λ (k : ℕ). k ≤ length c.args.table.now) (c.requires.rows_value.0 ∙ sym (codes_count c.requires.sound)) c.requires.rows_value.2

pub move_sides-requires : goal.move_sides-requires
move_sides-requires c =
    let r = c.requires in
    let codes = map cut_code (compact_rows (joined_parts c.args.cones.now c.args.count c.args.words.now)) in
    let count = r.rows_value.0 ∙ sym (codes_count r.sound) in
    movable (front codes c.args.table.now count r.rows_value.2 c.write_table.ensures.out_after).0 count r.rows_inside c.args.sides.now c.args.side_count c.args.sides_out.now r.movable_sides.0

pub move_sides-requires-2 : goal.move_sides-requires-2
move_sides-requires-2 c =
    let r = c.requires in
    let codes = map cut_code (compact_rows (joined_parts c.args.cones.now c.args.count c.args.words.now)) in
    let count = r.rows_value.0 ∙ sym (codes_count r.sound) in
    movable (front codes c.args.table.now count r.rows_value.2 c.write_table.ensures.out_after).0 count r.rows_inside c.args.others.now c.args.other_count c.args.others_out.now r.movable_sides.1

pub returns-clause-sides_out_after : goal.returns-clause-sides_out_after
returns-clause-sides_out_after c =
    let a = c.args in
    let codes = map cut_code (compact_rows (joined_parts a.cones.now a.count a.words.now)) in
    let taken = front codes a.table.now (c.requires.rows_value.0 ∙ sym (codes_count c.requires.sound)) c.requires.rows_value.2 c.write_table.ensures.out_after in
    renamed a.sides_out.now (ap (λ (cs : List ℕ). moved_sides a.m cs a.sides.now a.side_count) taken.0) c.move_sides.ensures

pub returns-clause-others_out_after : goal.returns-clause-others_out_after
returns-clause-others_out_after c =
    let a = c.args in
    let codes = map cut_code (compact_rows (joined_parts a.cones.now a.count a.words.now)) in
    let taken = front codes a.table.now (c.requires.rows_value.0 ∙ sym (codes_count c.requires.sound)) c.requires.rows_value.2 c.write_table.ensures.out_after in
    renamed a.others_out.now (ap (λ (cs : List ℕ). moved_sides a.m cs a.others.now a.other_count) taken.0) c.move_sides-2.ensures
