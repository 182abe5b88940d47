use Prim.Native.Nat.{ℕ, ◌+◌, ◌≤◌}
use mathlib.Core.Path.{◌≡◌, refl, ap, sym, subst, ◌∙◌}
use mathlib.Core.List.{[]}
use lib.ListN.{length, get_or}
use Rattle.layout.specs.General.Lists.{up_from}
use Rattle.layout.specs.Problems.Cones.{Cone, records}
use Rattle.layout.specs.Checks.{no_cone}
use Rattle.layout.specs.Cuts.Compact.{cone_words, whole_cone, entry_words}
use Rattle.layout.proofs.Lists.Members.{length-up_from}
use Rattle.rows_tables.specs.Tables.{whole_codes, Few}
use Rattle.rows_tables.specs.declared.Table.{Table}
use Rattle.rows_tables.proofs.Laws.{five_more}
use Rattle.rows_tables.proofs.Codes.{renamed, whole-rows, whole_words, whole-map}
use native.Mathlib.Omega.{arith}
use Rattle.rows_tables.proofs.write_whole.Goals as goal

pub count_up-requires : goal.count_up-requires
count_up-requires c =
    let a = c.args in
    let q : Cone = get_or (records a.cones.now) a.place.cone no_cone in
    let e : whole_codes a.table a.first a.place.cone q a.place.row ≡ up_from a.place.row a.rows =
    whole-rows a.first a.place.cone q a.place.row a.table c.in-HRows.is ∙ ap (up_from a.place.row) (sym c.requires.rows_value.0) in
    omega (arith, ap length e, length-up_from a.place.row a.rows, c.requires.rows_value, c.requires.row_in_bounds)

pub copy_record-requires : goal.copy_record-requires
copy_record-requires c =
    let a = c.args in
    let q : Cone = get_or (records a.cones.now) a.place.cone no_cone in
    omega (arith, ap length (whole_words a.first a.place.cone q a.place.row a.table c.in-StandardCones.is), c.requires.rows_value, c.requires.row_in_bounds)

pub overflow_cast-first : goal.overflow_cast-first
overflow_cast-first c =
    let few : c.args.first + c.args.rows ≤ 262144 = subst (λ (x : Table). Few x (c.args.first + c.args.rows)) c.in-ConeMap.is c.requires.few in
    omega (arith, few)

pub put_entry-requires : goal.put_entry-requires
put_entry-requires c =
    let a = c.args in
    let q : Cone = get_or (records a.cones.now) a.place.cone no_cone in
    omega (arith, ap length (whole-map a.first a.place.cone q a.place.row a.table c.in-ConeMap.is), c.requires.row_in_bounds)

pub returns-in-HRows : goal.returns-in-HRows
returns-in-HRows c =
    let a = c.args in
    let q : Cone = get_or (records a.cones.now) a.place.cone no_cone in
    let e : whole_codes a.table a.first a.place.cone q a.place.row ≡ up_from a.place.row a.rows =
    whole-rows a.first a.place.cone q a.place.row a.table c.in-HRows.is ∙ ap (up_from a.place.row) (sym c.requires.rows_value.0) in
    let r = renamed _ (up_from a.place.row a.rows) e _ _ _ (c.count_up.ensures.value ∙ sym (length-up_from a.place.row a.rows)) c.count_up.ensures.out_after in
    record { value = r.0; out_after = r.1 }

pub returns-in-StandardCones : goal.returns-in-StandardCones
returns-in-StandardCones c =
    let a = c.args in
    let q : Cone = get_or (records a.cones.now) a.place.cone no_cone in
    let e = whole_words a.first a.place.cone q a.place.row a.table c.in-StandardCones.is in
    let r = renamed _ (cone_words q) e _ _ _ c.copy_record.ensures.value c.copy_record.ensures.out_after in
    record { value = r.0; out_after = r.1 }

pub returns-in-ConeMap : goal.returns-in-ConeMap
returns-in-ConeMap c =
    let a = c.args in
    let q : Cone = get_or (records a.cones.now) a.place.cone no_cone in
    let e : whole_codes a.table a.first a.place.cone q a.place.row ≡ entry_words (whole_cone a.place.cone a.first a.rows) =
    whole-map a.first a.place.cone q a.place.row a.table c.in-ConeMap.is ∙ ap (λ (n : ℕ). entry_words (whole_cone a.place.cone a.first n)) (sym c.requires.rows_value.0) in
    let r = renamed _ (entry_words (whole_cone a.place.cone a.first a.rows)) e _ _ _ refl
    (c.put_entry.ensures ∙ five_more [] a.out.now a.place.cone 4294967295 0 a.first a.rows 0 refl (omega (arith, ap length e, c.requires.row_in_bounds))) in
    record { value = r.0; out_after = r.1 }
