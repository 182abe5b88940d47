use Rattle.std.proofs.Common.{◌≡◌, ◌∙◌, ◌/◌, List, length, ap, arith}
use Rattle.layout.specs.General.Lists.{written}
use Rattle.layout.specs.Cuts.Compact.{cone_map}
use Rattle.layout.proofs.Columns.Sizes.{entries-length}
use Rattle.layout.proofs.Rows.ConeMap.{map-told}
use Rattle.problemdata.specs.Tables.{parts_of}
use Rattle.entries_map.specs.declared.ConeMapEntry.{ConeMapEntry}
use Rattle.entries_map.proofs.Few.{map-few}
use Rattle.entries_cut.proofs.Rooms.{all_read}
use Rattle.entries_cut.proofs.write_map.Goals as goal

pub write_table-taken-requires-clause-words_in_bounds : goal.write_table-taken-requires-clause-words_in_bounds
write_table-taken-requires-clause-words_in_bounds c =
    omega (arith, entries-length (cone_map (parts_of c.args.problem.now)), map-few c.requires.sound)

pub write_entries-requires : goal.write_entries-requires
write_entries-requires c =
    let es = cone_map (parts_of c.args.problem.now) in
    let count : c.write_table-taken.result / 5 ≡ length es = omega (arith, c.write_table-taken.ensures.value, entries-length es) in
    (omega (arith, count, c.write_table-taken.auto.out, map-few c.requires.sound), omega (arith, count, c.requires.in_bounds))

pub returns : goal.returns
returns c =
    let es = cone_map (parts_of c.args.problem.now) in
    let t = c.write_table-taken in
    let count : t.result / 5 ≡ length es = omega (arith, t.ensures.value, entries-length es) in
    c.write_entries.ensures
    ∙ ap (λ (xs : List ConeMapEntry). written xs c.args.map_out.now) (all_read es (map-told c.requires.sound) (t.result / 5) t.new.out _ count t.ensures.out_after)
