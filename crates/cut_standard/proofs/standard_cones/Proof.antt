use native.Mathlib.Omega.{arith}
use borrow.Author.Rules.{rules}
use Prim.Native.Nat.{ℕ, ◌-◌}
use mathlib.Core.Path.{◌≡◌, ap, ◌∙◌}
use mathlib.Core.List.{List, ◌++◌}
use lib.ListN.{length, take, drop, set, length-set, length-drop}
use lib.Seq.{length-take-le}
use Rattle.layout.specs.General.Lists.{join, written}
use Rattle.layout.specs.Cuts.Standard.{standard_part}
use Rattle.layout.specs.Calls.Join.{joined_parts}
use Rattle.layout.proofs.Lists.Starts.{length-written}
use Rattle.cut_standard.specs.Cut.{zero_then_parts}
use Rattle.cut_standard.proofs.Laws.{length_three, three_then}
use Rattle.cut_standard.proofs.standard_cones.Statement.{statement}
use Rattle.cut_standard.proofs.standard_cones.Tie as tie

-- the output with Zero(m) as its first record
abbrev front : tie.Start → List ℕ
front s = set (set (set s.args.out.now 0 0) 1 s.args.m) 2 0

size : (s : tie.Start) → length (front s) ≡ length s.args.out.now
size s = length_three s.args.out.now 0 s.args.m 0

wrote : (o : tie.After-write_table)
    → let s = o.before.before.before.before.before in
    let k : ℕ = length (front s) - 3 in
    take 3 (front s) ++ (o.write_table.new.out ++ drop k (drop 3 (front s)))
    ≡ written (zero_then_parts s.args.m (joined_parts s.args.cones.now s.args.count s.args.words.now)) s.args.out.now
wrote o =
    let s = o.before.before.before.before.before in
    let ps = joined_parts s.args.cones.now s.args.count s.args.words.now in
    three_then 0 s.args.m 0 (join standard_part ps) s.args.out.now (omega (arith, s.requires.1))
    o.write_table.ensures.1

slice-write-out : tie.Need-bounds-out-0
slice-write-out c = search rules

slice-write-out-2 : tie.Need-bounds-out-1
slice-write-out-2 c = omega (arith, length-set c.args.out.now 0 0)

slice-write-out-3 : tie.Need-bounds-out-2
slice-write-out-3 c = omega (arith, length-set c.args.out.now 0 0, length-set (set c.args.out.now 0 0) 1 c.args.m)

sub-write-table : tie.Need-slice_bounds-write_table-count
sub-write-table c = omega (arith, size c.before.before.before)

part-write-table-start : tie.Need-slice_bounds-write_table-start
part-write-table-start c = omega (arith, size c.before.before.before)

part-write-table-end : tie.Need-slice_bounds-write_table-end
part-write-table-end c = search rules

write-table-requires : tie.Need-write_table-requires
write-table-requires c κs =
    let s = c.before.before.before.before in
    let ws = front s in (
      s.requires.0,
      (
        tt,
        omega (
          arith,
          size s,
          length-drop 3 ws,
          length-take-le (length ws - 3) (drop 3 ws) (omega (arith, length-drop 3 ws)),
          s.requires.1,
        ),
      ),
    )

same_length : tie.Need-shape_of-out
same_length c =
    let s = c.before.before.before.before.before.before.before in
    ap length (wrote c.before.before) ∙ length-written (zero_then_parts s.args.m (joined_parts s.args.cones.now s.args.count s.args.words.now)) s.args.out.now s.requires.1

returns : tie.Need-returns
returns c = wrote c.before.before

pub standard_cones_spec : {M : Type 1} → statement M
standard_cones_spec =
    tie.close
    (tie.spec
    slice-write-out
    slice-write-out-2
    slice-write-out-3
    sub-write-table
    part-write-table-start
    part-write-table-end
    write-table-requires
    same_length
    returns)
