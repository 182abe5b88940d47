use Rattle.std.proofs.Common.{ap, sym, ◌∙◌, map, take, arith}
use lib.ListN.{set, length-map}
use lib.Ieee.{nan, add, binary64, of_bits}
use Rattle.layout.specs.General.Lists.{written}
use Rattle.layout.specs.General.Floats.{zero64}
use Rattle.layout.proofs.Lists.Members.{get_or_map}
use Rattle.layout.proofs.Lists.Buffers.{copy_more, copy_done, written-whole}
use Rattle.reverse_standard.proofs.sum_rows.Goals as goal

pub loop-i-preserved : goal.loop-i-preserved
unfolding of_bits
loop-i-preserved c =
    let a = c.args in
    let f = add binary64 zero64 in
    let i = c.loop-i.i in
    let size = length-map a.values.now f in
    rw c.loop-i.invariant
    (ap (set (written (take i (map f a.values.now)) a.out.now) i) (sym (get_or_map f a.values.now i nan nan (omega arith)))
    ∙ copy_more (map f a.values.now) a.out.now i nan (omega (arith, size)) (omega (arith, size, c.requires)))

pub returns : goal.returns
returns c =
    let a = c.args in
    let vs = map (add binary64 zero64) a.values.now in
    let size = length-map a.values.now (add binary64 zero64) in
    c.loop-i.invariant ∙ copy_done vs a.out.now c.loop-i.i (omega (arith, size)) ∙ written-whole vs a.out.now (omega (arith, size, c.requires))
