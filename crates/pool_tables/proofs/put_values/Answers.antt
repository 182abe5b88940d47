use Prim.Native.Nat.{◌+◌}
use mathlib.Core.List.{◌++◌}
use lib.ListN.{length-append}
use Rattle.layout.specs.General.Lists.{part}
use Rattle.layout.proofs.Lists.Buffers.{length_tail}
use Rattle.pool_tables.proofs.Columns.{part_length, put-after}
use native.Mathlib.Omega.{arith}
use Rattle.pool_tables.proofs.put_values.Goals as goal

pub append-requires : goal.append-requires
append-requires c =
    let a = c.args in
    let one = part_length a.values.now a.first a.end c.requires.1 in
    let two = part_length a.values2.now a.first2 a.end2 c.requires.3 in
    omega (arith, c.requires, one, two, length_tail a.out.now (a.first + a.first2))

pub returns : goal.returns
returns c =
    let a = c.args in
    let one = part_length a.values.now a.first a.end c.requires.1 in
    let two = part_length a.values2.now a.first2 a.end2 c.requires.3 in
    let upper = part a.first a.end a.values.now in
    let lower = part a.first2 a.end2 a.values2.now in
    put-after (upper ++ lower) a.out.now (a.first + a.first2) (omega (arith, c.requires, one, two, length-append upper lower)) c.append.ensures
