use Prim.Native.Nat.{ℕ, ◌+◌, ◌-◌}
use mathlib.Core.Path.{ap, ◌∙◌}
use mathlib.Core.List.{List, ◌++◌}
use lib.ListN.{length, take, drop, length-append, length-map}
use Rattle.layout.specs.General.Lists.{part, written}
use Rattle.layout.proofs.Lists.Buffers.{length_tail}
use Rattle.pool_tables.specs.Stacked.{raised}
use Rattle.pool_tables.proofs.Columns.{part_length, part-raised, part-raisable, put-after}
use native.Mathlib.Omega.{arith}
use Rattle.pool_tables.proofs.put_rows.Goals as goal

pub append_raised-requires : goal.append_raised-requires
append_raised-requires c =
    let a = c.args in
    let one = part_length a.rows.now a.first a.end c.requires.first_le_end.1 in
    let two = part_length a.rows2.now a.first2 a.end2 c.requires.first_le_end.3 in record { ys_in_bounds = omega (arith, c.requires.first_le_end, one, two, length_tail a.out.now (a.first + a.first2)); raisable = part-raisable a.m a.rows2.now a.first2 a.end2 c.requires.first_le_end.3 c.requires.raisable }

pub returns : goal.returns
returns c =
    let a = c.args in
    let one = part_length a.rows.now a.first a.end c.requires.first_le_end.1 in
    let two = part_length a.rows2.now a.first2 a.end2 c.requires.first_le_end.3 in
    let same = part-raised a.m a.rows2.now a.first2 a.end2 in
    let upper = part a.first a.end a.rows.now in
    let lower = part a.first2 a.end2 (raised a.m a.rows2.now) in
    put-after (upper ++ lower) a.out.now (a.first + a.first2) (omega (arith, c.requires.first_le_end, one, two, length-append upper lower, length-map (part a.first2 a.end2 a.rows2.now) (λ r. a.m + r), ap length same)) (c.append_raised.ensures ∙ ap (λ (rs : List ℕ). written (upper ++ rs) (take (length a.out.now - (a.first + a.first2)) (drop (a.first + a.first2) a.out.now))) same)
