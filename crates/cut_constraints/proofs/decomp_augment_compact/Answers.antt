use native.Mathlib.Omega.{arith}
use Rattle.layout.proofs.Lists.Walks.{same_le}
use Rattle.sparsevector.proofs.Sides.{one_side}
use Rattle.augment_standard.specs.Constraints.{constraints}
use Rattle.augment_standard.proofs.Constraints.{renamed, sound, same_b}
use Rattle.cut_constraints.proofs.decomp_augment_compact.Goals as goal

pub write_compact_a-requires-clause-movable_sides : goal.write_compact_a-requires-clause-movable_sides
write_compact_a-requires-clause-movable_sides c =
    let f = c.requires.0 in
    ((omega (arith, same_le c.requires.1 f.slacks), omega (arith, same_b f.accepted)), (omega arith, omega arith))

pub write_table-requires-clause-sound : goal.write_table-requires-clause-sound
write_table-requires-clause-sound c = sound c.requires.0.accepted

pub returns : goal.returns
returns c =
    let a = c.args in
    let p = constraints a.n a.m a.a_starts.now a.a_rows.now a.a_values.now a.b.now a.cones.now a.count a.words.now in
    let w = c.write_compact_a.ensures in record {
      a_starts = w.0.a_starts;
      a_rows = w.0.a_rows;
      a_values = w.0.a_values;
      b = renamed a.b_out.now (one_side p a.b.now (same_b c.requires.0.accepted)) w.1;
      cones = c.write_table.ensures.out_after;
    }
