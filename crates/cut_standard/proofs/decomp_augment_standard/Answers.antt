use Prim.Native.Nat.{ℕ}
use mathlib.Core.Path.{ap}
use mathlib.Core.List.{◌++◌}
use lib.ListN.{replicate}
use lib.Ieee.{of_bits}
use Rattle.layout.specs.General.Floats.{zero64}
use Rattle.layout.proofs.Checks.Accepted.{fits-u32}
use Rattle.augment_standard.proofs.Constraints.{renamed, sound, few-entries, room-starts}
use Rattle.cut_standard.proofs.Laws.{few-rows, few-ends, room-rows, room-values, room_b, starts_A, rows_A, values_A}
use Rattle.cut_standard.proofs.decomp_augment_standard.Goals as goal

pub overflow_cast-a_values : goal.overflow_cast-a_values
overflow_cast-a_values c = fits-u32 _ (few-entries c.requires.accepted)

pub write_starts-requires : goal.write_starts-requires
write_starts-requires c =
    let k = c.args.k in
    (room-starts c.requires.accepted k _ c.requires.starts, few-ends c.requires.accepted k c.requires.added)

pub standard_a_rows-requires : goal.standard_a_rows-requires
standard_a_rows-requires c =
    let k = c.args.k in
    let e = c.requires.added in record { sound = sound c.requires.accepted; k_value = (e, few-rows c.requires.accepted k e, room-rows c.requires.accepted k e _ c.requires.rows) }

pub write_values-requires : goal.write_values-requires
write_values-requires c =
    room-values c.requires.accepted c.args.k c.requires.added _ c.requires.values

pub extend_front-requires : goal.extend_front-requires
extend_front-requires c =
    room_b c.requires.accepted c.args.k c.requires.added _ c.requires.slacks

pub standard_cones-requires : goal.standard_cones-requires
standard_cones-requires c =
    record { sound = sound c.requires.accepted; words_in_bounds = c.requires.cones }

pub shape_of-a_starts_out : goal.shape_of-a_starts_out
shape_of-a_starts_out c = c.write_starts.auto.out

pub shape_of-a_rows_out : goal.shape_of-a_rows_out
shape_of-a_rows_out c = c.standard_a_rows.auto.out

pub shape_of-a_values_out : goal.shape_of-a_values_out
shape_of-a_values_out c = c.write_values.auto.out

pub shape_of-b_out : goal.shape_of-b_out
shape_of-b_out c = c.extend_front.auto.out

pub shape_of-cones_out : goal.shape_of-cones_out
shape_of-cones_out c = c.standard_cones.auto.out

pub returns : goal.returns
unfolding of_bits
returns c =
    let a = c.args in
    let h = c.requires.accepted in
    let e = c.requires.added in record {
      a_starts = renamed a.a_starts_out.now (starts_A h a.k e) c.write_starts.ensures;
      a_rows = renamed a.a_rows_out.now (rows_A h) c.standard_a_rows.ensures;
      a_values = renamed a.a_values_out.now (values_A h a.k e) c.write_values.ensures;
      b = renamed a.b_out.now (ap (λ (j : ℕ). a.b.now ++ replicate j zero64) e) c.extend_front.ensures;
      cones = c.standard_cones.ensures;
    }
