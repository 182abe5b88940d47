use mathlib.Core.Path.{refl}
use Rattle.layout.proofs.Checks.Routes.{route_compact}
use Rattle.augment_standard.specs.Constraints.{constraints}
use Rattle.augment_standard.proofs.Constraints.{sound}
use Rattle.cut_constraints.proofs.Routes.{fits_on, few_on}
use Rattle.cut_constraints.proofs.write_constraints.Goals as goal

pub decomp_augment_compact-requires : goal.decomp_augment_compact-requires
decomp_augment_compact-requires c = (fits_on (route_compact c.args.route c.if-route-eq-STANDARD.false) c.requires.0, c.requires.1)

pub write_table-requires-clause-sound : goal.write_table-requires-clause-sound
write_table-requires-clause-sound c = sound c.requires.0.accepted

pub write_table-requires-clause-few : goal.write_table-requires-clause-few
write_table-requires-clause-few c =
    let a = c.args in
    let p = constraints a.n a.m a.a_starts.now a.a_rows.now a.a_values.now a.b.now a.cones.now a.count a.words.now in
    few_on p (route_compact a.route c.if-route-eq-STANDARD.false) refl c.requires.0
