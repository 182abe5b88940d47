use Rattle.walk_cones.proofs.Laws.{starts}
use native.Mathlib.Omega.{arith}
use Rattle.walk_cones.proofs.Place.start.Goals as goal

pub returns : goal.returns
returns c =
    let q = starts c.args.m c.args.cones.now c.args.count c.args.words.now c.requires (omega arith) in record { result_value = q.0; reached = q.1 }
