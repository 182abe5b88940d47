use Rattle.inverse_permutation.proofs.Inverted.{filled_ready}
use Rattle.inverse_permutation.proofs.inverse_in.Goals as goal

pub inverse_by-requires : goal.inverse_by-requires
inverse_by-requires g c = (let it = filled_ready g.row.N _ c.requires.p_fits c.requires.size in record { table_value = it.0; p_in_bounds = it.1 })
