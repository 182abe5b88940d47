use Rattle.utils.proofs.Tables.{filled_least}
use mathlib.Core.Bool.{false}
use native.Mathlib.Omega.{arith}
use Rattle.utils.proofs.permutation_in.Goals as goal

pub permutation_by-requires : goal.permutation_by-requires
permutation_by-requires g c = filled_least g.row.N false 1 (omega arith)
