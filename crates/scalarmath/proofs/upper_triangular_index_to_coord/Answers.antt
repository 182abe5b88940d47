use native.Mathlib.Omega.{arith}
use Rattle.scalarmath.proofs.Columns.{AtColumn, root_column, root-column}
use Rattle.scalarmath.proofs.upper_triangular_index_to_coord.Goals as goal
use Rattle.scalarmath.proofs.upper_triangular_index_to_coord.Goals.{After-isqrt}

-- the column computed from the root is the column of the index
found : (c : After-isqrt) → AtColumn c.args.index (root_column c.isqrt.result)
found c = root-column c.args.index c.isqrt.result c.requires c.isqrt.ensures.0 c.isqrt.ensures.1

pub overflow_sub-result : goal.overflow_sub-result
overflow_sub-result c = omega (arith, c.triangular_number.ensures, (found (goal.at.overflow_sub-result c).After-isqrt).starts)

pub returns : goal.returns
returns c =
    let at = found (goal.at.returns c).After-isqrt in
    (rw c.triangular_number.ensures at.row, at.column)
