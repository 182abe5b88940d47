use lib.ListN.{length-set}
use native.Mathlib.Omega.{arith}
use Rattle.rows_tables.proofs.put.Goals as goal

pub bounds-out-t-2 : goal.bounds-out-t-2
bounds-out-t-2 c = simp length-set (omega arith)

pub bounds-out-t-3 : goal.bounds-out-t-3
bounds-out-t-3 c = simp length-set (omega arith)

pub shape_of-out : goal.shape_of-out
shape_of-out c = simp length-set
