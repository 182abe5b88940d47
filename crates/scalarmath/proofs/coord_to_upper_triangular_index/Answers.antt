use Prim.Native.Nat.{ℕ, ◌≤◌}
use native.Mathlib.Omega.{arith}
use mathlib.Core.Path.{sym}
use Rattle.layout.specs.General.Triangle.{triangle}
use Rattle.layout.proofs.Numbers.Triangles.{triangle_mono, pair_index-le, pair_index_gt}
use Rattle.scalarmath.proofs.coord_to_upper_triangular_index.Goals as goal

column-small : (k : ℕ) → k ≤ 255 → triangle k ≤ 32896
column-small k h = triangle_mono k 256 (omega arith)

pub overflow_add-result : goal.overflow_add-result
overflow_add-result c = omega (arith, c.column_start.ensures, column-small c.args.j (omega arith))

pub overflow_add-result-else-i-j : goal.overflow_add-result-else-i-j
overflow_add-result-else-i-j c = omega (arith, c.column_start-else-i-j.ensures, column-small c.args.i (omega arith))

pub returns-then-i-j : goal.returns-then-i-j
returns-then-i-j c = rw c.column_start.ensures (sym (pair_index-le c.args.i c.args.j c.if-i-j.true))

pub returns-else-i-j : goal.returns-else-i-j
returns-else-i-j c = rw c.column_start-else-i-j.ensures (sym (pair_index_gt c.args.i c.args.j c.if-i-j.false))
