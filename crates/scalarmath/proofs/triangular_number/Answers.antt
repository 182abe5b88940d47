use Prim.Native.Nat.{ℕ, ◌+◌, ◌*◌, ◌≤◌}
use native.Mathlib.Nat.{mul-le-mul}
use native.Mathlib.Omega.{arith}
use Rattle.scalarmath.proofs.triangular_number.Goals as goal

square : (k : ℕ) → k ≤ 65535 → k * (k + 1) ≤ 65535 * 65536
square k h = mul-le-mul {n₂ = 65535} {m₂ = 65536} h (omega arith)

pub overflow_mul-result : goal.overflow_mul-result
overflow_mul-result c = omega (arith, square c.args.k (omega arith))
