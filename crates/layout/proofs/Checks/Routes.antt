-- The route of a route number: 0 is the standard route, any other number the compact one.
use Prim.Native.Nat.{ℕ, zero, suc}
use mathlib.Core.Path.{◌≡◌, refl, ap}
use Rattle.layout.specs.Problems.Problem.{standard, compact}
use Rattle.layout.specs.Calls.Answers.{route_of}

pub route_standard : (r : ℕ) → r ≡ 0 → route_of r ≡ standard
route_standard r e = ap route_of e

pub route_compact : (r : ℕ) → (r ≡ 0 → ⊥) → route_of r ≡ compact
route_compact zero h = absurd (h refl)
route_compact (suc r) h = refl
