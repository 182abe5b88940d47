-- The refusal number of a call with a route number, and a bound on the α of an accepted problem.
use Prim.Native.Nat.{ℕ, zero, suc, ◌≤◌, ◌<◌}
use native.Mathlib.Omega.{arith}
use mathlib.Core.Path.{◌≡◌, refl}
use mathlib.Core.List.{map}
use lib.ListN.{length}
use Rattle.layout.specs.General.Lists.{sum}
use Rattle.layout.specs.Problems.Problem.{Problem, Route}
use Rattle.layout.specs.Problems.Cones.{alphas, records, row_count, alpha_count}
use Rattle.layout.specs.Checks.{Checked}
use Rattle.layout.specs.Calls.Answers.{on_route, route_of}
use Rattle.layout.proofs.Lists.Tests.{and_iff, eqb_iff}
use Rattle.layout.proofs.Theorems.File.{alphas-few}

-- ---- a route number

pub no_route : (k : ℕ) (f : Route → ℕ) → 1 < k → on_route k f ≡ 1
no_route zero f h = absurd (omega arith)
no_route (suc zero) f h = absurd (omega arith)
no_route (suc (suc k)) f h = refl

pub on_route_lem : (k : ℕ) (f : Route → ℕ) → k ≤ 1 → on_route k f ≡ f (route_of k)
on_route_lem zero f h = refl
on_route_lem (suc zero) f h = refl
on_route_lem (suc (suc k)) f h = absurd (omega arith)

-- ---- an accepted problem

-- there are at most 65536 α, as no cone takes more α than it has rows
pub few-alphas : (p : Problem) → Checked p → length p.alphas ≤ 65536
few-alphas p h =
    let count : sum (map alpha_count (records p.cones)) ≡ length p.alphas = (eqb_iff _ _).0 h.alphas in
    let rows : sum (map row_count (records p.cones)) ≡ p.m = (simp (and_iff, eqb_iff) at h.sound.read).1 in
    omega (arith, count, rows, alphas-few (records p.cones), h.sound.few)
