-- The preconditions of a cut's writers: an accepted problem, the number of added columns, and outputs that are long enough. Definitions only.
use Rattle.std.specs.Prelude.{ℕ, suc, ◌+◌, ◌≤◌, ◌≡◌, ◌++◌, length, replicate, T}
use Rattle.layout.specs.General.Floats.{zero64}
use Rattle.layout.specs.Problems.Problem.{Problem, Route}
use Rattle.layout.specs.Checks.{starts_right, layout}
use Rattle.layout.specs.Cuts.Compact.{extended_p}
use Rattle.layout.specs.Calls.Cut.{augmented, Objective, Constrained}
use Rattle.layout.specs.Calls.Join.{added_count, slack_count}
use Rattle.augment_standard.specs.Constraints.{Accepted}

-- P extended by k empty columns, q by k zeros, and the exponents unchanged
abbrev pub extended : ℕ → Objective → Objective
extended k o = record { P = extended_p k o.P; q = o.q ++ replicate k zero64; alphas = o.alphas }

-- P has n columns, and the outputs are long enough for k more
pub record ObjectiveFits (n k : ℕ) (o out : Objective) : Type 0 where
  pub right : T (starts_right n o.P)
  pub starts : length o.P.starts + k ≤ length out.P.starts
  pub rows : length o.P.rows ≤ length out.P.rows
  pub values : length o.P.values ≤ length out.P.values
  pub costs : length o.q + k ≤ length out.q
  pub alphas : length o.alphas ≤ length out.alphas

-- the route accepts the problem and adds k columns, and the outputs are long enough
pub record ConstrainedFits (route : Route) (p : Problem) (k : ℕ) (out : Constrained) : Type 0 where
  pub accepted : Accepted route p
  pub added : k ≡ added_count route (layout p)
  pub starts : suc (p.n + k) ≤ length out.A.starts
  pub rows : length (augmented route p).A.rows ≤ length out.A.rows
  pub values : length (augmented route p).A.values ≤ length out.A.values
  pub slacks : slack_count route p.m (layout p) ≤ length out.b
  pub cones : length (augmented route p).cones ≤ length out.cones
