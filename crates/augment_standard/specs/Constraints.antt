-- The part of a problem that decides A, b, the cones and the map of its cut; P, q and the α do not. Definitions only.
use Rattle.std.specs.Prelude.{ℕ, ◌≡◌, List, [], Float}
use Rattle.layout.specs.Problems.Problem.{Problem, Csc, Route, problem}
use Rattle.layout.specs.Checks.{refusal}

-- a problem with A, b, the cones and the patterns, and empty P, q and α
abbrev pub constraints : ℕ → ℕ → List ℕ → List ℕ → List Float → List Float → List ℕ → ℕ → List ℕ → Problem
constraints n m starts rows values b cones count words = problem n m [] [] [] [] starts rows values b cones [] count words

-- the same problem with P, q and α
abbrev pub completed : Csc → List Float → List Float → Problem → Problem
completed P q alphas p = record {
  n = p.n;
  m = p.m;
  P = P;
  q = q;
  A = p.A;
  b = p.b;
  cones = p.cones;
  alphas = alphas;
  pattern_count = p.pattern_count;
  pattern_words = p.pattern_words;
}

-- p is accepted by the route with some P, q and α
pub record Accepted (route : Route) (p : Problem) : Type 0 where
  pub P : Csc
  pub q : List Float
  pub alphas : List Float
  pub accepted : refusal route (completed P q alphas p) ≡ 0
