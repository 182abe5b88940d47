-- A problem as same layout compares it: without the values of P and A, q, b and the pattern count.
use Rattle.std.specs.Prelude.{ℕ, List, [], Float}
use Rattle.layout.specs.Problems.Problem.{Problem, problem}

abbrev pub compared : ℕ → ℕ → List ℕ → List ℕ → List ℕ → List ℕ → List ℕ → List Float → List ℕ → Problem
compared n m p_starts p_rows a_starts a_rows cones alphas words = problem n m p_starts p_rows [] [] a_starts a_rows [] [] cones alphas 0 words
