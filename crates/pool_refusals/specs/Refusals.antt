-- The checks of a pool that come before its bounds and output lengths. Definitions only.
use Rattle.std.specs.Prelude.{ℕ, cond, eqb}
use Rattle.layout.specs.Problems.Problem.{Problem}
use Rattle.layout.specs.Calls.Answers.{or_else, problem_refusal}

-- checks 1 to 7 of the second problem, then 17
abbrev pub second_refusal : ℕ → Problem → ℕ
second_refusal n two = or_else (problem_refusal two) (cond (eqb n two.n) 0 17)

abbrev pub both_refusal : Problem → Problem → ℕ
both_refusal one two = or_else (problem_refusal one) (second_refusal one.n two)
