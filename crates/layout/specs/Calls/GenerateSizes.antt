-- The contract of the generator's size call: its refusal number, and the length of each table of the generated problem.
use Rattle.std.specs.Prelude.{ℕ, ◌≡◌, List, length}
use Rattle.layout.specs.Problems.Problem.{table_lengths}
use Rattle.layout.specs.Calls.Answers.{output}
use Rattle.layout.specs.Calls.Generate.{generated, generate_sizes_refusal}

pub record GenerateSizes (seed v w n : ℕ) (before after : List ℕ) (r : ℕ) : Type 0 where
  pub number : r ≡ generate_sizes_refusal seed v w n (length before)
  pub out : after ≡ output r (table_lengths (generated seed v w n)) before
