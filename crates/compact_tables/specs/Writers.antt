-- The tables of the compact problem as their writers are passed them. Definitions only.
use Rattle.std.specs.Prelude.{ℕ, ◌-◌, ◌≤◌, ◌≡◌, List, [], ◌∷◌, ◌++◌, length, take, replicate}
use Rattle.layout.specs.Problems.Problem.{compact}
use Rattle.layout.specs.Checks.{refusal}
use Rattle.layout.specs.Calls.Cut.{sizes}
use Rattle.layout.specs.Calls.Answers.{problem_refusal}
use Rattle.layout.specs.Files.File.{BitTables, bit_tables, problem_of, file_of, compact_tables}

-- the precondition of `write_cut`: the program does not refuse the tables, and lengths are those of the tables to be written
pub record Writes (t : BitTables) (lengths : List ℕ) : Type 0 where
  pub accepted : refusal compact (problem_of t) ≡ 0
  pub passes : problem_refusal (problem_of (compact_tables t)) ≡ 0
  pub short : length (file_of (compact_tables t)) ≤ 65536
  pub sized : lengths ≡ take 10 (sizes compact (problem_of t)) ++ (0 ∷ [])

-- the tables of a problem with the given A, b and cones, where P and q are extended by empty columns and zeros, without patterns
abbrev pub extended_tables : BitTables → ℕ → List ℕ → List ℕ → List ℕ → List ℕ → List ℕ → BitTables
extended_tables t columns a_starts a_rows a_values b cones =
    bit_tables columns (length b) (t.p_starts ++ replicate (columns - t.n) (length t.p_values)) t.p_rows t.p_values
    (t.q ++ replicate (columns - t.n) 0) a_starts a_rows a_values b cones t.alphas 0 []

-- the precondition of `write_extended`
pub record Extends (t : BitTables) (columns : ℕ) (a_starts a_rows a_values b cones : List ℕ) : Type 0 where
  pub passes : problem_refusal (problem_of (extended_tables t columns a_starts a_rows a_values b cones)) ≡ 0
  pub short : length (file_of (extended_tables t columns a_starts a_rows a_values b cones)) ≤ 65536
  pub wide : t.n ≤ columns
  pub few_columns : columns ≤ 8192
  pub few_entries : length a_values ≤ 8192
  pub few_rows : length b ≤ 8192
