-- The parts of the Q-2 program: its output for tables, for words and for bytes. Definitions only.
use Rattle.std.specs.Prelude.{ℕ, ◌≤◌, cond, ◌≡◌, List, [], length, leb}
use Rattle.layout.specs.General.Lists.{written}
use Rattle.layout.specs.Problems.Problem.{compact}
use Rattle.layout.specs.Checks.{refusal}
use Rattle.layout.specs.Calls.Answers.{or_else, problem_refusal}
use Rattle.layout.specs.Files.File.{BitTables, problem_of, file_of, compact_tables, answer, program_output}
use Rattle.layout.specs.Files.FileWords.{word_tables, word_shape_failing}

-- ---- tables

-- checks 1 to 10 of the compact route, then 10 if the compact file is too long
abbrev pub cut_tables_refusal : BitTables → ℕ
cut_tables_refusal t = or_else (refusal compact (problem_of t)) (cond (leb (length (file_of (compact_tables t))) 65536) 0 10)

abbrev pub cut_tables_output : BitTables → List ℕ
cut_tables_output t = answer (cut_tables_refusal t) (file_of (compact_tables t))

-- ---- the words of a file of `bytes` bytes

abbrev pub words_refusal : List ℕ → ℕ → ℕ
words_refusal ws bytes = or_else (word_shape_failing ws bytes) (cut_tables_refusal (word_tables ws))

abbrev pub words_output : List ℕ → ℕ → List ℕ
words_output ws bytes = answer (words_refusal ws bytes) (file_of (compact_tables (word_tables ws)))

-- what holds of the words of a file of at most 8,192 bytes: there are at most 2,048 and, where not refused, their compact problem passes checks 1 to 7
pub record Small (ws : List ℕ) : Type 0 where
  pub few : length ws ≤ 2048
  pub passes : cut_tables_refusal (word_tables ws) ≡ 0 → problem_refusal (problem_of (compact_tables (word_tables ws))) ≡ 0

-- ---- the whole program: nothing is written where `out` is shorter than the longest output
abbrev pub program_bytes : List ℕ → ℕ → List ℕ
program_bytes file room = cond (leb 65536 room) (program_output file) []

pub record CutFile (file before after : List ℕ) (r : ℕ) : Type 0 where
  pub count : r ≡ length (program_bytes file (length before))
  pub inside : r ≤ length after
  pub out : after ≡ written (program_bytes file (length before)) before
