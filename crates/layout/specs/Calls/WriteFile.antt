-- The writer of a problem file (document 02, Q-2): its refusal number, its result and its contract.
use Rattle.std.specs.Prelude.{ℕ, ◌≡◌, List, length}
use Rattle.layout.specs.Files.File.{BitTables, problem_of, file_of}
use Rattle.layout.specs.Calls.Answers.{output, or_else, room_refusal, problem_refusal}

-- the refusal number of the writer: checks 1 to 7, then 11 where the output is too short
abbrev pub write_refusal : BitTables → ℕ → ℕ
write_refusal t room = or_else (problem_refusal (problem_of t)) (room_refusal (length (file_of t)) room)

pub record WriteFile (t : BitTables) (before after : List ℕ) (r : ℕ) : Type 0 where
  pub number : r ≡ write_refusal t (length before)
  pub out : after ≡ output r (file_of t) before
