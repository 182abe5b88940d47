-- The contract of the call for a file's words: its refusal number, and the complete words of the bytes.
use Rattle.std.specs.Prelude.{ℕ, ◌≡◌, List, length}
use Rattle.layout.specs.Files.FileWords.{file_words}
use Rattle.layout.specs.Calls.Answers.{output, room_refusal}

pub record FileWords (file before after : List ℕ) (r : ℕ) : Type 0 where
  pub number : r ≡ room_refusal (length (file_words file)) (length before)
  pub out : after ≡ output r (file_words file) before
