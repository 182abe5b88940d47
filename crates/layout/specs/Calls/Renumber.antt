-- The renumbering of one pattern: its refusal number, its result and its contract. Its orig_index and its vertex count are not compared with
-- a cone.
use Rattle.std.specs.Prelude.{ℕ, Bool, ◌&&◌, List, [], ◌∷◌, ◌≡◌, length}
use Rattle.layout.specs.General.Lists.{is_permutation}
use Rattle.layout.specs.Problems.Patterns.{Pattern, no_pattern, read_pattern, ends_right, wholly, renumber, pattern_words_of}
use Rattle.layout.specs.Checks.{tree_right, cliques_right, check, first_failing}
use Rattle.layout.specs.Calls.Answers.{output, or_else, room_refusal}

abbrev pub only_pattern : List ℕ → Pattern
only_pattern ws = wholly no_pattern (read_pattern ws)

abbrev pub only_read : List ℕ → Bool
only_read ws = ends_right (read_pattern ws) && is_permutation (only_pattern ws).ordering

abbrev pub renumber_refusal : List ℕ → ℕ → ℕ
renumber_refusal ws room =
    let p = only_pattern ws in
    or_else (first_failing (check 5 (only_read ws) ∷ check 6 (tree_right p) ∷ check 7 (cliques_right p) ∷ [])) (room_refusal (length ws) room)

abbrev pub renumbered : List ℕ → List ℕ
renumbered ws = pattern_words_of (renumber (only_pattern ws))

pub record Renumber (words before after : List ℕ) (r : ℕ) : Type 0 where
  pub number : r ≡ renumber_refusal words (length before)
  pub out : after ≡ output r (renumbered words) before
