-- The pair index: its refusal number, its result and its contract.
use Rattle.std.specs.Prelude.{ℕ, cond, ◌&&◌, List, [], ◌∷◌, ◌≡◌, length, leb}
use Rattle.layout.specs.General.Triangle.{pair_index}
use Rattle.layout.specs.Calls.Answers.{output, or_else, room_refusal}

abbrev pub pair_refusal : ℕ → ℕ → ℕ → ℕ
pair_refusal i j room = or_else (cond (leb i 255 && leb j 255) 0 1) (room_refusal 1 room)

abbrev pub pair_words : ℕ → ℕ → List ℕ
pair_words i j = pair_index i j ∷ []

pub record PairIndex (i j : ℕ) (before after : List ℕ) (r : ℕ) : Type 0 where
  pub number : r ≡ pair_refusal i j (length before)
  pub out : after ≡ output r (pair_words i j) before
