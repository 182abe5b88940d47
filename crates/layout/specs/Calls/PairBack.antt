-- The pair of an index: its refusal number, its result and its contract.
use Rattle.std.specs.Prelude.{ℕ, cond, List, [], ◌∷◌, ◌≡◌, length, leb}
use Rattle.layout.specs.General.Triangle.{index_row, index_column}
use Rattle.layout.specs.Calls.Answers.{output, or_else, room_refusal}

abbrev pub back_refusal : ℕ → ℕ → ℕ
back_refusal t room = or_else (cond (leb t 32895) 0 1) (room_refusal 2 room)

abbrev pub back_words : ℕ → List ℕ
back_words t = index_row t ∷ index_column t ∷ []

pub record PairBack (index : ℕ) (before after : List ℕ) (r : ℕ) : Type 0 where
  pub number : r ≡ back_refusal index (length before)
  pub out : after ≡ output r (back_words index) before
