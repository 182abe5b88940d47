-- The inverse permutation: its refusal number, its result and its contract.
use Rattle.std.specs.Prelude.{ℕ, cond, List, map, ◌≡◌, length}
use Rattle.layout.specs.General.Lists.{below, place_of, is_permutation}
use Rattle.layout.specs.Calls.Answers.{output, or_else, room_refusal}

abbrev pub inverse : List ℕ → List ℕ
inverse xs = map (λ w. place_of w xs) (below (length xs))

abbrev pub inverse_refusal : List ℕ → ℕ → ℕ
inverse_refusal xs room = or_else (cond (is_permutation xs) 0 5) (room_refusal (length xs) room)

pub record Inverse (permutation before after : List ℕ) (r : ℕ) : Type 0 where
  pub number : r ≡ inverse_refusal permutation (length before)
  pub out : after ≡ output r (inverse permutation) before
