-- The contract of the compact joining that takes the cone map as a list of entries.
use Rattle.std.specs.Prelude.{ℕ, ◌≡◌, Bool, false, cond, ◌&&◌, List, [], ◌∷◌, eqb}
use Rattle.layout.specs.General.Lists.{same_by}
use Rattle.layout.specs.Problems.Problem.{Solution, compact}
use Rattle.layout.specs.Cuts.Compact.{MapEntry, whole_cone, block_of, cone_map}
use Rattle.layout.specs.Calls.Answers.{or_else, roomy}
use Rattle.layout.specs.Calls.Join.{joined_parts, join_checks, solution_fits, joined, Rejoined, rejoined_of, rejoined_rooms, HoldsRejoined}

abbrev pub same_entry : MapEntry → MapEntry → Bool
same_entry (whole_cone i first rows) (whole_cone j other count) = eqb i j && (eqb first other && eqb rows count)
same_entry (whole_cone i first rows) (block_of j l d other count) = false
same_entry (block_of i k c first rows) (whole_cone j other count) = false
same_entry (block_of i k c first rows) (block_of j l d other count) = eqb i j && (eqb k l && (eqb c d && (eqb first other && eqb rows count)))

abbrev pub same_map : List MapEntry → List MapEntry → Bool
same_map es fs = same_by same_entry es fs

-- `joinRefusal` on the compact route, where `same` says whether the map is the problem's
abbrev refusal_as : Bool → ℕ → ℕ → List ℕ → ℕ → List ℕ → Solution → List ℕ → ℕ
refusal_as same n m cones count words sol room =
    or_else (join_checks compact n m cones count words)
    (or_else (cond (roomy (n ∷ m ∷ m ∷ 2 ∷ []) room) 0 11)
    (cond (solution_fits compact n m (joined_parts cones count words) sol && same) 0 12))

abbrev pub entries_refusal : ℕ → ℕ → List ℕ → ℕ → List ℕ → Solution → List MapEntry → List ℕ → ℕ
entries_refusal n m cones count words sol entries room =
    refusal_as (same_map entries (cone_map (joined_parts cones count words))) n m cones count words sol room

pub record JoinEntries (n m : ℕ) (cones : List ℕ) (count : ℕ) (words : List ℕ) (sol : Solution) (entries : List MapEntry) (before after : Rejoined) (r : ℕ) : Type 0 where
  pub number : r ≡ entries_refusal n m cones count words sol entries (rejoined_rooms before)
  pub tables : HoldsRejoined r (rejoined_of (joined compact n m (joined_parts cones count words) sol)) before after
