-- The number of each refusal, and of a call's answer.
use Rattle.std.specs.Prelude.{ℕ, Result, Ok, Err}
use Rattle.constants.specs.declared.refusal.Refusal.{Refusal}
use Rattle.constants.specs.declared.refusal.Refusal.TheVariants.{Bound, Starts, Rows, Cones, Patterns, Tree, Cliques, Uncovered, TooLarge, Short, Solution, FileLength, FileTables, Ranges, Limits, Unknowns}

abbrev pub number : Refusal → ℕ
number Bound = 1
number Starts = 2
number Rows = 3
number Cones = 4
number Patterns = 5
number Tree = 6
number Cliques = 7
number Uncovered = 9
number TooLarge = 10
number Short = 11
number Solution = 12
number FileLength = 13
number FileTables = 14
number Ranges = 15
number Limits = 16
number Unknowns = 17

-- the number of an answer: 0 where nothing is refused
abbrev pub refusal_of : {A : Type 0} → Result A Refusal → ℕ
refusal_of (Ok x) = 0
refusal_of (Err r) = number r
