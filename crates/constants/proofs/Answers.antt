-- What a call's answer says of its refusal number.
use Prim.Native.Nat.{ℕ, ◌<◌}
use mathlib.Core.Path.{◌≡◌, refl, sym, ap, ◌∙◌}
use Rattle.std.specs.Prelude.{Result, Ok, Err, IsErr}
use Rattle.std.specs.Result.{IsErrAnd}
use lib.Dec.{lit<}
use Rattle.constants.specs.declared.refusal.Refusal.{Refusal}
use Rattle.constants.specs.declared.refusal.Refusal.TheVariants.{Bound, Starts, Rows, Cones, Patterns, Tree, Cliques, Uncovered, TooLarge, Short, Solution, FileLength, FileTables, Ranges, Limits, Unknowns}
use Rattle.constants.specs.Refusals.{number, refusal_of}

-- each refusal has a number above 0
pub number_positive : (e : Refusal) → 0 < number e
number_positive Bound = lit< tt
number_positive Starts = lit< tt
number_positive Rows = lit< tt
number_positive Cones = lit< tt
number_positive Patterns = lit< tt
number_positive Tree = lit< tt
number_positive Cliques = lit< tt
number_positive Uncovered = lit< tt
number_positive TooLarge = lit< tt
number_positive Short = lit< tt
number_positive Solution = lit< tt
number_positive FileLength = lit< tt
number_positive FileTables = lit< tt
number_positive Ranges = lit< tt
number_positive Limits = lit< tt
number_positive Unknowns = lit< tt

-- an answer that `?` passes on has the number of the answer that it was made from
pub passed_on : {A : Type 0} (r : Result A Refusal) (e : Refusal) → IsErr r × IsErrAnd r (λ (y : Refusal). y ≡ e) → refusal_of r ≡ number e
passed_on (Ok x) e h = absurd h.1
passed_on (Err y) e h = ap number h.1
