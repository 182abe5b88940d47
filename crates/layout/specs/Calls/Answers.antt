-- What the calls share: an output's contents after a call, the first of two refusal numbers, check 11, a route's number.
-- A refused call leaves its outputs unchanged.
use Rattle.std.specs.Prelude.{ℕ, zero, suc, Bool, true, false, cond, ◌&&◌, List, [], ◌∷◌, leb}
use Rattle.layout.specs.General.Lists.{written}
use Rattle.layout.specs.Problems.Problem.{Problem, Route, standard, compact}
use Rattle.layout.specs.Checks.{first_failing, problem_checks}

-- an output's contents after a call: `new` at its start where the refusal number is 0, unchanged otherwise
abbrev pub output : {A : Type 0} → ℕ → List A → List A → List A
output zero new old = written new old
output (suc k) new old = old

-- the first number, or the second where the first is 0
abbrev pub or_else : ℕ → ℕ → ℕ
or_else zero b = b
or_else (suc a) b = suc a

-- check 11 of one output: it needs `need` elements and has `room`
abbrev pub room_refusal : ℕ → ℕ → ℕ
room_refusal need room = cond (leb need room) 0 11

-- check 11 of several outputs: whether each has at least as many elements as it needs
abbrev pub roomy : List ℕ → List ℕ → Bool
roomy [] rooms = true
roomy (k ∷ ks) [] = false
roomy (k ∷ ks) (room ∷ rooms) = leb k room && roomy ks rooms

-- checks 1 to 7 of a problem
abbrev pub problem_refusal : Problem → ℕ
problem_refusal p = first_failing (problem_checks p)

-- a refusal number on a route: route 0 is standard, 1 compact; any other number is refused with 1 before all checks
abbrev pub on_route : ℕ → (Route → ℕ) → ℕ
on_route zero f = f standard
on_route (suc zero) f = f compact
on_route (suc (suc k)) f = 1

-- the route of a number
abbrev pub route_of : ℕ → Route
route_of zero = standard
route_of (suc k) = compact
