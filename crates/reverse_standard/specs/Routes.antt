-- Where the routes of a joining differ: the Bool is true on the standard route and false on the compact one.
use Rattle.std.specs.Prelude.{ℕ, suc, ◌+◌, ◌*◌, ◌≤◌, ◌≡◌, Bool, true, false, List, [], ◌∷◌, length, get_or, Float}
use Rattle.std.specs.Float.Ieee.{add}
use Rattle.std.specs.Float.{binary64}

-- the new z at a row that held old: the standard route adds v, the compact one overwrites with v
abbrev pub z_value : Bool → Float → Float → Float
z_value true old v = add binary64 old v
z_value false old v = v

-- where the values of a block start: the counted offset on the standard route, the first row in entry k of the cone map's words on the compact one
abbrev pub start_of : Bool → ℕ → List ℕ → ℕ → ℕ
start_of true counted ws k = counted
start_of false counted ws k = get_or ws (k * 5 + 3) 0

-- the cone map has all words of entry k; the standard route needs none
abbrev pub HasEntry : Bool → List ℕ → ℕ → Type 0
HasEntry true ws k = Unit {0}
HasEntry false ws k = k * 5 + 5 ≤ length ws

-- on the compact route: blocks of ns rows have entries from k on, and these give consecutive starts, the first being `first`
abbrev pub Starts : Bool → List ℕ → ℕ → ℕ → List ℕ → Type 0
Starts true ws k first ns = Unit {0}
Starts false ws k first [] = Unit {0}
Starts false ws k first (n ∷ ns) = (k * 5 + 5 ≤ length ws) × (get_or ws (k * 5 + 3) 0 ≡ first) × Starts false ws (suc k) (first + n) ns
