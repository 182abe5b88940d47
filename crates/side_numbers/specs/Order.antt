-- The order of the checks with several right sides, and the lengths of the outputs with another b. Definitions only.
use Rattle.std.specs.Prelude.{ℕ, ◌*◌, cond, List, ◌∷◌, ◌++◌, length, take, drop, leb, eqb, Float}
use Rattle.layout.specs.Calls.Answers.{or_else}
use Rattle.layout.specs.Calls.CutBetween.{at_most}

-- the needed or given lengths of a cut's outputs, with the length of a second b after that of b
abbrev pub with_another : ℕ → List ℕ → List ℕ
with_another k ks = take 8 ks ++ (k ∷ drop 8 ks)

-- the number of the first failing one of checks 1 to 7 and 16 with limits, where checks 1 to 7 with low alone gave r
abbrev pub limits_order : ℕ → ℕ → List Float → List Float → ℕ
limits_order r m low high =
    or_else (cond (leb r 4) r 0) (or_else (cond (eqb (length high) m) 0 4) (or_else (cond (at_most low high) 0 16) r))

-- the number of the first failing one of checks 1 to 7 of count right sides in a list of this size, where those of the first side alone gave r
abbrev pub sides_order : ℕ → ℕ → ℕ → ℕ → ℕ
sides_order r m count size = or_else (cond (leb r 3) r 0) (or_else (cond (eqb size (count * m)) 0 4) r)
