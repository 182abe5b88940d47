-- Several right sides, stored one after another. Definitions only.
use Rattle.std.specs.Prelude.{ℕ, ◌+◌, ◌*◌, List, map, Float}
use Rattle.layout.specs.General.Lists.{below, join, part}
use Rattle.sparsevector.specs.Values.{code_value}

-- the values that each of count sides of m values has at the rows with these codes, side after side
abbrev pub moved_sides : ℕ → List ℕ → List Float → ℕ → List Float
moved_sides m codes sides count = join (λ k. map (code_value (part (k * m) (k * m + m) sides)) codes) (below count)
