-- Check 9 over a table indexed by original row, with a mark for each covered row.
use Rattle.std.specs.Prelude.{ℕ, ◌+◌, ◌-◌, ◌*◌, ◌≤◌, Bool, true, false, ◌&&◌, ◌||◌, ◌≡◌, List, map, length, get_or, Float}
use Rattle.std.specs.Float.{nan}
use Rattle.std.specs.Float.Ieee.{eq}
use Rattle.layout.specs.General.Lists.{has, all, below, up_from, part}
use Rattle.layout.specs.General.Floats.{zero64}
use Rattle.layout.specs.General.Triangle.{triangle}
use Rattle.layout.specs.Problems.Patterns.{Pattern}
use Rattle.layout.specs.Rows.Blocks.{Part, original_row, pattern_rows}
use Rattle.layout.specs.Checks.{covered_rows, values_on}
use Rattle.rows_blocks.specs.Vertices.{marked}

-- the effect of marking the blocks of a pattern: it does not depend on `first`, where its augmented rows start
abbrev pub MarksPattern : Pattern → ℕ → List Bool → List Bool → Type 0
MarksPattern p base old new = (first : ℕ) → new ≡ marked true (map original_row (pattern_rows p base first)) old

-- whether the rows of a cone of side n, from row base on, are below 65,536 and within the table
abbrev pub BlockFits : ℕ → ℕ → ℕ → Type 0
BlockFits base n table = (base + triangle n ≤ 65536) × (base + triangle n ≤ table)

-- whether all given rows are marked, and whether each row with a nonzero value is marked
abbrev pub rows_marked : List Bool → List ℕ → Bool
rows_marked marks rows = all (λ r. get_or marks r false) rows

abbrev pub values_marked : List Bool → List Float → Bool
values_marked marks b = all (λ r. eq (get_or b r nan) zero64 || get_or marks r false) (below (length b))

-- the test of the values for the sides from number `first` up to, not including, `last`, each of m values
abbrev pub sides_marked : List Bool → ℕ → ℕ → ℕ → List Float → Bool
sides_marked marks m first last sides = all (λ k. values_marked marks (part (k * m) (k * m + m) sides)) (up_from first (last - first))

abbrev pub sides_on : List ℕ → ℕ → ℕ → ℕ → List Float → Bool
sides_on os m first last sides = all (λ k. values_on os m (part (k * m) (k * m + m) sides)) (up_from first (last - first))

-- check 9 on the compact route, for the rows of A's entries, b and the parts
abbrev pub entries_right : ℕ → List ℕ → List Float → List Part → Bool
entries_right m rows b ps = let os = covered_rows ps in all (λ r. has r os) rows && values_on os m b
