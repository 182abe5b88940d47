-- The length of the table of counts on the standard route: at least the rows of the largest decomposed cone.
use Rattle.std.specs.Prelude.{ℕ, ◌≤◌, Bool, true, false, not, ◌||◌, List, length, T, leb, eqb}
use Rattle.layout.specs.General.Lists.{all}
use Rattle.layout.specs.General.Triangle.{triangle}
use Rattle.layout.specs.Problems.Cones.{records}
use Rattle.layout.specs.Problems.Patterns.{Pattern}
use Rattle.layout.specs.Checks.{names_its_cone}
use Rattle.join_cones.specs.Parts.{Cleared}

-- if the cone is PSD, its side is at most 90, and so it has at most 4,095 rows
abbrev pub side_few : ℕ → ℕ → Bool
side_few kind side = not (eqb kind 6) || leb side 90

abbrev pub sides_few : List ℕ → Bool
sides_few cones = all (λ c. side_few c.kind c.first) (records cones)

-- each cone that a pattern may decompose has at most k rows, if it is one of m rows in all
abbrev pub RowsWithin : ℕ → ℕ → List ℕ → Type 0
RowsWithin k m cones =
    (p : Pattern) → T (names_its_cone (records cones) p) → triangle p.vertex_count ≤ m → p.vertex_count ≤ 256 → triangle p.vertex_count ≤ k

-- there are counts for each decomposed cone, all of them 0; true is the standard route, and the compact one (false) counts nothing
abbrev pub CountsCones : Bool → ℕ → List ℕ → List ℕ → Type 0
CountsCones true m cones counts = RowsWithin (length counts) m cones × Cleared true counts
CountsCones false m cones counts = Unit {0}
