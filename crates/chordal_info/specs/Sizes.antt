-- Check 10 and the sizes of the cut's outputs, computed from counts: block rows, overlaps and new cones.
use Rattle.std.specs.Prelude.{ℕ, suc, ◌+◌, ◌*◌, ◌≤◌, Bool, ◌&&◌, List, [], ◌∷◌, length, T, leb}
use Rattle.layout.specs.Problems.Problem.{Route, standard, compact}
use Rattle.layout.specs.Cuts.Runs.{run_count}
use Rattle.csc.specs.Matrix.{table}

abbrev pub rows_fit : Route → ℕ → ℕ → ℕ → Bool
rows_fit standard m rows overlaps = leb (m + rows) 262144
rows_fit compact m rows overlaps = leb rows 262144 && leb overlaps 131072

-- the lengths of the eleven outputs: the starts, rows and values of P, q, the starts, rows and values of A, b, cones, α and cone map
abbrev pub output_lengths : ℕ → ℕ → ℕ → ℕ → ℕ → ℕ → ℕ → List ℕ
output_lengths columns p a b cones α map =
    suc columns ∷ p ∷ p ∷ columns ∷ suc columns ∷ a ∷ a ∷ b ∷ cones ∷ α ∷ map ∷ []

-- the number of entries of an A with n columns that a route keeps: the compact route merges each run of repeated rows into one entry
abbrev pub entries_kept : Route → ℕ → List ℕ → List ℕ → ℕ
entries_kept standard n starts rows = length rows
entries_kept compact n starts rows = run_count n (table starts rows)

-- the output lengths from n, m, the entries of P, the kept entries of A, the number of α, and the counts of rows, overlaps and cones
abbrev pub route_sizes : Route → ℕ → ℕ → ℕ → ℕ → ℕ → ℕ → ℕ → ℕ → List ℕ
route_sizes standard n m p a α rows overlaps cones =
    output_lengths (n + rows) p (a + 2 * rows) (m + rows) (3 * suc cones) α 0
route_sizes compact n m p a α rows overlaps cones =
    output_lengths (n + overlaps) p (a + 2 * overlaps) rows (3 * cones) α (5 * cones)

-- the bounds that checks 1 and 10 put on the counts
abbrev pub Fitting : Route → ℕ → ℕ → ℕ → ℕ → ℕ → ℕ → Type 0
Fitting route n m a rows overlaps cones =
    (n ≤ 65536) × (a ≤ 262144) × T (rows_fit route m rows overlaps) × (overlaps ≤ rows) × (cones ≤ 1024 + rows)
