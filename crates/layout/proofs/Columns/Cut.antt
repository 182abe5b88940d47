-- What checks 1 to 10 ensure for a problem that the compact route accepts, and the columns that the compact cut writes.
use Prim.Native.Nat.{ℕ, ◌+◌, ◌<◌}
use native.Mathlib.Omega.{arith}
use mathlib.Core.Path.{◌≡◌, ap, ap₂, ◌∙◌}
use mathlib.Core.List.{List, [], map}
use lib.ListN.{length, get_or, length-map, length-append}
use lib.Dec.{T}
use Rattle.layout.specs.General.Lists.{has, below}
use Rattle.layout.specs.Problems.Problem.{Problem, compact}
use Rattle.layout.specs.Rows.Blocks.{Row, compact_rows, overlap_count}
use Rattle.layout.specs.Checks.{layout, refusal, checks, covered_rows, entries_on, values_on}
use Rattle.layout.specs.Cuts.Compact.{Entry, column, summed, summed_a, augmented_column, overlap_columns, compact_a, compact_columns}
use Rattle.layout.proofs.Lists.Tests.{and_iff}
use Rattle.layout.proofs.Checks.Order.{passed}
use Rattle.layout.proofs.Rows.Moves.{RightRows}
use Rattle.layout.proofs.Rows.Laid.{accepted-rows}
use Rattle.layout.proofs.Rows.Overlaps.{accepted-overlaps}
use Rattle.layout.proofs.Columns.Compressed.{ruled_count, csc_ruled, csc-later}
use Rattle.layout.proofs.Columns.Repeats.{summed-each}
use Rattle.layout.proofs.Equations.Links.{links, links_count}
use Rattle.layout.proofs.Equations.RowSums.{link_column, overlap_columns_lem}

module _ (p : Problem) (ok : refusal compact p ≡ 0) where
  abbrev R : List Row
  R = compact_rows (layout p)

  pub right-rows : RightRows 0 0 p.m (compact_rows (layout p))
  right-rows = accepted-rows compact p ok

  -- there is a link for each overlap
  pub link_count : length (links 0 (compact_rows (layout p))) ≡ overlap_count (layout p)
  link_count = links_count 0 R ∙ accepted-overlaps compact p ok

  -- check 9 passes
  nine : T (entries_on (covered_rows (layout p)) p.A) × T (values_on (covered_rows (layout p)) p.m p.b)
  nine =
      (and_iff (entries_on (covered_rows (layout p)) p.A) (values_on (covered_rows (layout p)) p.m p.b)).0
      (passed 9 (checks compact p) tt ok)

  pub covered_entries : T (entries_on (covered_rows (layout p)) p.A)
  covered_entries = nine.0

  -- the entries with their repeats added are in covered rows too
  pub covered_summed : T (entries_on (covered_rows (layout p)) (summed_a p))
  covered_summed = summed-each p compact ok (λ r. has r (covered_rows (layout p))) covered_entries

  pub covered_values : T (values_on (covered_rows (layout p)) p.m p.b)
  covered_values = nine.1

  -- ---- A's columns with their repeats added, then the overlap columns

  abbrev moving : ℕ → List Entry
  moving c = augmented_column (summed (column p.A c)) 0 R

  -- there is a column for each overlap
  overlaps-count : length (overlap_columns 0 R) ≡ length (links 0 R)
  overlaps-count = ap length (overlap_columns_lem 0 R) ∙ length-map (links 0 R) link_column

  pub all_columns_count : length (compact_columns p) ≡ p.n + length (links 0 R)
  all_columns_count =
      length-append (map moving (below p.n)) (overlap_columns 0 R)
      ∙ ap₂ ◌+◌ (ruled_count moving p.n (overlap_columns 0 R)) overlaps-count

  pub first_columns : (c : ℕ) → c < p.n → column (compact_a p) c ≡ augmented_column (summed (column p.A c)) 0 (compact_rows (layout p))
  first_columns c l = csc_ruled moving p.n (overlap_columns 0 R) c l

  pub added_columns : (k : ℕ) → k < length (links 0 (compact_rows (layout p)))
      → column (compact_a p) (p.n + k) ≡ get_or (map link_column (links 0 (compact_rows (layout p)))) k []
  added_columns k l =
      csc-later moving p.n (overlap_columns 0 R) k (omega (arith, overlaps-count))
      ∙ ap (λ (cs : List (List Entry)). get_or cs k []) (overlap_columns_lem 0 R)
