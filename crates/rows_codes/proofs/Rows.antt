-- The codes of rows whose original rows are below 65,536.
use Prim.Native.Nat.{ℕ, ◌≤◌, ◌<◌}
use native.Mathlib.Omega.{arith}
use mathlib.Core.List.{List, map}
use mathlib.Core.Path.{◌≡◌}
use lib.ListN.{length, length-map}
use Rattle.layout.specs.Problems.Problem.{Problem, compact}
use Rattle.layout.specs.Rows.Blocks.{Row, kept, owned, overlap, original_row, compact_rows}
use Rattle.layout.specs.Checks.{layout, refusal}
use Rattle.layout.proofs.Lists.Members.{get_or_map, EveryAt}
use Rattle.layout.proofs.Rows.Moves.{row_at}
use Rattle.layout.proofs.Rows.Laid.{accepted-rows}
use Rattle.layout.proofs.Checks.Accepted.{accepted-sound}
use Rattle.rows_codes.specs.Codes.{cut_code, RowInside, RowsInside}

-- a code below 65,536 is the original row
code_inside : (x : Row) (n : ℕ) → original_row x < n → RowInside n (cut_code x)
code_inside (kept o) n l h = l
code_inside (owned o) n l h = l
code_inside (overlap o q) n l h = absurd (omega arith)

pub rows_inside : (n : ℕ) (R : List Row) → EveryAt (kept 0) (λ x. original_row x < n) R → RowsInside n (map cut_code R)
rows_inside n R h r l =
    let k : r < length R = omega (arith, length-map R cut_code) in
    let e = get_or_map cut_code R r (kept 0) 0 k in
    λ s. rw e (code_inside (row_at R r) n (h r k) (rw e at s))

-- all original rows are below 65,536
abbrev pub Small : List Row → Type 0
Small R = EveryAt (kept 0) (λ x. original_row x < 65536) R

module _ (p : Problem) (ok : refusal compact p ≡ 0) where
  inside : (r : ℕ) → r < length (compact_rows (layout p)) → original_row (row_at (compact_rows (layout p)) r) < p.m
  inside r l = ((accepted-rows compact p ok).inside r l).1

  pub accepted-small : Small (compact_rows (layout p))
  accepted-small r l = omega (arith, inside r l, (accepted-sound compact p ok).few)

  pub accepted-inside : (n : ℕ) → p.m ≤ n → RowsInside n (map cut_code (compact_rows (layout p)))
  accepted-inside n h = rows_inside n (compact_rows (layout p)) (λ r l. omega (arith, inside r l))
