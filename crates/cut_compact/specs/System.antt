-- A and the right sides of the compact cut: the preconditions of their writers, and what these write. Definitions only.
use Rattle.std.specs.Prelude.{ℕ, suc, ◌+◌, ◌*◌, ◌≤◌, ◌≡◌, List, length, Float}
use Rattle.layout.specs.General.Lists.{written}
use Rattle.layout.specs.Problems.Problem.{Problem, Csc, with_b, compact}
use Rattle.layout.specs.Rows.Blocks.{block_row_count, overlap_count}
use Rattle.layout.specs.Checks.{layout}
use Rattle.layout.specs.Cuts.Compact.{compact_a}
use Rattle.augment_standard.specs.Constraints.{Accepted}

-- the compact route accepts the constraints with some b, rows and k are the numbers of block rows and overlaps, and the outputs for A are long enough
pub record SystemFits (p : Problem) (rows k : ℕ) (out : Csc) : Type 0 where
  pub b : List Float
  pub accepted : Accepted compact (with_b p b)
  pub blocks : rows ≡ block_row_count (layout p)
  pub overlaps : k ≡ overlap_count (layout p)
  pub starts : suc p.n + k ≤ length out.starts
  pub entries : length (compact_a p).rows ≤ length out.rows
  pub values : length (compact_a p).values ≤ length out.values

-- there are count right sides of m values each, and the output has room for each of them over this many augmented rows
abbrev pub MovableSides : ℕ → ℕ → List Float → ℕ → List Float → Type 0
MovableSides m rows sides count out = (count * rows ≤ length out) × (count * m ≤ length sides)

-- the cut's A is written to the front of the outputs
pub record HoldsA (p : Problem) (before after : Csc) : Type 0 where
  pub a_starts : after.starts ≡ written (compact_a p).starts before.starts
  pub a_rows : after.rows ≡ written (compact_a p).rows before.rows
  pub a_values : after.values ≡ written (compact_a p).values before.values
