-- The joinings: the original problem's solution from that of a cut problem. The first n of x are copied, τ and κ are 1.0. Definitions only.
use Rattle.std.specs.Prelude.{ℕ, cond, List, map, length, get_or, set, replicate, take, drop, ltb, eqb, pos, Float}
use Rattle.std.specs.Float.{nan, binary64}
use Rattle.std.specs.Float.Ieee.{add, div, of_int}
use Rattle.layout.specs.General.Lists.{keep, below, walk}
use Rattle.layout.specs.General.Floats.{zero64, one64}
use Rattle.layout.specs.Problems.Problem.{Solution}
use Rattle.layout.specs.Rows.Blocks.{Part, Row, kept, owned, overlap, original_row, compact_rows, standard_rows}

-- the list ws with v added to its value at index o
abbrev pub add_at : ℕ → Float → List Float → List Float
add_at o v ws = set ws o (add binary64 (get_or ws o nan) v)

-- ---- compact

abbrev pub add_row : Row → Float → List Float → List Float
add_row (kept o) v ws = set ws o v
add_row (owned o) v ws = add_at o v ws
add_row (overlap o r) v ws = add_at o v ws

-- block values in walking order: for s they are added, for z the last one is kept
abbrev pub add_rows : List Row → List Float → List Float → List Float
add_rows xs vs ws = walk add_row xs vs ws

abbrev pub put_at : ℕ → Float → List Float → List Float
put_at o v ws = set ws o v

abbrev pub put_row : Row → Float → List Float → List Float
put_row x v ws = put_at (original_row x) v ws

abbrev pub put_rows : List Row → List Float → List Float → List Float
put_rows xs vs ws = walk put_row xs vs ws

abbrev pub compact_reverse : ℕ → ℕ → List Part → Solution → Solution
compact_reverse n m ps sol = record {
  x = take n sol.x;
  s = add_rows (compact_rows ps) sol.s (replicate m zero64);
  z = put_rows (compact_rows ps) sol.z (replicate m zero64);
  tau = one64;
  kappa = one64;
}

-- ---- standard

abbrev pub add_columns : List ℕ → List Float → List Float → List Float
add_columns os vs ws = walk add_at os vs ws

-- the number of columns of H whose 1 is in row o
abbrev pub column_count : List ℕ → ℕ → ℕ
column_count os o = length (keep (eqb o) os)

abbrev pub averaged : List ℕ → List Float → ℕ → Float
averaged os ws o =
    let v = get_or ws o nan in
    let k = column_count os o in
    cond (ltb 1 k) (div binary64 v (of_int binary64 (pos k))) v

abbrev pub standard_reverse : ℕ → ℕ → List Part → Solution → Solution
standard_reverse n m ps sol =
    let os = standard_rows ps in
    let z = add_columns os (drop m sol.z) (replicate m zero64) in
    record {
      x = take n sol.x;
      s = add_columns os (drop m sol.s) (replicate m zero64);
      z = map (averaged os z) (below m);
      tau = one64;
      kappa = one64;
    }
