-- The original and the augmented equations in exact numbers, as in document 01's exact reading: a finite double is a whole
-- count of 2 ^ -1074, x is whole numbers, slacks and added unknowns are whole counts, all over one denominator d.
use Rattle.std.specs.Prelude.{ℕ, suc, ◌<◌, ◌≡◌, cond, ◌&&◌, List, [], ◌∷◌, length, get_or, set, replicate, T, eqb, ℤ, pos, ◌+ℤ◌, ◌*ℤ◌, Float}
use Rattle.std.specs.Float.{nan}
use Rattle.layout.specs.General.Lists.{all, walk}
use Rattle.layout.specs.General.Floats.{finite, count, unit}
use Rattle.layout.specs.Problems.Problem.{Problem, Csc, compact}
use Rattle.layout.specs.Rows.Blocks.{Part, Row, kept, owned, overlap, compact_rows, overlap_count, block_row_count}
use Rattle.layout.specs.Checks.{layout, refusal}
use Rattle.layout.specs.Cuts.Compact.{Entry, column, summed_a, compact_a, compact_b}

abbrev pub at : List ℤ → ℕ → ℤ
at xs i = get_or xs i (pos 0)

-- a column's contribution to row r: its entries there, each converted by `reading`, times the unknown u
abbrev pub column_term : (Float → ℤ) → ℕ → ℤ → List Entry → ℤ
column_term reading r u [] = pos 0
column_term reading r u (e ∷ es) = cond (eqb e.row r) (reading e.value *ℤ u) (pos 0) +ℤ column_term reading r u es

-- the contribution to row r of the columns from c on, one for each unknown
abbrev pub columns_term : (Float → ℤ) → ℕ → Csc → ℕ → List ℤ → ℤ
columns_term reading r M c [] = pos 0
columns_term reading r M c (u ∷ us) = column_term reading r u (column M c) +ℤ columns_term reading r M (suc c) us

-- ---- the original equations: A's entries, repeats replaced by their rounded sums, times x, plus the slack, equal b
abbrev pub MeetsOriginal : Problem → ℕ → List ℤ → List ℤ → Type 0
MeetsOriginal p d x s =
    (r : ℕ) → r < p.m → columns_term count r (summed_a p) 0 x +ℤ at s r ≡ pos d *ℤ count (get_or p.b r nan)

-- ---- the augmented equations: the same for the A and b of the compact cut, with the added unknowns y after x (coefficients 1.0 or -1.0)
abbrev pub MeetsAugmented : Problem → ℕ → List ℤ → List ℤ → List ℤ → Type 0
MeetsAugmented p d x y s =
    (r : ℕ) → r < block_row_count (layout p)
    → (columns_term count r (compact_a p) 0 x +ℤ columns_term unit r (compact_a p) p.n y) +ℤ at s r
    ≡ pos d *ℤ count (get_or (compact_b p) r nan)

-- ---- slacks added as the compact joining forms s, but in exact sums
abbrev pub add_exact : Row → ℤ → List ℤ → List ℤ
add_exact (kept o) v ws = set ws o v
add_exact (owned o) v ws = set ws o (at ws o +ℤ v)
add_exact (overlap o r) v ws = set ws o (at ws o +ℤ v)

abbrev pub add_slacks : List Row → List ℤ → List ℤ → List ℤ
add_slacks xs vs ws = walk add_exact xs vs ws

-- the exact total at each original row, from a value for each compact row
abbrev pub compact_totals : ℕ → List Part → List ℤ → List ℤ
compact_totals m ps vs = add_slacks (compact_rows ps) vs (replicate m (pos 0))

abbrev pub slack_sums : Problem → List ℤ → List ℤ
slack_sums p s = compact_totals p.m (layout p) s

-- ---- demand 3

-- A, with repeats replaced by their rounded sums, and b are finite
abbrev pub AllFinite : Problem → Type 0
AllFinite p = T (all finite (summed_a p).values && all finite p.b)

-- exactly one list of length k has the property Q
abbrev pub ExactlyOne : ℕ → (List ℤ → Type 0) → Type 0
ExactlyOne k Q = (y : List ℤ) × (length y ≡ k) × Q y × ((z : List ℤ) → length z ≡ k → Q z → z ≡ y)

pub record SameSolutions (p : Problem) : Type 0 where
  pub solved : (d : ℕ) → 0 < d → (x s : List ℤ) → length x ≡ p.n → length s ≡ block_row_count (layout p)
      → MeetsOriginal p d x (slack_sums p s)
      → ExactlyOne (overlap_count (layout p)) (λ y. MeetsAugmented p d x y s)
  pub unsolved : (d : ℕ) → 0 < d → (x s : List ℤ) → length x ≡ p.n → length s ≡ block_row_count (layout p)
      → (MeetsOriginal p d x (slack_sums p s) → ⊥)
      → (y : List ℤ) → length y ≡ overlap_count (layout p) → MeetsAugmented p d x y s → ⊥
  pub reached : (d : ℕ) → 0 < d → (x s : List ℤ) → length x ≡ p.n → length s ≡ p.m
      → MeetsOriginal p d x s
      → (t : List ℤ) × (length t ≡ block_row_count (layout p)) × (slack_sums p t ≡ s)

-- demand 3: what has to be proved of every problem
abbrev pub Demand3 : Type 0
Demand3 = (p : Problem) → refusal compact p ≡ 0 → AllFinite p → SameSolutions p
