-- The rounding error of the s that the compact joining returns (document 02, Q-9). A finite double is read as its count of 2 ^ -1074;
-- a bound in units of roundoff, 2 ^ -53, is stated with both sides times 2 ^ 53.
use Rattle.std.specs.Prelude.{ℕ, ◌+◌, ◌*◌, ◌^◌, ◌≤◌, ◌<◌, ◌≡◌, Bool, false, not, cond, List, [], ◌∷◌, map, length, get_or, set, replicate, T, eqb, ◌-ℤ◌, Float}
use Rattle.std.specs.Float.{nan, binary64}
use Rattle.std.specs.Float.Ieee.{fits}
use Rattle.layout.specs.General.Lists.{has, all, keep, below, sum}
use Rattle.layout.specs.General.Floats.{zero64, finite, count, magnitude, exact_sum, magnitudes}
use Rattle.layout.specs.Problems.Patterns.{Pattern, clique_count}
use Rattle.layout.specs.Rows.Blocks.{Part, whole, cut, Row, kept, owned, overlap, original_row, block, pair_row, compact_rows}
use Rattle.layout.specs.Joinings.Reverse.{add_rows}

-- ---- what is added at original row o

-- whether an augmented row is a block row that adds its value to row o, or a row of an undecomposed cone, copied to row o
abbrev pub adds : ℕ → Row → Bool
adds o (kept q) = false
adds o (owned q) = eqb q o
adds o (overlap q r) = eqb q o

abbrev pub copies : ℕ → Row → Bool
copies o (kept q) = eqb q o
copies o (owned q) = false
copies o (overlap q r) = false

-- row o is not in an undecomposed cone
abbrev pub decomposed : ℕ → List Row → Bool
decomposed o xs = all (λ x. not (copies o x)) xs

-- Q-9's k: the number of block rows that add to row o
abbrev pub blocks_at : ℕ → List Row → ℕ
blocks_at o xs = length (keep (adds o) xs)

-- whether clique c's block contains row o, in a cone whose rows start at `base`
abbrev pub holds_row : ℕ → Pattern → ℕ → ℕ → Bool
holds_row o p base c = has o (map (pair_row base) (block p c))

-- the number of a cone's blocks that contain row o
abbrev pub blocks_in : ℕ → Part → ℕ
blocks_in o (whole i c row) = 0
blocks_in o (cut i row k p) = length (keep (holds_row o p row) (below (clique_count p)))

-- the terms: the values that block rows add to row o, in walking order
abbrev pub terms_at : ℕ → List Row → List Float → List Float
terms_at o [] vs = []
terms_at o (x ∷ xs) [] = []
terms_at o (x ∷ xs) (v ∷ vs) = let r = terms_at o xs vs in cond (adds o x) (v ∷ r) r

-- k times the sum of the terms' magnitudes
abbrev pub error_bound : ℕ → List Row → List Float → ℕ
error_bound o xs s = blocks_at o xs * magnitudes (terms_at o xs s)

-- ---- what Q-9 asks to be proved

-- the s that the compact joining returns, at original row o
abbrev pub returned : ℕ → List Part → List Float → ℕ → Float
returned m ps s o = get_or (add_rows (compact_rows ps) s (replicate m zero64)) o nan

-- What holds for an s of doubles, one for each augmented row. A finite sum has finite terms, so only results are assumed finite.
pub record RoundingErrors (m : ℕ) (ps : List Part) (s : List Float) : Type 0 where
  -- k is the number of blocks that contain the row
  pub blocks : (o : ℕ) → blocks_at o (compact_rows ps) ≡ sum (map (blocks_in o) ps)
  -- the error at a row that is not in an undecomposed cone
  pub bounded : (o : ℕ) → T (decomposed o (compact_rows ps)) → T (finite (returned m ps s o))
      → 2 ^ 53 * magnitude (count (returned m ps s o) -ℤ exact_sum (terms_at o (compact_rows ps) s)) ≤ error_bound o (compact_rows ps) s
  -- the change at row o where the block value at augmented row r becomes v
  pub moved : (r o : ℕ) (v : Float) → let t = set s r v in
      r < length (compact_rows ps) → T (adds o (get_or (compact_rows ps) r (kept 0))) → T (fits binary64 v)
      → T (finite (returned m ps s o)) → T (finite (returned m ps t o))
      → 2 ^ 53 * magnitude (count (returned m ps t o) -ℤ count (returned m ps s o))
      ≤ 2 ^ 53 * magnitude (count v -ℤ count (get_or s r nan)) + (error_bound o (compact_rows ps) s + error_bound o (compact_rows ps) t)
  -- no other row changes
  pub others : (r o : ℕ) (v : Float) → (original_row (get_or (compact_rows ps) r (kept 0)) ≡ o → ⊥)
      → returned m ps (set s r v) o ≡ returned m ps s o
  -- a row of an undecomposed cone is a copy
  pub copied : (r o : ℕ) → r < length (compact_rows ps) → T (copies o (get_or (compact_rows ps) r (kept 0)))
      → returned m ps s o ≡ get_or s r nan

-- ---- the same for written outputs: `out` is what an accepted compact joining of s writes, `moved` what one of t writes; t differs
-- from s in the block value at augmented row r

pub record OneMoved (m : ℕ) (ps : List Part) (r : ℕ) (s t out moved : List Float) : Type 0 where
  pub bounded : (o : ℕ) → o < m → T (decomposed o (compact_rows ps)) → T (finite (get_or out o nan))
      → 2 ^ 53 * magnitude (count (get_or out o nan) -ℤ exact_sum (terms_at o (compact_rows ps) s)) ≤ error_bound o (compact_rows ps) s
  pub moves : (o : ℕ) → T (adds o (get_or (compact_rows ps) r (kept 0))) → T (finite (get_or out o nan)) → T (finite (get_or moved o nan))
      → 2 ^ 53 * magnitude (count (get_or moved o nan) -ℤ count (get_or out o nan))
      ≤ 2 ^ 53 * magnitude (count (get_or t r nan) -ℤ count (get_or s r nan)) + (error_bound o (compact_rows ps) s + error_bound o (compact_rows ps) t)
  pub others : (o : ℕ) → o < m → (original_row (get_or (compact_rows ps) r (kept 0)) ≡ o → ⊥) → get_or moved o nan ≡ get_or out o nan
  pub copied : (q o : ℕ) → q < length (compact_rows ps) → T (copies o (get_or (compact_rows ps) q (kept 0))) → get_or out o nan ≡ get_or s q nan
