-- The generator (document 02, Q-5): a problem from a seed, a vertex count v, a band w and a column count n. A draw changes a u64 state,
-- which is passed from step to step. Its refusal number, its result and its contract.
use Rattle.std.specs.Prelude.{ℕ, zero, suc, ◌-◌, ◌*◌, ◌/◌, ◌%◌, ◌^◌, Bool, not, cond, ◌&&◌, List, [], ◌∷◌, ◌++◌, map, get_or, set, replicate, eqb, leb, ltb, pos, ◌-ℤ◌, Float, ◌≡◌}
use Rattle.std.specs.Int.Bits.{bit_xor}
use Rattle.std.specs.Float.Ieee.{of_int}
use Rattle.std.specs.Float.{binary64}
use Rattle.layout.specs.General.Lists.{has, keep, below, up_from}
use Rattle.layout.specs.General.Floats.{zero64}
use Rattle.layout.specs.General.Triangle.{triangle}
use Rattle.layout.specs.Problems.Problem.{Problem, table_lengths}
use Rattle.layout.specs.Problems.Cones.{records}
use Rattle.layout.specs.Problems.Patterns.{Clique, Pattern, no_parent, pattern_words_of}
use Rattle.layout.specs.Rows.Blocks.{Part, parts}
use Rattle.layout.specs.Checks.{check, first_failing, covered_rows}
use Rattle.layout.specs.Cuts.Compact.{Entry, csc, psd_words}
use Rattle.layout.specs.Calls.Answers.{roomy}
use Rattle.layout.specs.Calls.Tables.{Tables, tables_of, table_rooms, HoldsTables}

-- ---- draws

-- the state xor itself shifted left 13, then right 7, then left 17; bits above 64 are lost
unfoldable pub draw : ℕ → ℕ
draw s =
    let a = bit_xor s (s * 2 ^ 13 % 2 ^ 64) in
    let b = bit_xor a (a / 2 ^ 7) in
    bit_xor b (b * 2 ^ 17 % 2 ^ 64)

-- the state after k draws
abbrev pub draws : ℕ → ℕ → ℕ
draws zero s = s
draws (suc k) s = draws k (draw s)

abbrev pub is_odd : ℕ → Bool
is_odd d = eqb (d % 2) 1

-- a draw's value: the draw mod 201, less 100
abbrev pub drawn_value : ℕ → Float
drawn_value d = of_int binary64 (pos (d % 201) -ℤ pos 100)

-- ---- the ordering

abbrev pub exchange : ℕ → ℕ → List ℕ → List ℕ
exchange i k xs = set (set xs i (get_or xs k 0)) k (get_or xs i 0)

-- for i from k down to 1, entry i is exchanged with entry (draw mod (i + 1))
abbrev pub exchanges : ℕ → ℕ → List ℕ → List ℕ
exchanges zero s xs = xs
exchanges (suc k) s xs = let d = draw s in exchanges k d (exchange (suc k) (d % suc (suc k)) xs)

abbrev pub drawn_ordering : ℕ → ℕ → List ℕ
drawn_ordering seed v = exchanges (v - 1) seed (below v)

-- ---- the pattern

-- clique c of the band, for c from 0 to v - w - 2
abbrev pub band_clique : ℕ → ℕ → Clique
band_clique w c = record { parent = suc c; snode = c ∷ []; separator = up_from (suc c) w }

-- the last clique, with the other w + 1 vertices
abbrev pub last_clique : ℕ → ℕ → Clique
last_clique v w = record { parent = no_parent; snode = up_from (v - suc w) (suc w); separator = [] }

abbrev pub band : List ℕ → ℕ → ℕ → Pattern
band os v w = record {
  orig_index = 0;
  vertex_count = v;
  ordering = os;
  cliques = map (band_clique w) (below (v - suc w)) ++ (last_clique v w ∷ []);
}

-- the single cone, decomposed by the pattern
abbrev pub band_parts : List ℕ → ℕ → ℕ → List Part
band_parts os v w = parts (records (psd_words v)) (band os v w ∷ [])

-- the covered rows, in increasing order
abbrev pub band_rows : List ℕ → ℕ → ℕ → List ℕ
band_rows os v w = let covered = covered_rows (band_parts os v w) in keep (λ r. has r covered) (below (triangle v))

-- ---- A and b, over the covered rows

-- the entry at row r: an odd draw stores one, with the next draw's value; an even draw stores none
abbrev pub drawn_entry : ℕ → ℕ → List Entry
drawn_entry s r = let d = draw s in cond (is_odd d) (record { row = r; value = drawn_value (draw d) } ∷ []) []

-- the state after that row
abbrev pub after_entry : ℕ → ℕ
after_entry s = let d = draw s in cond (is_odd d) (draw d) d

abbrev pub drawn_column : ℕ → List ℕ → List Entry
drawn_column s [] = []
drawn_column s (r ∷ rs) = drawn_entry s r ++ drawn_column (after_entry s) rs

abbrev pub after_column : ℕ → List ℕ → ℕ
after_column s [] = s
after_column s (r ∷ rs) = after_column (after_entry s) rs

-- n columns, drawn one after the other
abbrev pub drawn_columns : ℕ → List ℕ → ℕ → List (List Entry)
drawn_columns s rs zero = []
drawn_columns s rs (suc n) = drawn_column s rs ∷ drawn_columns (after_column s rs) rs n

abbrev pub after_columns : ℕ → List ℕ → ℕ → ℕ
after_columns s rs zero = s
after_columns s rs (suc n) = after_columns (after_column s rs) rs n

-- b with a drawn value at each of the rows
abbrev pub drawn_side : ℕ → List ℕ → List Float → List Float
drawn_side s [] b = b
drawn_side s (r ∷ rs) b = let d = draw s in drawn_side d rs (set b r (drawn_value d))

-- ---- the problem

abbrev pub generated : ℕ → ℕ → ℕ → ℕ → Problem
generated seed v w n =
    let os = drawn_ordering seed v in
    let rs = band_rows os v w in
    let s = draws (v - 1) seed in
    record {
      n = n;
      m = triangle v;
      P = record { starts = replicate (suc n) 0; rows = []; values = [] };
      q = replicate n zero64;
      A = csc (drawn_columns s rs n);
      b = drawn_side (after_columns s rs n) rs (replicate (triangle v) zero64);
      cones = psd_words v;
      alphas = [];
      pattern_count = 1;
      pattern_words = pattern_words_of (band os v w);
    }

-- ---- the refusal

-- whether the seed is not 0 and the counts are in their ranges
abbrev pub in_ranges : ℕ → ℕ → ℕ → ℕ → Bool
in_ranges seed v w n = not (eqb seed 0) && (leb 2 v && leb v 64) && (leb 1 w && ltb w v) && (leb 1 n && leb n 64)

-- the refusal number of the generator: 15 before anything else, then 11 where an output is too short
abbrev pub generate_refusal : ℕ → ℕ → ℕ → ℕ → List ℕ → ℕ
generate_refusal seed v w n rooms =
    first_failing (check 15 (in_ranges seed v w n) ∷ check 11 (roomy (table_lengths (generated seed v w n)) rooms) ∷ [])

-- the refusal number of its sizes call: 15, then 11 where the output has fewer than eleven elements
abbrev pub generate_sizes_refusal : ℕ → ℕ → ℕ → ℕ → ℕ → ℕ
generate_sizes_refusal seed v w n room = first_failing (check 15 (in_ranges seed v w n) ∷ check 11 (leb 11 room) ∷ [])

-- ---- the contract

pub record Generate (seed v w n : ℕ) (before after : Tables) (r : ℕ) : Type 0 where
  pub number : r ≡ generate_refusal seed v w n (table_rooms before)
  pub tables : HoldsTables r (tables_of (generated seed v w n)) before after
