-- The compact cut. Definitions only.
use Rattle.std.specs.Prelude.{ℕ, suc, ◌+◌, ◌-◌, cond, List, [], ◌∷◌, ◌++◌, map, reverse, length, get_or, replicate, eqb, Float}
use Rattle.std.specs.Float.{nan, binary64}
use Rattle.std.specs.Float.Ieee.{eq, add}
use Rattle.layout.specs.General.Lists.{keep, below, up_from, join, starts_from}
use Rattle.layout.specs.General.Floats.{zero64, one64, minus_one64}
use Rattle.layout.specs.Problems.Problem.{Problem, Csc}
use Rattle.layout.specs.General.Triangle.{triangle}
use Rattle.layout.specs.Problems.Cones.{Cone, row_count}
use Rattle.layout.specs.Problems.Patterns.{Pattern, clique_at, clique_count, block_size}
use Rattle.layout.specs.Rows.Blocks.{Part, whole, cut, Row, kept, owned, overlap, first_row, compact_rows, part_rows, overlap_count}
use Rattle.layout.specs.Checks.{layout}

-- a stored entry: its row index and its value
pub record Entry : Type 0 where
  pub row : ℕ
  pub value : Float

abbrev pub rows_of : List Entry → List ℕ
rows_of es = map (λ (e : Entry). e.row) es

abbrev pub entries_from : ℕ → ℕ → Csc → List Entry
entries_from a k M = map (λ t. record { row = get_or M.rows t 0; value = get_or M.values t nan }) (up_from a k)

-- the entries of column c
abbrev pub column : Csc → ℕ → List Entry
column M c = entries_from (get_or M.starts c 0) (get_or M.starts (suc c) 0 - get_or M.starts c 0) M

-- the compressed columns of a list of columns
abbrev pub csc : List (List Entry) → Csc
csc cs = record {
  starts = starts_from 0 (map length cs);
  rows = rows_of (join (λ c. c) cs);
  values = map (λ (e : Entry). e.value) (join (λ c. c) cs);
}

-- entry e with the value of f, a repeat of its row, added
abbrev pub plus : Entry → Entry → Entry
plus e f = record { row = e.row; value = add binary64 e.value f.value }

-- e and the entries after it, repeats of a row added from left to right: an entry without repeats keeps its value
abbrev pub summed_from : Entry → List Entry → List Entry
summed_from e [] = e ∷ []
summed_from e (f ∷ es) =
    let together = summed_from (plus e f) es in
    let apart = e ∷ summed_from f es in
    cond (eqb e.row f.row) together apart

-- a column with its repeats added
abbrev pub summed : List Entry → List Entry
summed [] = []
summed (e ∷ es) = summed_from e es

-- A with each run of repeats replaced by its rounded sum
abbrev pub summed_a : Problem → Csc
summed_a p = csc (map (λ c. summed (column p.A c)) (below p.n))

-- the entries of a column in original row o, moved to row r
abbrev pub moved : ℕ → ℕ → List Entry → List Entry
moved o r es = map (λ (e : Entry). record { row = r; value = e.value }) (keep (λ (e : Entry). eqb e.row o) es)

abbrev pub row_entries : List Entry → ℕ → Row → List Entry
row_entries es r (kept o) = moved o r es
row_entries es r (owned o) = moved o r es
row_entries es r (overlap o q) = []

-- a column of A over the augmented rows, which are numbered from r
abbrev pub augmented_column : List Entry → ℕ → List Row → List Entry
augmented_column es r [] = []
augmented_column es r (x ∷ xs) = row_entries es r x ++ augmented_column es (suc r) xs

-- an overlap's column: -1 in the parent's row, which comes first, and +1 in its own row
abbrev pub overlap_column : ℕ → Row → List (List Entry)
overlap_column r (kept o) = []
overlap_column r (owned o) = []
overlap_column r (overlap o q) = (record { row = q; value = minus_one64 } ∷ record { row = r; value = one64 } ∷ []) ∷ []

abbrev pub overlap_columns : ℕ → List Row → List (List Entry)
overlap_columns r [] = []
overlap_columns r (x ∷ xs) = overlap_column r x ++ overlap_columns (suc r) xs

-- A's columns with their repeats added, then the overlap columns
abbrev pub compact_columns : Problem → List (List Entry)
compact_columns p =
    let rows = compact_rows (layout p) in
    map (λ c. augmented_column (summed (column p.A c)) 0 rows) (below p.n) ++ overlap_columns 0 rows

abbrev pub compact_a : Problem → Csc
compact_a p = csc (compact_columns p)

-- b's value in an augmented row: a zero of either sign becomes +0.0, and an overlap has +0.0
abbrev pub row_value : List Float → Row → Float
row_value b (kept o) = let v = get_or b o nan in cond (eq v zero64) zero64 v
row_value b (owned o) = let v = get_or b o nan in cond (eq v zero64) zero64 v
row_value b (overlap o q) = zero64

abbrev pub compact_b : Problem → List Float
compact_b p = map (row_value p.b) (compact_rows (layout p))

-- P with k empty columns and rows added
abbrev pub extended_p : ℕ → Csc → Csc
extended_p k P = record { starts = P.starts ++ replicate k (length P.values); rows = P.rows; values = P.values }

abbrev pub compact_p : Problem → Csc
compact_p p = extended_p (overlap_count (layout p)) p.P

abbrev pub compact_q : Problem → List Float
compact_q p = p.q ++ replicate (overlap_count (layout p)) zero64

-- the cone records: a decomposed cone becomes one PSD cone for each clique, from last to first
abbrev pub cone_words : Cone → List ℕ
cone_words c = c.kind ∷ c.first ∷ c.second ∷ []

abbrev pub psd_words : ℕ → List ℕ
psd_words k = 6 ∷ k ∷ 0 ∷ []

abbrev pub compact_part : Part → List ℕ
compact_part (whole i c row) = cone_words c
compact_part (cut i row k p) = join (λ c. psd_words (block_size (clique_at p c))) (reverse (below (clique_count p)))

abbrev pub compact_cones : Problem → List ℕ
compact_cones p = join compact_part (layout p)

-- the cone map: for each new cone its original cone and, if it is a block, its pattern and clique; then its first augmented row,
-- which is the number of rows before it, and its row count
pub data MapEntry : Type 0 where
  -- cone, first row, row count
  whole_cone : ℕ → ℕ → ℕ → MapEntry
  -- cone, pattern, clique, first row, row count
  block_of : ℕ → ℕ → ℕ → ℕ → ℕ → MapEntry

-- the entry of clique c, where the pattern's rows start at `first`
abbrev pub block_entry : ℕ → ℕ → Pattern → ℕ → ℕ → MapEntry
block_entry i k p first c = block_of i k c (first_row p first c) (triangle (block_size (clique_at p c)))

abbrev pub map_part : ℕ → Part → List MapEntry
map_part first (whole i c row) = whole_cone i first (row_count c) ∷ []
map_part first (cut i row k p) = map (block_entry i k p first) (reverse (below (clique_count p)))

-- the entries of parts whose rows start at `first`
abbrev pub map_from : ℕ → List Part → List MapEntry
map_from first [] = []
map_from first (x ∷ ps) = map_part first x ++ map_from (first + part_rows x) ps

abbrev pub cone_map : List Part → List MapEntry
cone_map ps = map_from 0 ps

-- an entry's words: its cone, its pattern or the no-pattern mark, its clique or 0, its first row, its row count
abbrev pub no_pattern_number : ℕ
no_pattern_number = 4294967295

abbrev pub entry_words : MapEntry → List ℕ
entry_words (whole_cone i first rows) = i ∷ no_pattern_number ∷ 0 ∷ first ∷ rows ∷ []
entry_words (block_of i k c first rows) = i ∷ k ∷ c ∷ first ∷ rows ∷ []

abbrev pub map_words : List MapEntry → List ℕ
map_words es = join entry_words es
