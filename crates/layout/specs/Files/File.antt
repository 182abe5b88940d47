-- A problem as a file (document 02, Q-2): little-endian, a header of 20 u32, then eleven tables. Definitions only.
-- Float tables are given as 64-bit patterns, so that a NaN keeps its payload.
use Rattle.std.specs.Prelude.{ℕ, zero, suc, ◌+◌, ◌-◌, ◌*◌, ◌/◌, ◌%◌, Bool, true, cond, ◌&&◌, List, [], ◌∷◌, ◌++◌, ◌≡◌, length, get_or, drop, replicate, leb, eqb, ltb}
use Rattle.layout.specs.General.Lists.{all, part, same_numbers, Below}
use Rattle.layout.specs.General.Floats.{floats, bits}
use Rattle.layout.specs.General.Bytes.{table_bytes, numbers_of, U32s, U64s}
use Rattle.layout.specs.Problems.Problem.{Problem, problem, compact}
use Rattle.layout.specs.Rows.Blocks.{block_row_count, overlap_count}
use Rattle.layout.specs.Checks.{Check, check, first_failing, layout, problem_checks, checks}
use Rattle.layout.specs.Calls.Answers.{or_else, roomy, problem_refusal}
use Rattle.layout.specs.Calls.Cut.{augmented}

-- ---- the header

pub record HeaderCounts : Type 0 where
  pub n : ℕ
  pub m : ℕ
  pub entries_p : ℕ
  pub entries_a : ℕ
  pub cones : ℕ
  pub alphas : ℕ
  pub patterns : ℕ
  pub words : ℕ

abbrev pub count_words : HeaderCounts → List ℕ
count_words c =
    c.n ∷ c.m ∷ c.entries_p ∷ c.entries_a ∷ c.cones ∷ c.alphas ∷ c.patterns ∷ c.words ∷ []

-- the counts at the start of a header
abbrev pub counts_in : List ℕ → HeaderCounts
counts_in h = record {
  n = get_or h 0 0;
  m = get_or h 1 0;
  entries_p = get_or h 2 0;
  entries_a = get_or h 3 0;
  cones = get_or h 4 0;
  alphas = get_or h 5 0;
  patterns = get_or h 6 0;
  words = get_or h 7 0;
}

-- the length of each table: P starts, rows, values, q, A starts, rows, values, b, cone records, α, pattern words
abbrev pub counted_lengths : HeaderCounts → List ℕ
counted_lengths c =
    suc c.n ∷ c.entries_p ∷ c.entries_p ∷ c.n ∷ suc c.n ∷ c.entries_a ∷ c.entries_a ∷ c.m
    ∷ (3 * c.cones) ∷ c.alphas ∷ c.words ∷ []

-- the bytes of one number in each table
abbrev pub widths : List ℕ
widths = 4 ∷ 4 ∷ 8 ∷ 8 ∷ 4 ∷ 4 ∷ 8 ∷ 8 ∷ 4 ∷ 8 ∷ 4 ∷ []

abbrev pub products : List ℕ → List ℕ → List ℕ
products [] ks = []
products (w ∷ ws) [] = []
products (w ∷ ws) (k ∷ ks) = w * k ∷ products ws ks

abbrev pub table_sizes : HeaderCounts → List ℕ
table_sizes c = products widths (counted_lengths c)

-- the lowest multiple of 8 not below a
abbrev pub aligned : ℕ → ℕ
aligned a = (a + 7) / 8 * 8

-- the offsets of tables of these sizes, and the end of the last one, where the bytes before them end at a
abbrev pub offsets_from : ℕ → List ℕ → List ℕ
offsets_from a [] = []
offsets_from a (k ∷ ks) = aligned a ∷ offsets_from (aligned a + k) ks

abbrev pub end_from : ℕ → List ℕ → ℕ
end_from a [] = a
end_from a (k ∷ ks) = end_from (aligned a + k) ks

-- the header of a file with these counts
abbrev pub header_of : HeaderCounts → List ℕ
header_of c = let ks = table_sizes c in count_words c ++ offsets_from 80 ks ++ (end_from 80 ks ∷ [])

-- ---- a problem's tables, with floats as bit patterns

pub record BitTables : Type 0 where
  pub n : ℕ
  pub m : ℕ
  pub p_starts : List ℕ
  pub p_rows : List ℕ
  pub p_values : List ℕ
  pub q : List ℕ
  pub a_starts : List ℕ
  pub a_rows : List ℕ
  pub a_values : List ℕ
  pub b : List ℕ
  pub cones : List ℕ
  pub alphas : List ℕ
  pub pattern_count : ℕ
  pub pattern_words : List ℕ

-- a problem's tables, as contracts write them
abbrev pub bit_tables : ℕ → ℕ → List ℕ → List ℕ → List ℕ → List ℕ → List ℕ → List ℕ → List ℕ → List ℕ → List ℕ → List ℕ → ℕ → List ℕ → BitTables
bit_tables n m p_starts p_rows p_values q a_starts a_rows a_values b cones alphas count words = record {
  n = n;
  m = m;
  p_starts = p_starts;
  p_rows = p_rows;
  p_values = p_values;
  q = q;
  a_starts = a_starts;
  a_rows = a_rows;
  a_values = a_values;
  b = b;
  cones = cones;
  alphas = alphas;
  pattern_count = count;
  pattern_words = words;
}

-- the problem that the tables represent
abbrev pub problem_of : BitTables → Problem
problem_of t =
    problem t.n t.m t.p_starts t.p_rows (floats t.p_values) (floats t.q)
    t.a_starts t.a_rows (floats t.a_values) (floats t.b) t.cones (floats t.alphas) t.pattern_count t.pattern_words

-- each table's numbers fit the slice that holds them, of u32 or u64
pub record Fit (t : BitTables) : Type 0 where
  pub p_starts : U32s t.p_starts
  pub p_rows : U32s t.p_rows
  pub p_values : U64s t.p_values
  pub q : U64s t.q
  pub a_starts : U32s t.a_starts
  pub a_rows : U32s t.a_rows
  pub a_values : U64s t.a_values
  pub b : U64s t.b
  pub cones : U32s t.cones
  pub alphas : U64s t.alphas
  pub pattern_words : U32s t.pattern_words

-- ---- the file of a problem

abbrev pub counts_of : BitTables → HeaderCounts
counts_of t = record {
  n = t.n;
  m = t.m;
  entries_p = length t.p_values;
  entries_a = length t.a_values;
  cones = length t.cones / 3;
  alphas = length t.alphas;
  patterns = t.pattern_count;
  words = length t.pattern_words;
}

abbrev pub tables_bytes : BitTables → List (List ℕ)
tables_bytes t =
    table_bytes 4 t.p_starts ∷ table_bytes 4 t.p_rows ∷ table_bytes 8 t.p_values ∷ table_bytes 8 t.q
    ∷ table_bytes 4 t.a_starts ∷ table_bytes 4 t.a_rows ∷ table_bytes 8 t.a_values ∷ table_bytes 8 t.b
    ∷ table_bytes 4 t.cones ∷ table_bytes 8 t.alphas ∷ table_bytes 4 t.pattern_words ∷ []

-- the tables at their offsets after byte a, with zero bytes in the gaps
abbrev pub laid_from : ℕ → List (List ℕ) → List ℕ
laid_from a [] = []
laid_from a (t ∷ ts) = replicate (aligned a - a) 0 ++ (t ++ laid_from (aligned a + length t) ts)

abbrev pub file_of : BitTables → List ℕ
file_of t = table_bytes 4 (header_of (counts_of t)) ++ laid_from 80 (tables_bytes t)

-- ---- the reader

abbrev pub header : List ℕ → List ℕ
header bs = numbers_of 4 20 bs

-- table i: k numbers of w bytes, at the offset that the header h gives
abbrev pub table_at : List ℕ → List ℕ → ℕ → ℕ → ℕ → List ℕ
table_at h bs i w k = numbers_of w k (drop (get_or h (8 + i) 0) bs)

abbrev pub tables_by : List ℕ → List ℕ → BitTables
tables_by h bs =
    let c = counts_in h in
    bit_tables c.n c.m
    (table_at h bs 0 4 (suc c.n)) (table_at h bs 1 4 c.entries_p) (table_at h bs 2 8 c.entries_p) (table_at h bs 3 8 c.n)
    (table_at h bs 4 4 (suc c.n)) (table_at h bs 5 4 c.entries_a) (table_at h bs 6 8 c.entries_a) (table_at h bs 7 8 c.m)
    (table_at h bs 8 4 (3 * c.cones)) (table_at h bs 9 8 c.alphas) c.patterns (table_at h bs 10 4 c.words)

abbrev pub file_tables : List ℕ → BitTables
file_tables bs = tables_by (header bs) bs

-- check 13: the header is complete, and the length in it is the file's
abbrev pub length_right : List ℕ → Bool
length_right bs = leb 80 (length bs) && eqb (get_or (header bs) 19 0) (length bs)

-- check 14: the offsets and the end are those that the counts give, and the gaps are zero
abbrev pub gaps_zero : ℕ → List ℕ → List ℕ → Bool
gaps_zero a [] bs = true
gaps_zero a (k ∷ ks) bs = all (λ b. eqb b 0) (part a (aligned a) bs) && gaps_zero (aligned a + k) ks bs

abbrev pub tables_right : List ℕ → Bool
tables_right bs =
    let c = counts_in (header bs) in
    same_numbers (header bs) (header_of c) && gaps_zero 80 (table_sizes c) bs

abbrev pub shape_checks : List ℕ → List Check
shape_checks bs = check 13 (length_right bs) ∷ check 14 (tables_right bs) ∷ []

abbrev pub shape_failing : List ℕ → ℕ
shape_failing bs = first_failing (shape_checks bs)

-- checks 13 and 14, then 1 to 7
abbrev pub file_checks : List ℕ → List Check
file_checks bs = shape_checks bs ++ problem_checks (problem_of (file_tables bs))

abbrev pub file_failing : List ℕ → ℕ
file_failing bs = first_failing (file_checks bs)

-- the refusal number of the reader; `rooms` has the lengths of the outputs: the eight counts, then each table in the file's order
abbrev pub read_refusal : List ℕ → List ℕ → ℕ
read_refusal bs rooms = or_else (file_failing bs) (cond (roomy (8 ∷ counted_lengths (counts_in (header bs))) rooms) 0 11)

-- ---- the program: a file in, the compact problem as a file out

-- the compact problem, which has no patterns
abbrev pub compact_problem : Problem → Problem
compact_problem p =
    let a = augmented compact p in
    problem (p.n + overlap_count (layout p)) (block_row_count (layout p)) a.P.starts a.P.rows a.P.values a.q
    a.A.starts a.A.rows a.A.values a.b a.cones a.alphas 0 []

-- its tables: P's values, q and α keep their bit patterns; those of A and b are given by `to_bits`
abbrev pub compact_tables : BitTables → BitTables
compact_tables t =
    let p = problem_of t in
    let a = augmented compact p in
    let k = overlap_count (layout p) in
    bit_tables (t.n + k) (block_row_count (layout p)) a.P.starts t.p_rows t.p_values (t.q ++ replicate k 0)
    a.A.starts a.A.rows (bits a.A.values) (bits a.b) a.cones t.alphas 0 []

abbrev pub compact_file : List ℕ → List ℕ
compact_file bs = file_of (compact_tables (file_tables bs))

-- 1 first where the input file is too long, then 13 and 14, checks 1 to 10 of the compact route, and 10 where the output file is too long
abbrev pub program_checks : List ℕ → List Check
program_checks bs =
    check 1 (leb (length bs) 8192)
    ∷ (shape_checks bs ++ (checks compact (problem_of (file_tables bs)) ++ (check 10 (leb (length (compact_file bs)) 65536) ∷ [])))

abbrev pub program_refusal : List ℕ → ℕ
program_refusal bs = first_failing (program_checks bs)

-- a number of one or two digits in decimal
abbrev decimal : ℕ → List ℕ
decimal k = cond (ltb k 10) ((48 + k) ∷ []) ((48 + k / 10) ∷ (48 + k % 10) ∷ [])

-- "refused ", the number, a line feed
abbrev pub refused_text : ℕ → List ℕ
refused_text k = 114 ∷ 101 ∷ 102 ∷ 117 ∷ 115 ∷ 101 ∷ 100 ∷ 32 ∷ (decimal k ++ (10 ∷ []))

abbrev pub answer : ℕ → List ℕ → List ℕ
answer zero file = file
answer (suc k) file = refused_text (suc k)

abbrev pub program_output : List ℕ → List ℕ
program_output bs = answer (program_refusal bs) (compact_file bs)

-- ---- what Q-2 asks to be proved

pub record ProblemFiles : Type 0 where
  -- a written file is accepted, and reading it gives the same tables
  pub back : (t : BitTables) → Fit t → problem_refusal (problem_of t) ≡ 0 → (file_tables (file_of t) ≡ t) × (file_failing (file_of t) ≡ 0)
  -- an accepted file written again has the same bytes
  pub again : (bs : List ℕ) → Below 256 bs → file_failing bs ≡ 0 → file_of (file_tables bs) ≡ bs
  -- a file that the program writes without a refusal is accepted, and represents the compact problem
  pub program : (bs : List ℕ) → Below 256 bs → program_refusal bs ≡ 0 → let out = file_tables (program_output bs) in
      (file_failing (program_output bs) ≡ 0) × (out ≡ compact_tables (file_tables bs)) × (problem_of out ≡ compact_problem (problem_of (file_tables bs)))
