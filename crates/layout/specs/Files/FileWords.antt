-- A problem file as words (document 02, Q-2): the reader is given the file's complete u32 words and its length in bytes. Each u32 table
-- is a part of the words, and each number of a u64 table is two words. Definitions only.
use Rattle.std.specs.Prelude.{ℕ, suc, ◌+◌, ◌*◌, ◌/◌, Bool, true, ◌&&◌, List, [], ◌∷◌, ◌++◌, length, get_or, take, replicate, leb, eqb, Float}
use Rattle.std.specs.Float.{nan}
use Rattle.layout.specs.General.Lists.{all, part, same_numbers}
use Rattle.layout.specs.General.Bytes.{numbers_of}
use Rattle.layout.specs.Problems.Problem.{Problem, problem}
use Rattle.layout.specs.Checks.{Check, check, first_failing, problem_checks}
use Rattle.layout.specs.Files.File.{counts_in, table_sizes, aligned, header_of, BitTables, bit_tables, problem_of}

-- the complete u32 words of a file; 1 to 3 bytes after them are left out
abbrev pub file_words : List ℕ → List ℕ
file_words bs = numbers_of 4 (length bs / 4) bs

-- numbers of two words, the low word first
abbrev pub pairs_of : List ℕ → List ℕ
pairs_of [] = []
pairs_of (low ∷ []) = []
pairs_of (low ∷ high ∷ ws) = (low + 4294967296 * high) ∷ pairs_of ws

-- the k words of table i, at the offset that the header gives
abbrev pub words_at : List ℕ → ℕ → ℕ → List ℕ
words_at ws i k = let o = get_or ws (8 + i) 0 / 4 in part o (o + k) ws

abbrev pub word_tables : List ℕ → BitTables
word_tables ws =
    let c = counts_in ws in
    bit_tables c.n c.m
    (words_at ws 0 (suc c.n)) (words_at ws 1 c.entries_p) (pairs_of (words_at ws 2 (2 * c.entries_p))) (pairs_of (words_at ws 3 (2 * c.n)))
    (words_at ws 4 (suc c.n)) (words_at ws 5 c.entries_a) (pairs_of (words_at ws 6 (2 * c.entries_a))) (pairs_of (words_at ws 7 (2 * c.m)))
    (words_at ws 8 (3 * c.cones)) (pairs_of (words_at ws 9 (2 * c.alphas))) c.patterns (words_at ws 10 c.words)

-- check 13: there are as many words as a file of `bytes` bytes has, the header is complete, and the length in it is `bytes`
abbrev pub words_length_right : List ℕ → ℕ → Bool
words_length_right ws bytes = eqb (length ws) (bytes / 4) && leb 20 (length ws) && eqb (get_or ws 19 0) bytes

-- whether the gap from byte a to the next multiple of 8 is zero; it consists of whole words
abbrev pub gap_zero : ℕ → List ℕ → Bool
gap_zero a ws = all (λ w. eqb w 0) (part (a / 4) (aligned a / 4) ws)

-- check 14: the offsets and the end are those that the counts give, and the gaps are zero
abbrev pub word_gaps_zero : ℕ → List ℕ → List ℕ → Bool
word_gaps_zero a [] ws = true
word_gaps_zero a (k ∷ ks) ws = gap_zero a ws && word_gaps_zero (aligned a + k) ks ws

abbrev pub word_tables_right : List ℕ → Bool
word_tables_right ws =
    let c = counts_in ws in
    same_numbers (take 20 ws) (header_of c) && word_gaps_zero 80 (table_sizes c) ws

abbrev pub word_shape_checks : List ℕ → ℕ → List Check
word_shape_checks ws bytes = check 13 (words_length_right ws bytes) ∷ check 14 (word_tables_right ws) ∷ []

abbrev pub word_shape_failing : List ℕ → ℕ → ℕ
word_shape_failing ws bytes = first_failing (word_shape_checks ws bytes)

-- checks 13 and 14, then 1 to 7
abbrev pub word_checks : List ℕ → ℕ → List Check
word_checks ws bytes = word_shape_checks ws bytes ++ problem_checks (problem_of (word_tables ws))

abbrev pub words_failing : List ℕ → ℕ → ℕ
words_failing ws bytes = first_failing (word_checks ws bytes)

-- values of which only the count is given, and the problem with them: checks 1 to 7 use no more
abbrev pub unvalued : ℕ → List Float
unvalued k = replicate k nan

abbrev pub unvalued_problem : List ℕ → Problem
unvalued_problem ws =
    let c = counts_in ws in
    problem c.n c.m (words_at ws 0 (suc c.n)) (words_at ws 1 c.entries_p) (unvalued c.entries_p) (unvalued c.n)
    (words_at ws 4 (suc c.n)) (words_at ws 5 c.entries_a) (unvalued c.entries_a) (unvalued c.m)
    (words_at ws 8 (3 * c.cones)) (unvalued c.alphas) c.patterns (words_at ws 10 c.words)
