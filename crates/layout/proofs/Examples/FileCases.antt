-- The three projectors as a file and through the program, and files that are refused, each computed from the definitions.
use Prim.Native.Nat.{ℕ}
use mathlib.Core.Path.{◌≡◌, refl}
use mathlib.Core.List.{List, [], ◌∷◌, ◌++◌}
use lib.ListN.{length, take, drop, set, replicate}
use lib.Ieee.{of_bits, to_bits, of_int, add, eq}
use Rattle.layout.specs.General.Floats.{bits}
use Rattle.layout.specs.General.Bytes.{table_bytes, numbers_of}
use Rattle.layout.specs.Problems.Patterns.{no_parent}
use Rattle.layout.specs.Files.File.{BitTables, bit_tables, problem_of, file_of, file_tables, file_failing, program_output, refused_text}
use Rattle.layout.specs.Files.FileWords.{file_words, words_failing}
use Rattle.layout.proofs.Examples.Cases.{f, seam}

-- the three projectors, with b as bit patterns
abbrev seam_tables : List ℕ → BitTables
seam_tables b =
    bit_tables 1 6 (0 ∷ 0 ∷ []) [] [] (0 ∷ []) (0 ∷ 5 ∷ []) (0 ∷ 1 ∷ 2 ∷ 4 ∷ 5 ∷ [])
    (bits (f 10 ∷ f 20 ∷ f 30 ∷ f 40 ∷ f 50 ∷ [])) b (6 ∷ 3 ∷ 0 ∷ []) [] 1
    (0 ∷ 3 ∷ 2 ∷ 0 ∷ 1 ∷ 2 ∷ 1 ∷ 1 ∷ 1 ∷ 0 ∷ 1 ∷ no_parent ∷ 2 ∷ 0 ∷ 1 ∷ 2 ∷ [])

abbrev seam_file : List ℕ
seam_file = file_of (seam_tables (bits (f 1 ∷ f 2 ∷ f 3 ∷ f 0 ∷ f 4 ∷ f 5 ∷ [])))

same_problem : problem_of (seam_tables (bits (f 1 ∷ f 2 ∷ f 3 ∷ f 0 ∷ f 4 ∷ f 5 ∷ []))) ≡ seam
unfolding of_bits to_bits of_int
same_problem = refl

-- the file as u32 words: header, A starts, A rows with a gap, A values, b, cones with a gap, pattern words
seam_file_lem : (length seam_file ≡ 296) × (numbers_of 4 74 seam_file ≡
    1 ∷ 6 ∷ 0 ∷ 5 ∷ 1 ∷ 0 ∷ 1 ∷ 16
    ∷ 80 ∷ 88 ∷ 88 ∷ 88 ∷ 96 ∷ 104 ∷ 128 ∷ 168 ∷ 216 ∷ 232 ∷ 232 ∷ 296
    ∷ 0 ∷ 0 ∷ 0 ∷ 0 ∷ 0 ∷ 5 ∷ 0 ∷ 1 ∷ 2 ∷ 4 ∷ 5 ∷ 0
    ∷ 0 ∷ 1076101120 ∷ 0 ∷ 1077149696 ∷ 0 ∷ 1077805056 ∷ 0 ∷ 1078198272 ∷ 0 ∷ 1078525952
    ∷ 0 ∷ 1072693248 ∷ 0 ∷ 1073741824 ∷ 0 ∷ 1074266112 ∷ 0 ∷ 0 ∷ 0 ∷ 1074790400 ∷ 0 ∷ 1075052544
    ∷ 6 ∷ 3 ∷ 0 ∷ 0
    ∷ 0 ∷ 3 ∷ 2 ∷ 0 ∷ 1 ∷ 2 ∷ 1 ∷ 1 ∷ 1 ∷ 0 ∷ 1 ∷ 4294967295 ∷ 2 ∷ 0 ∷ 1 ∷ 2 ∷ [])
unfolding to_bits of_int
seam_file_lem = (refl, refl)

-- the compact problem as a file: 2 columns, 6 rows, 7 entries of A, 2 cones, no patterns
seam_program : program_output seam_file ≡ table_bytes 4 (
    2 ∷ 6 ∷ 0 ∷ 7 ∷ 2 ∷ 0 ∷ 0 ∷ 0
    ∷ 80 ∷ 96 ∷ 96 ∷ 96 ∷ 112 ∷ 128 ∷ 160 ∷ 216 ∷ 264 ∷ 288 ∷ 288 ∷ 288
    ∷ 0 ∷ 0 ∷ 0 ∷ 0 ∷ 0 ∷ 0 ∷ 0 ∷ 0 ∷ 0 ∷ 5 ∷ 7 ∷ 0
    ∷ 0 ∷ 1 ∷ 2 ∷ 3 ∷ 4 ∷ 0 ∷ 5 ∷ 0
    ∷ 0 ∷ 1077805056 ∷ 0 ∷ 1078198272 ∷ 0 ∷ 1078525952 ∷ 0 ∷ 1076101120 ∷ 0 ∷ 1077149696
    ∷ 0 ∷ 3220176896 ∷ 0 ∷ 1072693248
    ∷ 0 ∷ 1074266112 ∷ 0 ∷ 1074790400 ∷ 0 ∷ 1075052544 ∷ 0 ∷ 1072693248 ∷ 0 ∷ 1073741824 ∷ 0 ∷ 0
    ∷ 6 ∷ 2 ∷ 0 ∷ 6 ∷ 2 ∷ 0 ∷ [])
unfolding of_bits to_bits of_int add eq
seam_program = refl

-- with a NaN with a payload in b the file is accepted, and has the same bytes when written again
abbrev nan_file : List ℕ
nan_file = file_of (seam_tables (18442240474082181121 ∷ bits (f 2 ∷ f 3 ∷ f 0 ∷ f 4 ∷ f 5 ∷ [])))

seam_nan : (file_failing nan_file ≡ 0) × (file_of (file_tables nan_file) ≡ nan_file)
unfolding of_bits to_bits of_int add eq
seam_nan = (refl, refl)

-- through the program a NaN with a payload is unchanged in q, and in b becomes the NaN that `to_bits` gives
abbrev nans_file : List ℕ
nans_file = file_of (bit_tables 1 1 (0 ∷ 0 ∷ []) [] [] (18442240474082181121 ∷ []) (0 ∷ 0 ∷ []) [] [] (18442240474082181121 ∷ []) (1 ∷ 1 ∷ 0 ∷ []) [] 0 [])

nans_program : (numbers_of 8 3 (drop 88 nans_file) ≡ 18442240474082181121 ∷ 0 ∷ 18442240474082181121 ∷ [])
    × (numbers_of 8 3 (drop 88 (program_output nans_file)) ≡ 18442240474082181121 ∷ 0 ∷ 9221120237041090560 ∷ [])
unfolding of_bits to_bits eq
nans_program = (refl, refl)

-- 13: a short header; a byte too few
short-header : program_output (take 79 seam_file) ≡ refused_text 13
unfolding to_bits of_int
short-header = refl

byte_too_few : program_output (take 295 seam_file) ≡ refused_text 13
unfolding to_bits of_int
byte_too_few = refl

-- 14: an offset of 92 instead of 88; 4,294,967,295 columns; a gap that is not zero
wrong_offset : program_output (set seam_file 36 92) ≡ refused_text 14
unfolding to_bits of_int
wrong_offset = refl

huge_count : program_output (table_bytes 4 (4294967295 ∷ []) ++ drop 4 seam_file) ≡ refused_text 14
unfolding to_bits of_int
huge_count = refl

filled_gap : program_output (set seam_file 127 1) ≡ refused_text 14
unfolding to_bits of_int
filled_gap = refl

-- by its words: accepted; 14 with one more byte that the length counts; 13 with a word more or less than the length gives
seam_words : (words_failing (file_words seam_file) 296 ≡ 0)
    × (words_failing (file_words (set seam_file 76 41 ++ (0 ∷ []))) 297 ≡ 14)
    × (words_failing (file_words seam_file ++ (0 ∷ [])) 296 ≡ 13)
    × (words_failing (take 73 (file_words seam_file)) 296 ≡ 13)
unfolding of_bits to_bits of_int add eq
seam_words = (refl, refl, refl, refl)

-- 1 comes before 13: a byte too many
too_long : program_output (replicate 8193 0) ≡ refused_text 1
too_long = refl

-- "refused 1", "refused 14", each with a line feed
texts : (refused_text 1 ≡ 114 ∷ 101 ∷ 102 ∷ 117 ∷ 115 ∷ 101 ∷ 100 ∷ 32 ∷ 49 ∷ 10 ∷ [])
    × (refused_text 14 ≡ 114 ∷ 101 ∷ 102 ∷ 117 ∷ 115 ∷ 101 ∷ 100 ∷ 32 ∷ 49 ∷ 52 ∷ 10 ∷ [])
texts = (refl, refl)
