-- The parts of the Q-2 program: the doubles of a file, the output sizes, and the refusal numbers in their order.
use Prim.Native.Nat.{ℕ, zero, suc, ◌+◌, ◌*◌, ◌/◌, ◌%◌, ◌≤◌, ◌<◌}
use native.Mathlib.Omega.{arith}
use mathlib.Core.Path.{◌≡◌, refl, sym, ap, ap₂, ◌∙◌}
use mathlib.Core.Bool.{Bool, cond}
use mathlib.Core.List.{List, [], ◌∷◌, ◌++◌}
use borrow.Author.Tests.{le-leb, lt-leb, lt-ltb, le-ltb}
use lib.ListN.{length, take, drop, set, replicate, length-append}
use lib.Seq.{length-take-le}
use lib.Dec.{leb}
use lib.Ieee.{Float}
use Rattle.layout.specs.General.Lists.{Below, written}
use Rattle.layout.specs.General.Floats.{floats}
use Rattle.layout.specs.Problems.Problem.{Problem, compact}
use Rattle.layout.specs.Checks.{checks, refusal}
use Rattle.layout.specs.Calls.Answers.{or_else, output, problem_refusal}
use Rattle.layout.specs.Calls.Cut.{sizes}
use Rattle.layout.specs.Files.File.{BitTables, problem_of, widths, products, end_from, file_of, file_tables, shape_failing, compact_tables, compact_file, refused_text, answer, program_refusal, program_output}
use Rattle.layout.specs.Files.FileWords.{pairs_of, file_words, word_tables, word_shape_failing, word_shape_checks}
use Rattle.layout.specs.Calls.Sizes.{Sizes}
use Rattle.layout.specs.Calls.FileWords.{FileWords}
use Rattle.layout.proofs.Lists.Buffers.{set-written, two_more}
use Rattle.layout.proofs.Checks.Order.{failing_most}
use Rattle.layout.proofs.Theorems.File.{read_passed}
use Rattle.layout.proofs.Files.FileWords.{words-length, shape_words, words-tables}
use Rattle.layout.proofs.Theorems.Program.{compact_length, program_in_order, program-read}
use Rattle.file_views.proofs.Doubles.{pairs_even, length_halved}
use Rattle.compact_tables.specs.Writers.{Writes}
use Rattle.compact_tables.proofs.Fronts.{front, front_floats}
use Rattle.compact_file.specs.Program.{cut_tables_refusal, cut_tables_output, words_refusal, words_output, Small, program_bytes, CutFile}

-- ---- the doubles of a file, each made of two words

pub halves_fit : (ws : List ℕ) (room : ℕ) → length ws ≤ 2 * room
    → (length (take (2 * (length ws / 2)) ws) ≡ 2 * (length (take (2 * (length ws / 2)) ws) / 2)) × (length (take (2 * (length ws / 2)) ws) / 2 ≤ room)
halves_fit ws room few =
    let size : length (take (2 * (length ws / 2)) ws) ≡ 2 * (length ws / 2) = length-take-le (2 * (length ws / 2)) ws (omega arith) in
    (omega arith, omega arith)

pub patterns-read : (ws old : List ℕ) {out : List ℕ} → out ≡ written (pairs_of (take (2 * (length ws / 2)) ws)) old → take (length ws / 2) out ≡ pairs_of ws
patterns-read ws old h =
    front (pairs_of ws) old (length ws / 2) (h ∙ ap (λ (l : List ℕ). written l old) (pairs_even ws (length ws / 2) refl)) (sym (length_halved ws))

pub values-read : (ws : List ℕ) {ps : List ℕ} (old : List Float) {out : List Float} → ps ≡ pairs_of ws → out ≡ written (floats ps) old
    → take (length ws / 2) out ≡ floats (pairs_of ws)
values-read ws old e h =
    front_floats (pairs_of ws) old (length ws / 2) (h ∙ ap (λ (l : List ℕ). written (floats l) old) e) (sym (length_halved ws))

-- ---- sizes

or_else_nothing : (r : ℕ) → or_else r 0 ≡ r
or_else_nothing zero = refl
or_else_nothing (suc r) = refl

-- the result of `sizes` on the compact route, with eleven zeros in its output before
pub sized-number : (q : Problem) {after : List ℕ} {r : ℕ} → Sizes 1 q (replicate 11 0) after r → r ≡ refusal compact q
sized-number q h = h.number ∙ or_else_nothing (refusal compact q)

sized-lengths : (q : Problem) {after : List ℕ} {r : ℕ} → Sizes 1 q (replicate 11 0) after r → r ≡ 0 → set after 10 0 ≡ take 10 (sizes compact q) ++ (0 ∷ [])
sized-lengths q h z = ap (λ (l : List ℕ). set l 10 0) (h.out ∙ ap (λ (k : ℕ). output k (sizes compact q) (replicate 11 0)) z)

-- the end of the compact file, from the sizes
pub sized_end : (t : BitTables) {after : List ℕ} {r end : ℕ} → Sizes 1 (problem_of t) (replicate 11 0) after r → r ≡ 0
    → end ≡ end_from 80 (products widths (set after 10 0)) → end ≡ length (file_of (compact_tables t))
sized_end t h z e = e ∙ ap (λ (l : List ℕ). end_from 80 (products widths l)) (sized-lengths (problem_of t) h z) ∙ sym (compact_length t)

-- ---- the refusal numbers in their order

refused-answer : (r : ℕ) (file : List ℕ) {n : ℕ} → (n ≡ 0 → ⊥) → r ≡ n → answer r file ≡ refused_text n
refused-answer zero file h e = absurd (h (sym e))
refused-answer (suc r) file h e = ap refused_text e

first-number : (a late : ℕ) {r : ℕ} → (r ≡ 0 → ⊥) → r ≡ a → or_else a late ≡ r
first-number zero late h e = absurd (h e)
first-number (suc a) late h e = sym e

-- tables that the compact route's checks refuse
pub tables-refused : (t : BitTables) {r : ℕ} → (r ≡ 0 → ⊥) → r ≡ refusal compact (problem_of t) → (r < 100) × (cut_tables_output t ≡ refused_text r)
tables-refused t {r} h e =
    let late : ℕ = cond (leb (length (file_of (compact_tables t))) 65536) 0 10 in (
      omega (arith, failing_most 10 (checks compact (problem_of t)) tt),
      refused-answer (cut_tables_refusal t) (file_of (compact_tables t)) h (first-number (refusal compact (problem_of t)) late h e),
    )

-- accepted tables whose compact file is too long
pub tables_long : (t : BitTables) → refusal compact (problem_of t) ≡ 0 → 65536 < length (file_of (compact_tables t)) → cut_tables_output t ≡ refused_text 10
tables_long t ok long =
    ap (λ (r : ℕ). answer r (file_of (compact_tables t))) (
    ap (λ (r : ℕ). or_else r (cond (leb (length (file_of (compact_tables t))) 65536) 0 10)) ok
    ∙ ap (λ (b : Bool). cond b 0 10) (lt-leb (length (file_of (compact_tables t))) 65536 long))

-- accepted tables whose compact file is short enough
pub tables_passed : (t : BitTables) → refusal compact (problem_of t) ≡ 0 → length (file_of (compact_tables t)) ≤ 65536
    → (cut_tables_refusal t ≡ 0) × (cut_tables_output t ≡ file_of (compact_tables t))
tables_passed t ok short =
    let none : cut_tables_refusal t ≡ 0 =
    ap (λ (r : ℕ). or_else r (cond (leb (length (file_of (compact_tables t))) 65536) 0 10)) ok
    ∙ ap (λ (b : Bool). cond b 0 10) (le-leb (length (file_of (compact_tables t))) 65536 short) in
    (none, ap (λ (r : ℕ). answer r (file_of (compact_tables t))) none)

-- the preconditions of the compact file's writer
pub sized_writes : (ws : List ℕ) → Small ws → {after : List ℕ} {r : ℕ} → Sizes 1 (problem_of (word_tables ws)) (replicate 11 0) after r → r ≡ 0
    → length (file_of (compact_tables (word_tables ws))) ≤ 65536 → Writes (word_tables ws) (set after 10 0)
sized_writes ws small h z short =
    let t = word_tables ws in
    let ok : refusal compact (problem_of t) ≡ 0 = sym (sized-number (problem_of t) h) ∙ z in
    record { accepted = ok; passes = small.passes (tables_passed t ok short).0; short = short; sized = sized-lengths (problem_of t) h z }

-- ---- words

-- words refused by check 13 or 14
pub words-refused : (ws : List ℕ) (n : ℕ) {r : ℕ} → (r ≡ 0 → ⊥) → r ≡ word_shape_failing ws n → (r < 100) × (words_output ws n ≡ refused_text r)
words-refused ws n {r} h e = (
  omega (arith, failing_most 14 (word_shape_checks ws n) tt),
  refused-answer (words_refusal ws n) (file_of (compact_tables (word_tables ws))) h (first-number (word_shape_failing ws n) (cut_tables_refusal (word_tables ws)) h e),
)

-- where checks 13 and 14 pass, the output is that of the tables
pub words_passed : (ws : List ℕ) (n : ℕ) → word_shape_failing ws n ≡ 0 → words_output ws n ≡ cut_tables_output (word_tables ws)
words_passed ws n e = ap (λ (r : ℕ). answer (or_else r (cut_tables_refusal (word_tables ws))) (file_of (compact_tables (word_tables ws)))) e

-- ---- bytes

module _ (bs : List ℕ) (bytes : Below 256 bs) (short : length bs ≤ 8192) where
  -- a file of the right shape has few words, and its compact problem passes checks 1 to 7 where nothing is refused
  pub small-words : word_shape_failing (file_words bs) (length bs) ≡ 0 → Small (file_words bs)
  small-words e =
      let shape : shape_failing bs ≡ 0 = sym (shape_words bs) ∙ e in
      let same : word_tables (file_words bs) ≡ file_tables bs = words-tables bs bytes shape in
      record {
        few = omega (arith, words-length bs);
        passes = λ h.
            let number : program_refusal bs ≡ 0 =
            program_in_order bs
            ∙ ap₂ (λ (b : Bool) (r : ℕ). or_else (cond b 0 1) (or_else r (cut_tables_refusal (file_tables bs)))) (le-leb (length bs) 8192 short) shape
            ∙ ap cut_tables_refusal (sym same) ∙ h in
            let (read, back, stands) = program-read bs bytes number in
            ap (λ (u : BitTables). problem_refusal (problem_of (compact_tables u))) same
            ∙ ap (λ (u : BitTables). problem_refusal (problem_of u)) (sym back) ∙ (read_passed (program_output bs) read).1;
      }

  pub program-words : program_output bs ≡ words_output (file_words bs) (length bs)
  program-words =
      let ws = file_words bs in
      ap (λ (r : ℕ). answer r (compact_file bs)) (
      program_in_order bs
      ∙ ap (λ (b : Bool). or_else (cond b 0 1) (or_else (shape_failing bs) (cut_tables_refusal (file_tables bs)))) (le-leb (length bs) 8192 short)
      ∙ ap (λ (r : ℕ). or_else r (cut_tables_refusal (file_tables bs))) (sym (shape_words bs)))
      ∙ later (word_shape_failing ws (length bs)) (λ e. sym (words-tables bs bytes (sym (shape_words bs) ∙ e)))
    where
      later : (s : ℕ) {u v : BitTables} → (s ≡ 0 → u ≡ v)
          → answer (or_else s (cut_tables_refusal u)) (file_of (compact_tables u)) ≡ answer (or_else s (cut_tables_refusal v)) (file_of (compact_tables v))
      later zero e = ap (λ (w : BitTables). answer (cut_tables_refusal w) (file_of (compact_tables w))) (e refl)
      later (suc s) e = refl

-- the words read from a file are its words
pub words_taken : (bs : List ℕ) {out : List ℕ} {r : ℕ} → length bs ≤ 8192 → FileWords bs (replicate 2048 0) out r → take (length bs / 4) out ≡ file_words bs
words_taken bs {out} {r} short h =
    let count = words-length bs in
    let zero : r ≡ 0 = h.number ∙ ap (λ (b : Bool). cond b 0 11) (le-leb (length (file_words bs)) 2048 (omega arith)) in
    front (file_words bs) (replicate 2048 0) (length bs / 4) (h.out ∙ ap (λ (k : ℕ). output k (file_words bs) (replicate 2048 0)) zero) (sym count)

-- a file that is too long is refused under 1
pub program_long : (bs : List ℕ) → 8192 < length bs → program_output bs ≡ refused_text 1
program_long bs long =
    ap (λ (r : ℕ). answer r (compact_file bs)) (
    program_in_order bs
    ∙ ap (λ (b : Bool). or_else (cond b 0 1) (or_else (shape_failing bs) (cut_tables_refusal (file_tables bs)))) (lt-leb (length bs) 8192 long))

-- ---- the refusal line

-- the bytes of "refused "
abbrev refused_word : List ℕ
refused_word = 114 ∷ 101 ∷ 102 ∷ 117 ∷ 115 ∷ 101 ∷ 100 ∷ 32 ∷ []

one_digit : (k : ℕ) → k < 10 → refused_text k ≡ refused_word ++ ((48 + k) ∷ 10 ∷ [])
one_digit k l = ap (λ (b : Bool). refused_word ++ (cond b ((48 + k) ∷ []) ((48 + k / 10) ∷ (48 + k % 10) ∷ []) ++ (10 ∷ []))) (lt-ltb k 10 l)

two_digits : (k : ℕ) → 10 ≤ k → refused_text k ≡ refused_word ++ ((48 + k / 10) ∷ (48 + k % 10) ∷ 10 ∷ [])
two_digits k l = ap (λ (b : Bool). refused_word ++ (cond b ((48 + k) ∷ []) ((48 + k / 10) ∷ (48 + k % 10) ∷ []) ++ (10 ∷ []))) (le-ltb k 10 l)

-- one or two digits and a line feed, stored after "refused "
pub digit_written : (k : ℕ) (old : List ℕ) {out : List ℕ} → k < 10 → 11 ≤ length old → out ≡ written refused_word old
    → (10 ≡ length (refused_text k)) × (set (set out 8 (48 + k)) 9 10 ≡ written (refused_text k) old)
digit_written k old l room e =
    let text = sym (one_digit k l) in (
      ap length text,
      ap (λ (o : List ℕ). set (set o 8 (48 + k)) 9 10) e ∙ two_more refused_word old (48 + k) 10 8 refl (omega arith) ∙ ap (λ (xs : List ℕ). written xs old) text,
    )

pub digits_written : (k : ℕ) (old : List ℕ) {out : List ℕ} → 10 ≤ k → 11 ≤ length old → out ≡ written refused_word old
    → (11 ≡ length (refused_text k)) × (set (set (set out 8 (48 + k / 10)) 9 (48 + k % 10)) 10 10 ≡ written (refused_text k) old)
digits_written k old l room e =
    let a : ℕ = 48 + k / 10 in
    let b : ℕ = 48 + k % 10 in
    let text = sym (two_digits k l) in (
      ap length text,
      ap (λ (o : List ℕ). set (set (set o 8 a) 9 b) 10 10) e ∙ ap (λ (o : List ℕ). set o 10 10) (two_more refused_word old a b 8 refl (omega arith))
          ∙ set-written (refused_word ++ (a ∷ b ∷ [])) old 10 10 refl (omega arith) ∙ ap (λ (xs : List ℕ). written xs old) text,
    )

-- ---- the contract of `cut_file`

pub none_written : (file old : List ℕ) → length old < 65536 → CutFile file old old 0
none_written file old l =
    let none : program_bytes file (length old) ≡ [] = ap (λ (b : Bool). cond b (program_output file) []) (lt-leb 65536 (length old) l) in
    record { count = sym (ap length none); inside = omega arith; out = sym (ap (λ (xs : List ℕ). written xs old) none) }

pub all-written : (file old : List ℕ) {new : List ℕ} {r : ℕ} (xs : List ℕ) → 65536 ≤ length old → program_output file ≡ xs → r ≡ length xs → new ≡ written xs old
    → CutFile file old new r
all-written file old {new} {r} xs l e c o =
    let whole : program_bytes file (length old) ≡ xs = ap (λ (b : Bool). cond b (program_output file) []) (le-leb 65536 (length old) l) ∙ e in
    record {
      count = c ∙ sym (ap length whole);
      inside = omega (arith, ap length o, length-append xs (drop (length xs) old));
      out = o ∙ sym (ap (λ (ys : List ℕ). written ys old) whole);
    }
