-- The reader over words agrees with the reader over bytes: refusals, tables, and the round trip.
use Prim.Native.Nat.{ℕ, zero, suc, ◌+◌, ◌-◌, ◌*◌, ◌/◌, ◌≤◌, ◌<◌}
use native.Mathlib.Omega.{arith}
use mathlib.Core.Path.{◌≡◌, refl, sym, ap, ap₂, subst, ◌∙◌}
use mathlib.Core.Logic.{⊎_elim}
use mathlib.Core.Bool.{Bool, true, false, cond, ◌&&◌}
use mathlib.Core.List.{List, [], ◌∷◌, ◌++◌, append-nil}
use lib.ListN.{length, get_or, take, drop, replicate, length-drop}
use lib.Seq.{take-add, drop-drop, get_or-take}
use lib.Dec.{T, leb, eqb, eqb→eq, leb→le, le→leb, lit<}
use Rattle.layout.specs.General.Lists.{all, part, Below, same_numbers}
use Rattle.layout.specs.General.Bytes.{number_of, table_bytes, numbers_of, U32s}
use Rattle.layout.specs.Checks.{check, first_failing, problem_checks}
use Rattle.layout.specs.Calls.Answers.{or_else, roomy, problem_refusal}
use Rattle.layout.specs.Files.File.{HeaderCounts, counts_in, counted_lengths, aligned, offsets_from, end_from, table_sizes, header_of, BitTables, bit_tables, problem_of, Fit, tables_bytes, laid_from, file_of, header, file_tables, counts_of, length_right, gaps_zero, tables_right, shape_checks, shape_failing, file_failing, read_refusal}
use Rattle.layout.specs.Files.FileWords.{file_words, pairs_of, words_at, word_tables, words_length_right, word_gaps_zero, word_tables_right, word_shape_checks, word_shape_failing, words_failing}
use Rattle.layout.specs.Calls.ReadFile.{read_words_refusal}
use Rattle.layout.proofs.Lists.Tests.{and_iff, eqb_iff, same_tests, tested, failed, and-false}
use Rattle.layout.proofs.Lists.Walks.{all_append, numbers_equal}
use Rattle.layout.proofs.Checks.Order.{or_else-zero, or_else_same, passed, failing_append}
use Rattle.layout.proofs.Numbers.Bytes.{below-cons, below-append, table-small, length-table, length_numbers, numbers_back, numbers_part, u64_at}
use Rattle.layout.proofs.Files.Offsets.{aligned_up, end_from_lem}
use Rattle.layout.proofs.Theorems.File.{header_at, inside, file_in_order, written_back, read_passed, read_again}

-- ---- words of bytes

-- a number is zero exactly where all its bytes are
number-zero : (bs : List ℕ) → eqb (number_of bs) 0 ≡ all (λ b. eqb b 0) bs
number-zero [] = refl
number-zero (b ∷ bs) =
    let rest = number-zero bs in
    same_tests (eqb (b + 256 * number_of bs) 0) (eqb b 0 && all (λ b. eqb b 0) bs) (
      λ h.
          let e = eqb→eq (b + 256 * number_of bs) 0 h in
          (and_iff (eqb b 0) (all (λ b. eqb b 0) bs)).1
          ((eqb_iff b 0).1 (omega arith), subst T rest ((eqb_iff (number_of bs) 0).1 (omega arith))),
      λ h.
          let (first, others) = (and_iff (eqb b 0) (all (λ b. eqb b 0) bs)).0 h in
          let e = eqb→eq b 0 first in
          let f = eqb→eq (number_of bs) 0 (subst T (sym rest) others) in
          (eqb_iff (b + 256 * number_of bs) 0).1 (omega arith),
    )

zero-words : (k : ℕ) (bs : List ℕ) → all (λ w. eqb w 0) (numbers_of 4 k bs) ≡ all (λ b. eqb b 0) (take (4 * k) bs)
zero-words zero bs = refl
zero-words (suc k) bs =
    let e : 4 * suc k ≡ 4 + 4 * k = omega arith in
    ap₂ ◌&&◌ (number-zero (take 4 bs)) (zero-words k (drop 4 bs))
    ∙ sym (ap (λ (j : ℕ). all (λ b. eqb b 0) (take j bs)) e ∙ ap (all (λ b. eqb b 0)) (take-add 4 (4 * k) bs)
    ∙ all_append (λ b. eqb b 0) (take 4 bs) (take (4 * k) (drop 4 bs)))

-- pairs of u32 words are the u64 numbers of the same bytes
pairs_numbers : (k : ℕ) (bs : List ℕ) → 8 * k ≤ length bs → pairs_of (numbers_of 4 (2 * k) bs) ≡ numbers_of 8 k bs
pairs_numbers zero bs h = refl
pairs_numbers (suc k) bs h =
    let e : 2 * suc k ≡ suc (suc (2 * k)) = omega arith in
    ap (λ (j : ℕ). pairs_of (numbers_of 4 j bs)) e
    ∙ ap₂ (λ (v : ℕ) (l : List ℕ). v ∷ l) (sym (u64_at bs 0 (omega arith)))
    (ap (λ (l : List ℕ). pairs_of (numbers_of 4 (2 * k) l)) (drop-drop 4 4 bs) ∙ pairs_numbers k (drop 8 bs) (omega (arith, length-drop 8 bs)))

pub words-length : (bs : List ℕ) → length (file_words bs) ≡ length bs / 4
words-length bs = length_numbers 4 (length bs / 4) bs

-- ---- offsets that are multiples of 4

abbrev Fours : List ℕ → Type 0
Fours [] = Unit {0}
Fours (k ∷ ks) = (k ≡ 4 * (k / 4)) × Fours ks

sizes_fours : (c : HeaderCounts) → Fours (table_sizes c)
sizes_fours c =
    (omega arith, (omega arith, (omega arith, (omega arith, (omega arith, (omega arith, (omega arith, (omega arith, (omega arith, (omega arith, (omega arith, tt)))))))))))

fours_end : (a : ℕ) (ks : List ℕ) → a ≡ 4 * (a / 4) → Fours ks → end_from a ks ≡ 4 * (end_from a ks / 4)
fours_end a [] e h = e
fours_end a (k ∷ ks) e h = fours_end (aligned a + k) ks (omega (arith, h.0)) h.1

-- the end of every file, the size of each table and its offset are multiples of 4
end_fours : (c : HeaderCounts) → end_from 80 (table_sizes c) ≡ 4 * (end_from 80 (table_sizes c) / 4)
end_fours c = fours_end 80 (table_sizes c) refl (sizes_fours c)

fours_at : (ks : List ℕ) (i : ℕ) → Fours ks → get_or ks i 0 ≡ 4 * (get_or ks i 0 / 4)
fours_at [] i h = refl
fours_at (k ∷ ks) zero h = h.0
fours_at (k ∷ ks) (suc i) h = fours_at ks i h.1

pub size_fours : (c : HeaderCounts) (i : ℕ) → get_or (table_sizes c) i 0 ≡ 4 * (get_or (table_sizes c) i 0 / 4)
size_fours c i = fours_at (table_sizes c) i (sizes_fours c)

pub offset_fours : (a : ℕ) (ks : List ℕ) (i : ℕ) → get_or (offsets_from a ks) i 0 ≡ 4 * (get_or (offsets_from a ks) i 0 / 4)
offset_fours a [] i = refl
offset_fours a (k ∷ ks) zero = omega arith
offset_fours a (k ∷ ks) (suc i) = offset_fours (aligned a + k) ks i

gap_words : (n a : ℕ) (ks bs : List ℕ) → a ≡ 4 * (a / 4) → Fours ks → end_from a ks ≤ 4 * n
    → word_gaps_zero a ks (numbers_of 4 n bs) ≡ gaps_zero a ks bs
gap_words n a [] bs e h l = refl
gap_words n a (k ∷ ks) bs e h l =
    let o : ℕ = aligned a in
    let g : ℕ = o / 4 - a / 4 in
    let bytes : 4 * g ≡ o - a = omega (arith, aligned_up a) in
    let here : all (λ w. eqb w 0) (part (a / 4) (o / 4) (numbers_of 4 n bs)) ≡ all (λ b. eqb b 0) (part a o bs) =
    ap (all (λ w. eqb w 0)) (numbers_part 4 n (a / 4) g bs (omega (arith, aligned_up a, end_from_lem (o + k) ks)))
    ∙ zero-words g (drop (4 * (a / 4)) bs)
    ∙ ap₂ (λ (x y : ℕ). all (λ b. eqb b 0) (take x (drop y bs))) bytes (sym e) in
    ap₂ ◌&&◌ here (gap_words n (o + k) ks bs (omega (arith, h.0)) h.1 l)

-- ---- checks 13 and 14

-- what check 13 ensures
pub words_long : (ws : List ℕ) (n : ℕ) → T (words_length_right ws n) → (length ws ≡ n / 4) × (20 ≤ length ws) × (get_or ws 19 0 ≡ n)
words_long ws n h =
    let (front, last) = (and_iff (eqb (length ws) (n / 4) && leb 20 (length ws)) (eqb (get_or ws 19 0) n)).0 h in
    let (whole, long) = (and_iff (eqb (length ws) (n / 4)) (leb 20 (length ws))).0 front in
    (eqb→eq (length ws) (n / 4) whole, leb→le 20 (length ws) long, eqb→eq (get_or ws 19 0) n last)

long_words : (ws : List ℕ) (n : ℕ) → length ws ≡ n / 4 → 20 ≤ length ws → get_or ws 19 0 ≡ n → T (words_length_right ws n)
long_words ws n whole long last =
    (and_iff (eqb (length ws) (n / 4) && leb 20 (length ws)) (eqb (get_or ws 19 0) n)).1 (
      (and_iff (eqb (length ws) (n / 4)) (leb 20 (length ws))).1 ((eqb_iff (length ws) (n / 4)).1 whole, le→leb 20 (length ws) long),
      (eqb_iff (get_or ws 19 0) n).1 last,
    )

bytes_long : (bs : List ℕ) → T (length_right bs) → (80 ≤ length bs) × (get_or (header bs) 19 0 ≡ length bs)
bytes_long bs h =
    let (long, last) = (and_iff (leb 80 (length bs)) (eqb (get_or (header bs) 19 0) (length bs))).0 h in
    (leb→le 80 (length bs) long, eqb→eq (get_or (header bs) 19 0) (length bs) last)

module _ (bs : List ℕ) where
  abbrev ws : List ℕ
  ws = file_words bs

  -- the first 20 words are the header
  head-words : 80 ≤ length bs → take 20 ws ≡ header bs
  head-words l = numbers_part 4 (length bs / 4) 0 20 bs (omega arith)

  word_at : 80 ≤ length bs → (i : ℕ) → i < 20 → get_or ws i 0 ≡ get_or (header bs) i 0
  word_at l i h = sym (get_or-take 20 ws i 0 h) ∙ ap (λ (r : List ℕ). get_or r i 0) (head-words l)

  counts-words : 80 ≤ length bs → counts_in ws ≡ counts_in (header bs)
  counts-words l = λ i. record {
    n = word_at l 0 (lit< tt) i;
    m = word_at l 1 (lit< tt) i;
    entries_p = word_at l 2 (lit< tt) i;
    entries_a = word_at l 3 (lit< tt) i;
    cones = word_at l 4 (lit< tt) i;
    alphas = word_at l 5 (lit< tt) i;
    patterns = word_at l 6 (lit< tt) i;
    words = word_at l 7 (lit< tt) i;
  }

  -- check 13 is the same on words and on bytes, and so is check 14 where 13 has passed
  length-right : words_length_right ws (length bs) ≡ length_right bs
  length-right =
      let whole = words-length bs in
      same_tests (words_length_right ws (length bs)) (length_right bs) (
        λ h.
            let (e, long, last) = words_long ws (length bs) h in
            let l : 80 ≤ length bs = omega arith in
            (and_iff (leb 80 (length bs)) (eqb (get_or (header bs) 19 0) (length bs))).1
            (le→leb 80 (length bs) l, (eqb_iff (get_or (header bs) 19 0) (length bs)).1 (sym (word_at l 19 (lit< tt)) ∙ last)),
        λ h.
            let (l, last) = bytes_long bs h in
            long_words ws (length bs) whole (omega arith) (word_at l 19 (lit< tt) ∙ last),
      )

  tables-right : T (length_right bs) → word_tables_right ws ≡ tables_right bs
  tables-right h =
      let (l, last) = bytes_long bs h in
      let c = counts_in (header bs) in
      let same : Bool = same_numbers (header bs) (header_of c) in
      ap₂ (λ (front : List ℕ) (d : HeaderCounts). same_numbers front (header_of d) && word_gaps_zero 80 (table_sizes d) ws) (head-words l) (counts-words l)
      ∙ ⊎_elim
      (λ right.
      let e : end_from 80 (table_sizes c) ≡ length bs =
      sym (ap (λ (r : List ℕ). get_or r 19 0) (numbers_equal (header bs) (header_of c) right)) ∙ last in
      ap (λ (b : Bool). same && b) (gap_words (length bs / 4) 80 (table_sizes c) bs refl (sizes_fours c) (omega (arith, end_fours c))))
      (λ wrong.
      let no = failed same wrong in
      and-false same (word_gaps_zero 80 (table_sizes c) ws) no ∙ sym (and-false same (gaps_zero 80 (table_sizes c) bs) no))
      (tested same)

  pub shape_words : word_shape_failing ws (length bs) ≡ shape_failing bs
  shape_words =
      ap (λ (b : Bool). first_failing (check 13 b ∷ check 14 (word_tables_right ws) ∷ [])) length-right ∙ go (length_right bs) tables-right
    where
      go : (b : Bool) → (T b → word_tables_right ws ≡ tables_right bs)
          → first_failing (check 13 b ∷ check 14 (word_tables_right ws) ∷ []) ≡ first_failing (check 13 b ∷ check 14 (tables_right bs) ∷ [])
      go true h = ap (λ (b : Bool). first_failing (check 13 true ∷ check 14 b ∷ [])) (h tt)
      go false h = refl

-- ---- the tables

-- k words from a byte offset that is a multiple of 4
words-part : (bs : List ℕ) (o k : ℕ) → o ≡ 4 * (o / 4) → o + 4 * k ≤ length bs
    → part (o / 4) (o / 4 + k) (file_words bs) ≡ numbers_of 4 k (drop o bs)
words-part bs o k e l =
    let size : o / 4 + k - o / 4 ≡ k = omega arith in
    ap (λ (j : ℕ). take j (drop (o / 4) (file_words bs))) size ∙ numbers_part 4 (length bs / 4) (o / 4) k bs (omega arith)
    ∙ ap (λ (j : ℕ). numbers_of 4 k (drop j bs)) (sym e)

-- the tables in words, for given counts
abbrev tables_with : HeaderCounts → List ℕ → BitTables
tables_with c ws =
    bit_tables c.n c.m
    (words_at ws 0 (suc c.n)) (words_at ws 1 c.entries_p) (pairs_of (words_at ws 2 (2 * c.entries_p))) (pairs_of (words_at ws 3 (2 * c.n)))
    (words_at ws 4 (suc c.n)) (words_at ws 5 c.entries_a) (pairs_of (words_at ws 6 (2 * c.entries_a))) (pairs_of (words_at ws 7 (2 * c.m)))
    (words_at ws 8 (3 * c.cones)) (pairs_of (words_at ws 9 (2 * c.alphas))) c.patterns (words_at ws 10 c.words)

module _ (bs : List ℕ) (bytes : Below 256 bs) (ok : shape_failing bs ≡ 0) where
  abbrev h : List ℕ
  h = header bs

  abbrev ks : List ℕ
  ks = table_sizes (counts_in h)

  long : 80 ≤ length bs
  long = (bytes_long bs (passed 13 (shape_checks bs) tt ok)).0

  stands : (i k : ℕ) → i < 11 → get_or h (8 + i) 0 ≡ get_or (offsets_from 80 ks) i 0 → 4 * k ≡ get_or ks i 0
      → words_at (file_words bs) i k ≡ numbers_of 4 k (drop (get_or h (8 + i) 0) bs)
  stands i k l e z =
      let o : ℕ = get_or (offsets_from 80 ks) i 0 in
      ap (λ (a : ℕ). part (a / 4) (a / 4 + k) (file_words bs)) (word_at bs long (8 + i) (omega arith) ∙ e)
      ∙ words-part bs o k (offset_fours 80 ks i) (omega (arith, inside bs bytes ok i l))
      ∙ ap (λ (a : ℕ). numbers_of 4 k (drop a bs)) (sym e)

  doubles : (i k : ℕ) → i < 11 → get_or h (8 + i) 0 ≡ get_or (offsets_from 80 ks) i 0 → 8 * k ≡ get_or ks i 0
      → pairs_of (words_at (file_words bs) i (2 * k)) ≡ numbers_of 8 k (drop (get_or h (8 + i) 0) bs)
  doubles i k l e z =
      let o : ℕ = get_or h (8 + i) 0 in
      ap pairs_of (stands i (2 * k) l e (omega arith))
      ∙ pairs_numbers k (drop o bs) (omega (arith, inside bs bytes ok i l, length-drop o bs))

  -- where 13 and 14 pass, the tables in the words are the file's
  pub words-tables : word_tables (file_words bs) ≡ file_tables bs
  words-tables =
      let c = counts_in h in
      let at = header_at bs bytes ok in
      ap (λ (d : HeaderCounts). tables_with d (file_words bs)) (counts-words bs long)
      ∙ (λ i.
      bit_tables c.n c.m
      (stands 0 (suc c.n) (lit< tt) (at 0) refl i) (stands 1 c.entries_p (lit< tt) (at 1) refl i)
      (doubles 2 c.entries_p (lit< tt) (at 2) refl i) (doubles 3 c.n (lit< tt) (at 3) refl i)
      (stands 4 (suc c.n) (lit< tt) (at 4) refl i) (stands 5 c.entries_a (lit< tt) (at 5) refl i)
      (doubles 6 c.entries_a (lit< tt) (at 6) refl i) (doubles 7 c.m (lit< tt) (at 7) refl i)
      (stands 8 (3 * c.cones) (lit< tt) (at 8) refl i) (doubles 9 c.alphas (lit< tt) (at 9) refl i)
      c.patterns (stands 10 c.words (lit< tt) (at 10) refl i))

-- ---- the refusal number

-- 13, then 14, then checks 1 to 7
pub words_in_order : (ws : List ℕ) (n : ℕ) → words_failing ws n ≡ or_else (word_shape_failing ws n) (problem_refusal (problem_of (word_tables ws)))
words_in_order ws n = failing_append (word_shape_checks ws n) (problem_checks (problem_of (word_tables ws))) tt

-- the words of a file are refused as the file is, also with 1 to 3 bytes after the last complete word
pub words-refusal : (bs : List ℕ) → Below 256 bs → words_failing (file_words bs) (length bs) ≡ file_failing bs
words-refusal bs bytes =
    let old = problem_refusal (problem_of (file_tables bs)) in
    let new = problem_refusal (problem_of (word_tables (file_words bs))) in
    words_in_order (file_words bs) (length bs) ∙ ap (λ (r : ℕ). or_else r new) (shape_words bs)
    ∙ or_else_same (shape_failing bs) new old (λ ok. ap (λ (t : BitTables). problem_refusal (problem_of t)) (words-tables bs bytes ok))
    ∙ sym (file_in_order bs)

-- the same with check 11 of the outputs
pub words-read : (bs rooms : List ℕ) → Below 256 bs → read_words_refusal (file_words bs) (length bs) rooms ≡ read_refusal bs rooms
words-read bs rooms bytes =
    let room : HeaderCounts → ℕ = λ c. cond (roomy (8 ∷ counted_lengths c) rooms) 0 11 in
    ap (λ (r : ℕ). or_else r (room (counts_in (file_words bs)))) (words-refusal bs bytes)
    ∙ or_else_same (file_failing bs) (room (counts_in (file_words bs))) (room (counts_in (header bs)))
    (λ e. ap room (counts-words bs (bytes_long bs (passed 13 (shape_checks bs) tt (read_passed bs e).0)).0))

-- ---- the round trip

-- every number in a file is a byte
zeros_small : (k : ℕ) → Below 256 (replicate k 0)
zeros_small zero = λ i l. absurd (omega arith)
zeros_small (suc k) = below-cons 256 0 (replicate k 0) (omega arith) (zeros_small k)

abbrev EachSmall : List (List ℕ) → Type 0
EachSmall [] = Unit {0}
EachSmall (t ∷ ts) = Below 256 t × EachSmall ts

laid-small : (a : ℕ) (ts : List (List ℕ)) → EachSmall ts → Below 256 (laid_from a ts)
laid-small a [] h = λ i l. absurd (omega arith)
laid-small a (t ∷ ts) h =
    let rest : List ℕ = laid_from (aligned a + length t) ts in
    below-append 256 (replicate (aligned a - a) 0) (t ++ rest) (zeros_small (aligned a - a))
    (below-append 256 t rest h.0 (laid-small (aligned a + length t) ts h.1))

file_bytes : (t : BitTables) → Below 256 (file_of t)
file_bytes t =
    below-append 256 (table_bytes 4 (header_of (counts_of t))) (laid_from 80 (tables_bytes t)) (table-small 4 (header_of (counts_of t)))
    (laid-small 80 (tables_bytes t) (
      table-small 4 t.p_starts,
      (
        table-small 4 t.p_rows,
        (
          table-small 8 t.p_values,
          (
            table-small 8 t.q,
            (
              table-small 4 t.a_starts,
              (
                table-small 4 t.a_rows,
                (
                  table-small 8 t.a_values,
                  (
                    table-small 8 t.b,
                    (table-small 4 t.cones, (table-small 8 t.alphas, (table-small 4 t.pattern_words, tt))),
                  ),
                ),
              ),
            ),
          ),
        ),
      ),
    ))

-- a written file, read by its words, gives the same tables
pub words_back : (t : BitTables) → Fit t → problem_refusal (problem_of t) ≡ 0
    → (word_tables (file_words (file_of t)) ≡ t) × (words_failing (file_words (file_of t)) (length (file_of t)) ≡ 0)
words_back t f ok =
    let (back, accepted) = written_back t f ok in
    let bytes = file_bytes t in (
      words-tables (file_of t) bytes (read_passed (file_of t) accepted).0 ∙ back,
      words-refusal (file_of t) bytes ∙ accepted,
    )

-- words are read back from their bytes
words_of_bytes : (ws : List ℕ) → U32s ws → file_words (table_bytes 4 ws) ≡ ws
words_of_bytes ws fit =
    let size : length (table_bytes 4 ws) / 4 ≡ length ws = omega (arith, length-table 4 ws) in
    ap (λ (k : ℕ). numbers_of 4 k (table_bytes 4 ws)) size
    ∙ ap (numbers_of 4 (length ws)) (sym (append-nil (table_bytes 4 ws))) ∙ numbers_back 4 ws [] fit

-- words that pass 13 and 14 are a whole file, without further bytes
pub words-whole : (ws : List ℕ) (n : ℕ) → word_shape_failing ws n ≡ 0 → n ≡ 4 * length ws
words-whole ws n ok =
    let c = counts_in ws in
    let (whole, long, last) = words_long ws n (passed 13 (word_shape_checks ws n) tt ok) in
    let (right, gaps) = (and_iff (same_numbers (take 20 ws) (header_of c)) (word_gaps_zero 80 (table_sizes c) ws)).0 (passed 14 (word_shape_checks ws n) tt ok) in
    let end : get_or ws 19 0 ≡ end_from 80 (table_sizes c) =
    sym (get_or-take 20 ws 19 0 (lit< tt)) ∙ ap (λ (l : List ℕ). get_or l 19 0) (numbers_equal (take 20 ws) (header_of c) right) in
    omega (arith, end_fours c)

-- the tables in accepted words, written again, give the bytes of the words
pub words-again : (ws : List ℕ) (n : ℕ) → U32s ws → words_failing ws n ≡ 0 → file_of (word_tables ws) ≡ table_bytes 4 ws
words-again ws n fit ok =
    let bs : List ℕ = table_bytes 4 ws in
    let bytes = table-small 4 ws in
    let (shape, rest) = (or_else-zero (word_shape_failing ws n) (problem_refusal (problem_of (word_tables ws)))).0 (sym (words_in_order ws n) ∙ ok) in
    let same = words_of_bytes ws fit in
    let size : length bs ≡ n = length-table 4 ws ∙ sym (words-whole ws n shape) in
    let accepted : file_failing bs ≡ 0 =
    sym (words-refusal bs bytes) ∙ ap₂ words_failing same size ∙ ok in
    ap file_of (sym (ap word_tables same) ∙ words-tables bs bytes (read_passed bs accepted).0) ∙ read_again bs bytes accepted
