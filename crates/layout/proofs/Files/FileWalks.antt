-- For code: check 14 as one walk over the tables, with a bound for its sums; where the tables are in the words; loops that read and write
-- words, numbers of two words, and bytes.
use Prim.Native.Nat.{ℕ, zero, suc, ◌+◌, ◌-◌, ◌*◌, ◌/◌, ◌%◌, ◌≤◌, ◌<◌}
use native.Mathlib.Omega.{arith}
use native.Mathlib.Numerals.{add-one}
use mathlib.Core.Path.{◌≡◌, refl, sym, ap, ap₂, ◌∙◌}
use mathlib.Core.Bool.{Bool, true, false, cond, ◌&&◌}
use mathlib.Core.List.{List, [], ◌∷◌, ◌++◌, append_assoc}
use lib.ListN.{get_or-append, length, get_or, take, drop, set, length-append, length-drop, length-map, length-replicate, drop_of_length-le}
use lib.Seq.{take_all, drop-cons, get_or-take, get_or-append-add, take-add, length-take-le}
use lib.Dec.{eqb, eqb→eq, eqb_refl, lit<}
use lib.Ieee.{binary64, of_bits, nan}
use Rattle.layout.specs.General.Lists.{all, written, same_numbers}
use Rattle.layout.specs.General.Floats.{floats}
use Rattle.layout.specs.General.Bytes.{bytes_of, table_bytes}
use Rattle.layout.specs.Calls.Answers.{or_else, problem_refusal}
use Rattle.layout.specs.Files.File.{HeaderCounts, aligned, offsets_from, end_from, count_words, counts_in, table_sizes, header_of, problem_of}
use Rattle.layout.specs.Files.FileWords.{gap_zero, unvalued, unvalued_problem, words_failing, file_words, pairs_of, words_at, word_tables, words_length_right, word_gaps_zero, word_tables_right, word_shape_checks, word_shape_failing}
use Rattle.layout.proofs.Lists.Tests.{and_iff, and_swap, and-false, and_right, passed, failed}
use Rattle.layout.proofs.Checks.Order.{or_else_same}
use Rattle.layout.proofs.Checks.Order as Order
use Rattle.layout.proofs.Lists.Starts.{part_at}
use Rattle.layout.proofs.Lists.Buffers.{set-written, two_more, take_none}
use Rattle.layout.proofs.Lists.Walks.{numbers_equal}
use Rattle.layout.proofs.Numbers.Bytes.{length-table, numbers_at, u32-at, bytes_four, bytes_eight, table_more}
use Rattle.layout.proofs.Files.Offsets.{table-inside}
use Rattle.layout.proofs.Files.FileWords.{words_in_order, words_long, words-whole, offset_fours}
use Rattle.layout.proofs.Files.Lengths.{refusal-lengths}

-- ---- 13, then 14

pub shape_number : (ws : List ℕ) (n : ℕ) {whole laid : Bool} → whole ≡ words_length_right ws n → laid ≡ word_tables_right ws
    → word_shape_failing ws n ≡ cond whole (cond laid 0 14) 13
shape_number ws n f g = ap₂ (λ (whole laid : Bool). cond whole (cond laid 0 14) 13) (sym f) (sym g)

-- with fewer than 20 words, check 14 fails
pub tables-short : (ws : List ℕ) → length ws < 20 → word_tables_right ws ≡ false
tables-short ws l = failed (word_tables_right ws) (λ h.
    let c = counts_in ws in
    let same : take 20 ws ≡ header_of c =
    numbers_equal (take 20 ws) (header_of c) ((and_iff (same_numbers (take 20 ws) (header_of c)) (word_gaps_zero 80 (table_sizes c) ws)).0 h).0 in
    let long : length ws ≡ 20 = ap length (sym (take_all 20 ws (omega arith)) ∙ same) in
    absurd (omega arith))

-- ---- check 14 as a walk

-- words i, i + 1, .. are the offsets of tables of sizes ks after byte a, the gaps are zero, and the word after the offsets is the end
abbrev pub stands_from : ℕ → List ℕ → ℕ → List ℕ → Bool
stands_from a [] i ws = eqb (get_or ws i 0) a
stands_from a (k ∷ ks) i ws = eqb (get_or ws i 0) (aligned a) && gap_zero a ws && stands_from (aligned a + k) ks (suc i) ws

and-all : (b : Bool) → (b && true) ≡ b
and-all true = refl
and-all false = refl

stands_same : (a : ℕ) (ks : List ℕ) (i : ℕ) (ws : List ℕ) → i + length ks < length ws
    → (same_numbers (take (suc (length ks)) (drop i ws)) (offsets_from a ks ++ (end_from a ks ∷ [])) && word_gaps_zero a ks ws) ≡ stands_from a ks i ws
stands_same a [] i ws l =
    and-all (same_numbers (take 1 (drop i ws)) (a ∷ []))
    ∙ ap (λ (r : List ℕ). same_numbers (take 1 r) (a ∷ [])) (drop-cons ws i 0 (omega arith))
    ∙ ap (λ (r : List ℕ). eqb (get_or ws i 0) a && same_numbers r []) (take_none (drop (suc i) ws))
    ∙ and-all (eqb (get_or ws i 0) a)
stands_same a (k ∷ ks) i ws l =
    let rest : List ℕ = offsets_from (aligned a + k) ks ++ (end_from (aligned a + k) ks ∷ []) in
    ap (λ (r : List ℕ). same_numbers (take (suc (suc (length ks))) r) (aligned a ∷ rest) && (gap_zero a ws && word_gaps_zero (aligned a + k) ks ws))
    (drop-cons ws i 0 (omega arith))
    ∙ and_swap (eqb (get_or ws i 0) (aligned a)) (same_numbers (take (suc (length ks)) (drop (suc i) ws)) rest) (gap_zero a ws) (word_gaps_zero (aligned a + k) ks ws)
    ∙ ap (λ (b : Bool). eqb (get_or ws i 0) (aligned a) && gap_zero a ws && b) (stands_same (aligned a + k) ks (suc i) ws (omega arith))

same_front : (xs ys zs : List ℕ) → same_numbers (xs ++ ys) (xs ++ zs) ≡ same_numbers ys zs
same_front [] ys zs = refl
same_front (x ∷ xs) ys zs = ap (λ (b : Bool). b && same_numbers (xs ++ ys) (xs ++ zs)) (passed (eqb x x) (eqb_refl x)) ∙ same_front xs ys zs

pub tables-walk : (ws : List ℕ) → 20 ≤ length ws → word_tables_right ws ≡ stands_from 80 (table_sizes (counts_in ws)) 8 ws
tables-walk ws l =
    let c = counts_in ws in
    let ks = table_sizes c in
    let after : List ℕ = take 12 (drop 8 ws) in
    let front : take 20 ws ≡ count_words c ++ after =
    take-add 8 12 ws ∙ ap (λ (r : List ℕ). r ++ after) (sym (part_at 0 ws 0 8 (omega arith))) in
    ap (λ (r : List ℕ). same_numbers r (header_of c) && word_gaps_zero 80 ks ws) front
    ∙ ap (λ (b : Bool). b && word_gaps_zero 80 ks ws) (same_front (count_words c) after (offsets_from 80 ks ++ (end_from 80 ks ∷ [])))
    ∙ stands_same 80 ks 8 ws (omega arith)

-- one table of the walk
module _ (a : ℕ) (ks : List ℕ) (ws : List ℕ) (i : ℕ) (l : i < length ks) where
  stands-step : stands_from a (drop i ks) (8 + i) ws
      ≡ (eqb (get_or ws (8 + i) 0) (aligned a) && gap_zero a ws && stands_from (aligned a + get_or ks i 0) (drop (i + 1) ks) (8 + (i + 1)) ws)
  stands-step =
      ap (λ (r : List ℕ). stands_from a r (8 + i) ws) (drop-cons ks i 0 l)
      ∙ ap₂ (λ (j at : ℕ). eqb (get_or ws (8 + i) 0) (aligned a) && gap_zero a ws && stands_from (aligned a + get_or ks i 0) (drop j ks) at ws)
      (sym (add-one i)) (omega arith)

  -- its offset is right and its gap is zero: the walk goes on at its end
  pub stands-next : get_or ws (8 + i) 0 ≡ aligned a → gap_zero a ws ≡ true
      → stands_from a (drop i ks) (8 + i) ws ≡ stands_from (aligned a + get_or ks i 0) (drop (i + 1) ks) (8 + (i + 1)) ws
  stands-next e z =
      stands-step
      ∙ ap₂ (λ (x y : Bool). x && y && stands_from (aligned a + get_or ks i 0) (drop (i + 1) ks) (8 + (i + 1)) ws)
      (ap (λ (o : ℕ). eqb o (aligned a)) e ∙ passed (eqb (aligned a) (aligned a)) (eqb_refl (aligned a))) z

  -- its offset is wrong: the walk fails
  pub stands_elsewhere : (get_or ws (8 + i) 0 ≡ aligned a → ⊥) → stands_from a (drop i ks) (8 + i) ws ≡ false
  stands_elsewhere n =
      stands-step
      ∙ ap (λ (x : Bool). x && gap_zero a ws && stands_from (aligned a + get_or ks i 0) (drop (i + 1) ks) (8 + (i + 1)) ws)
      (failed (eqb (get_or ws (8 + i) 0) (aligned a)) (λ h. n (eqb→eq (get_or ws (8 + i) 0) (aligned a) h)))

  -- the gap before it is not zero: the walk fails
  pub stands_gap : gap_zero a ws ≡ false → stands_from a (drop i ks) (8 + i) ws ≡ false
  stands_gap z =
      let here : Bool = eqb (get_or ws (8 + i) 0) (aligned a) in
      let rest : Bool = stands_from (aligned a + get_or ks i 0) (drop (i + 1) ks) (8 + (i + 1)) ws in
      stands-step ∙ and-false (here && gap_zero a ws) rest (and_right here (gap_zero a ws) z)

-- after the last table, the next word has to be the end
pub stands-done : (a : ℕ) (ks ws : List ℕ) (i : ℕ) → i ≡ length ks → stands_from a (drop i ks) (8 + i) ws ≡ eqb (get_or ws (8 + length ks) 0) a
stands-done a ks ws i e =
    ap (λ (r : List ℕ). stands_from a r (8 + i) ws) (drop_of_length-le ks {i = i} (omega arith)) ∙ ap (λ (j : ℕ). eqb (get_or ws (8 + j) 0) a) e

-- a gap: empty, outside the words, or one word
pub gap_none : (a : ℕ) (ws : List ℕ) → aligned a ≡ a → gap_zero a ws ≡ true
gap_none a ws e =
    let size : aligned a / 4 - a / 4 ≡ 0 = omega arith in
    ap (λ (k : ℕ). all (λ w. eqb w 0) (take k (drop (a / 4) ws))) size ∙ ap (all (λ w. eqb w 0)) (take_none (drop (a / 4) ws))

pub gap_outside : (a : ℕ) (ws : List ℕ) → length ws ≤ a / 4 → gap_zero a ws ≡ true
gap_outside a ws l =
    ap (λ (r : List ℕ). all (λ w. eqb w 0) (take (aligned a / 4 - a / 4) r)) (drop_of_length-le ws {i = a / 4} l)
    ∙ ap (all (λ w. eqb w 0)) (take_all {A = ℕ} (aligned a / 4 - a / 4) [] (omega arith))

pub gap_one : (a : ℕ) (ws : List ℕ) → a ≡ 4 * (a / 4) → (aligned a ≡ a → ⊥) → a / 4 < length ws → gap_zero a ws ≡ eqb (get_or ws (a / 4) 0) 0
gap_one a ws e n l =
    let size : aligned a / 4 - a / 4 ≡ 1 = one in
    ap (λ (k : ℕ). all (λ w. eqb w 0) (take k (drop (a / 4) ws))) size
    ∙ ap (λ (r : List ℕ). all (λ w. eqb w 0) (take 1 r)) (drop-cons ws (a / 4) 0 l)
    ∙ ap (λ (r : List ℕ). eqb (get_or ws (a / 4) 0) 0 && all (λ w. eqb w 0) r) (take_none (drop (suc (a / 4)) ws))
    ∙ and-all (eqb (get_or ws (a / 4) 0) 0)
  where
    one : aligned a / 4 - a / 4 ≡ 1
    one = omega (arith, e, n)

-- ---- where the tables are, once 13 and 14 have passed

offset_at : (c : HeaderCounts) (i : ℕ) → i < 11 → get_or (header_of c) (8 + i) 0 ≡ get_or (offsets_from 80 (table_sizes c)) i 0
offset_at c i l =
    let ks = table_sizes c in
    get_or-append-add (count_words c) (offsets_from 80 ks ++ (end_from 80 ks ∷ [])) i 0
    ∙ get_or-append (offsets_from 80 ks) (end_from 80 ks ∷ []) 0 i l

module _ (ws : List ℕ) (n : ℕ) (ok : word_shape_failing ws n ≡ 0) where
  pub shape_long : (length ws ≡ n / 4) × (20 ≤ length ws) × (get_or ws 19 0 ≡ n)
  shape_long = words_long ws n (Order.passed 13 (word_shape_checks ws n) tt ok)

  header-right : take 20 ws ≡ header_of (counts_in ws)
  header-right =
      let c = counts_in ws in
      numbers_equal (take 20 ws) (header_of c)
      ((and_iff (same_numbers (take 20 ws) (header_of c)) (word_gaps_zero 80 (table_sizes c) ws)).0 (Order.passed 14 (word_shape_checks ws n) tt ok)).0

  word_right : (i : ℕ) → i < 20 → get_or ws i 0 ≡ get_or (header_of (counts_in ws)) i 0
  word_right i l = sym (get_or-take 20 ws i 0 l) ∙ ap (λ (r : List ℕ). get_or r i 0) header-right

  -- table i, of k words, is inside the words, at a byte offset that is a multiple of 4
  pub table-stands : (i k : ℕ) → i < 11 → 4 * k ≡ get_or (table_sizes (counts_in ws)) i 0
      → (get_or ws (8 + i) 0 ≡ 4 * (get_or ws (8 + i) 0 / 4)) × (get_or ws (8 + i) 0 / 4 + k ≤ length ws)
  table-stands i k l z =
      let c = counts_in ws in
      let ks = table_sizes c in
      let here : get_or ws (8 + i) 0 ≡ get_or (offsets_from 80 ks) i 0 = word_right (8 + i) (omega arith) ∙ offset_at c i l in
      let end : get_or ws 19 0 ≡ end_from 80 ks = word_right 19 (lit< tt) in (
        omega (arith, offset_fours 80 ks i),
        omega (arith, offset_fours 80 ks i, table-inside 80 ks i l, shape_long.2, words-whole ws n ok),
      )

  pub length-words-at : (i k : ℕ) → i < 11 → 4 * k ≡ get_or (table_sizes (counts_in ws)) i 0 → length (words_at ws i k) ≡ k
  length-words-at i k l z =
      let o : ℕ = get_or ws (8 + i) 0 / 4 in
      let size : o + k - o ≡ k = omega arith in
      ap (λ (j : ℕ). length (take j (drop o ws))) size
      ∙ length-take-le k (drop o ws) (omega (arith, length-drop o ws, (table-stands i k l z).1))

-- ---- numbers of two words

pub length_pairs : (k : ℕ) (ws : List ℕ) → length ws ≡ 2 * k → length (pairs_of ws) ≡ k
length_pairs zero [] e = refl
length_pairs zero (w ∷ ws) e = absurd (omega arith)
length_pairs (suc k) [] e = absurd (omega arith)
length_pairs (suc k) (w ∷ []) e = absurd (omega arith)
length_pairs (suc k) (w ∷ v ∷ ws) e = ap suc (length_pairs k ws (omega arith))

-- one more number
pairs_more : (ws : List ℕ) (i : ℕ) → 2 * i + 1 < length ws
    → pairs_of (take (2 * (i + 1)) ws) ≡ pairs_of (take (2 * i) ws) ++ ((get_or ws (2 * i) 0 + 4294967296 * get_or ws (2 * i + 1) 0) ∷ [])
pairs_more [] i l = absurd (omega arith)
pairs_more (w ∷ []) i l = absurd (omega arith)
pairs_more (w ∷ v ∷ ws) zero l = ap (λ (r : List ℕ). (w + 4294967296 * v) ∷ pairs_of r) (take_none ws)
pairs_more (w ∷ v ∷ ws) (suc i) l =
    let more : 2 * (suc i + 1) ≡ suc (suc (2 * (i + 1))) = omega arith in
    let here : 2 * suc i ≡ suc (suc (2 * i)) = omega arith in
    let next : 2 * suc i + 1 ≡ suc (suc (2 * i + 1)) = omega arith in
    ap (λ (j : ℕ). pairs_of (take j (w ∷ v ∷ ws))) more
    ∙ ap (λ (r : List ℕ). (w + 4294967296 * v) ∷ r) (pairs_more ws i (omega arith))
    ∙ sym (λ j. pairs_of (take (here j) (w ∷ v ∷ ws)) ++ ((get_or (w ∷ v ∷ ws) (here j) 0 + 4294967296 * get_or (w ∷ v ∷ ws) (next j) 0) ∷ []))

-- one more number, stored after the others
pub pairs-written : (ws old : List ℕ) (i : ℕ) → 2 * i + 1 < length ws → i < length old
    → set (written (pairs_of (take (2 * i) ws)) old) i (get_or ws (2 * i) 0 + 4294967296 * get_or ws (2 * i + 1) 0)
    ≡ written (pairs_of (take (2 * (i + 1)) ws)) old
pairs-written ws old i l h =
    let xs = pairs_of (take (2 * i) ws) in
    let v = get_or ws (2 * i) 0 + 4294967296 * get_or ws (2 * i + 1) 0 in
    set-written xs old v i (sym (length_pairs i (take (2 * i) ws) (length-take-le (2 * i) ws (omega arith)))) h
    ∙ ap (λ (r : List ℕ). written r old) (sym (pairs_more ws i l))

-- ---- a table's bytes, for a loop that writes them

-- a word's four bytes stored from index a on
abbrev pub put_word : List ℕ → ℕ → ℕ → List ℕ
put_word out a v = set (set (set (set out a (v % 256)) (a + 1) (v / 256 % 256)) (a + 2) (v / 65536 % 256)) (a + 3) (v / 16777216 % 256)

pub bytes_written : (xs old : List ℕ) (i : ℕ) → i < length xs → 4 * length xs ≤ length old
    → put_word (written (table_bytes 4 (take i xs)) old) (4 * i) (get_or xs i 0) ≡ written (table_bytes 4 (take (i + 1) xs)) old
bytes_written xs old i l h =
    let v = get_or xs i 0 in
    let done = table_bytes 4 (take i xs) in
    let size : 4 * i ≡ length done = omega (arith, length-table 4 (take i xs), length-take-le i xs (omega arith)) in
    let third : 4 * i + 2 ≡ length (done ++ (v % 256 ∷ v / 256 % 256 ∷ [])) = omega (arith, length-append done (v % 256 ∷ v / 256 % 256 ∷ [])) in
    let fourth : 4 * i + 3 ≡ 4 * i + 2 + 1 = omega arith in
    ap₂ (λ (o : List ℕ) (j : ℕ). set (set o (4 * i + 2) (v / 65536 % 256)) j (v / 16777216 % 256))
    (two_more done old (v % 256) (v / 256 % 256) (4 * i) size (omega arith)) fourth
    ∙ two_more (done ++ (v % 256 ∷ v / 256 % 256 ∷ [])) old (v / 65536 % 256) (v / 16777216 % 256) (4 * i + 2) third (omega arith)
    ∙ ap (λ (r : List ℕ). written r old)
    (append_assoc done (v % 256 ∷ v / 256 % 256 ∷ []) (v / 65536 % 256 ∷ v / 16777216 % 256 ∷ [])
    ∙ sym (table_more 4 xs i l ∙ ap (λ (r : List ℕ). done ++ r) (bytes_four v)))

-- numbers as two words each, the low word first: a u64 table is written as these words
abbrev pub halves : List ℕ → List ℕ
halves [] = []
halves (v ∷ vs) = v % 4294967296 ∷ v / 4294967296 ∷ halves vs

length_halves : (vs : List ℕ) → length (halves vs) ≡ 2 * length vs
length_halves [] = refl
length_halves (v ∷ vs) = omega (arith, length_halves vs)

halves_at : (vs : List ℕ) (i : ℕ) → i < length vs
    → (get_or (halves vs) (2 * i) 0 ≡ get_or vs i 0 % 4294967296) × (get_or (halves vs) (2 * i + 1) 0 ≡ get_or vs i 0 / 4294967296)
halves_at [] i l = absurd (omega arith)
halves_at (v ∷ vs) zero l = (refl, refl)
halves_at (v ∷ vs) (suc i) l =
    let low : 2 * suc i ≡ suc (suc (2 * i)) = omega arith in
    let high : 2 * suc i + 1 ≡ suc (suc (2 * i + 1)) = omega arith in
    let rest = halves_at vs i (omega arith) in
    (ap (λ (j : ℕ). get_or (halves (v ∷ vs)) j 0) low ∙ rest.0, ap (λ (j : ℕ). get_or (halves (v ∷ vs)) j 0) high ∙ rest.1)

pub halves_back : (vs : List ℕ) → pairs_of (halves vs) ≡ vs
halves_back [] = refl
halves_back (v ∷ vs) =
    let whole : v % 4294967296 + 4294967296 * (v / 4294967296) ≡ v = omega arith in
    ap₂ (λ (x : ℕ) (r : List ℕ). x ∷ r) whole (halves_back vs)

halves_bytes : (vs : List ℕ) → table_bytes 8 vs ≡ table_bytes 4 (halves vs)
halves_bytes [] = refl
halves_bytes (v ∷ vs) =
    let low : ℕ = v % 4294967296 in
    let high : ℕ = v / 4294967296 in
    let whole : v ≡ low + 4294967296 * high = omega arith in
    ap₂ ◌++◌ (ap (bytes_of 8) whole ∙ bytes_eight low high (omega arith)) (halves_bytes vs)
    ∙ append_assoc (bytes_of 4 low) (bytes_of 4 high) (table_bytes 4 (halves vs))

pub halves_written : (vs old : List ℕ) (i : ℕ) → i < length vs → 8 * length vs ≤ length old
    → put_word (put_word (written (table_bytes 4 (take (2 * i) (halves vs))) old) (8 * i) (get_or vs i 0 % 4294967296)) (8 * i + 4) (get_or vs i 0 / 4294967296)
    ≡ written (table_bytes 4 (take (2 * (i + 1)) (halves vs))) old
halves_written vs old i l h =
    let hs = halves vs in
    let long = length_halves vs in
    let (low, high) = halves_at vs i l in
    let first : 8 * i ≡ 4 * (2 * i) = omega arith in
    let second : 8 * i + 4 ≡ 4 * (2 * i + 1) = omega arith in
    let next : 2 * i + 1 + 1 ≡ 2 * (i + 1) = omega arith in
    (λ j. put_word (put_word (written (table_bytes 4 (take (2 * i) hs)) old) (first j) (sym low j)) (second j) (sym high j))
    ∙ ap (λ (o : List ℕ). put_word o (4 * (2 * i + 1)) (get_or hs (2 * i + 1) 0)) (bytes_written hs old (2 * i) (omega arith) (omega arith))
    ∙ bytes_written hs old (2 * i + 1) (omega arith) (omega arith)
    ∙ ap (λ (k : ℕ). written (table_bytes 4 (take k hs)) old) next

pub halves_done : (vs old : List ℕ) (i : ℕ) → length vs ≤ i → written (table_bytes 4 (take (2 * i) (halves vs))) old ≡ written (table_bytes 8 vs) old
halves_done vs old i l =
    ap (λ (r : List ℕ). written r old) (ap (table_bytes 4) (take_all (2 * i) (halves vs) (omega (arith, length_halves vs))) ∙ sym (halves_bytes vs))

-- ---- the bytes of a word, for a loop that makes words

pub word_bytes : (bs : List ℕ) (i : ℕ) → i < length bs / 4 → get_or (file_words bs) i 0
    ≡ get_or bs (4 * i) 0 + 256 * get_or bs (4 * i + 1) 0 + 65536 * get_or bs (4 * i + 2) 0 + 16777216 * get_or bs (4 * i + 3) 0
word_bytes bs i l = numbers_at 4 (length bs / 4) i bs 0 l ∙ u32-at bs (4 * i) (omega arith)

-- ---- checks 1 to 7 on the words

-- they do not depend on the values
words-checks : (ws : List ℕ) (n : ℕ) → word_shape_failing ws n ≡ 0 → problem_refusal (problem_of (word_tables ws)) ≡ problem_refusal (unvalued_problem ws)
words-checks ws n ok =
    let c = counts_in ws in
    let count : (i k : ℕ) → i < 11 → 8 * k ≡ get_or (table_sizes c) i 0
    → length (floats (pairs_of (words_at ws i (2 * k)))) ≡ length (unvalued k) = λ i k l z.
    length-map (pairs_of (words_at ws i (2 * k))) (of_bits binary64)
    ∙ length_pairs k (words_at ws i (2 * k)) (length-words-at ws n ok i (2 * k) l (omega arith)) ∙ sym (length-replicate k nan) in
    refusal-lengths c.n c.m (words_at ws 0 (suc c.n)) (words_at ws 1 c.entries_p)
    (floats (pairs_of (words_at ws 2 (2 * c.entries_p)))) (unvalued c.entries_p) (floats (pairs_of (words_at ws 3 (2 * c.n)))) (unvalued c.n)
    (words_at ws 4 (suc c.n)) (words_at ws 5 c.entries_a)
    (floats (pairs_of (words_at ws 6 (2 * c.entries_a)))) (unvalued c.entries_a) (floats (pairs_of (words_at ws 7 (2 * c.m)))) (unvalued c.m)
    (words_at ws 8 (3 * c.cones)) (floats (pairs_of (words_at ws 9 (2 * c.alphas)))) (unvalued c.alphas) c.patterns (words_at ws 10 c.words)
    (count 2 c.entries_p (lit< tt) refl) (count 3 c.n (lit< tt) refl) (count 6 c.entries_a (lit< tt) refl)
    (count 7 c.m (lit< tt) refl) (count 9 c.alphas (lit< tt) refl)

-- so the reader's refusal number is 13 or 14, or that of checks 1 to 7 on parts of the words
pub words-unvalued : (ws : List ℕ) (n : ℕ) → words_failing ws n ≡ or_else (word_shape_failing ws n) (problem_refusal (unvalued_problem ws))
words-unvalued ws n =
    words_in_order ws n
    ∙ or_else_same (word_shape_failing ws n) (problem_refusal (problem_of (word_tables ws))) (problem_refusal (unvalued_problem ws)) (words-checks ws n)
