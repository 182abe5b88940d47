-- Problem files on written outputs: a file that the writer wrote is read back as the same tables, and an accepted file that is
-- written again has the same bytes, from the contracts of the three calls alone.
use Prim.Native.Nat.{ℕ, suc, ◌*◌, ◌/◌, ◌<◌}
use native.Mathlib.Omega.{arith}
use mathlib.Core.Path.{◌≡◌, refl, sym, ap, ap₂, subst, ◌∙◌}
use mathlib.Core.Bool.{Bool, cond}
use mathlib.Core.List.{List, ◌∷◌}
use lib.ListN.{length, get_or, take}
use lib.Dec.{lit<}
use Rattle.layout.specs.General.Lists.{Below, written}
use Rattle.layout.specs.Calls.Answers.{output, or_else, room_refusal, roomy, problem_refusal}
use Rattle.layout.specs.Files.File.{HeaderCounts, counts_in, counted_lengths, table_sizes, BitTables, bit_tables, problem_of, Fit, counts_of, file_of, file_tables, file_failing}
use Rattle.layout.specs.Files.FileWords.{file_words, pairs_of, words_at, word_tables, word_shape_failing, words_failing}
use Rattle.layout.specs.Calls.FileWords.{FileWords}
use Rattle.layout.specs.Calls.ReadFile.{FileOutputs, file_rooms, ReadFile}
use Rattle.layout.specs.Calls.WriteFile.{WriteFile, write_refusal}
use Rattle.layout.specs.Written.FileWritten.{tables_at}
use Rattle.layout.proofs.Checks.Order.{or_else-zero}
use Rattle.layout.proofs.Lists.Buffers.{front_read}
use Rattle.layout.proofs.Theorems.File.{written-length, written-again, read_again, read_passed}
use Rattle.layout.proofs.Files.FileWords.{words-length, words-tables, words_in_order, words-refusal, words_back}
use Rattle.layout.proofs.Files.FileWalks.{length-words-at, length_pairs}

-- the prefix of length k of an output that xs is written to
front : (xs old : List ℕ) {out : List ℕ} (k : ℕ) → length xs ≡ k → out ≡ written xs old → take k out ≡ xs
front xs old {out} k e h = ap (λ (j : ℕ). take j out) (sym e) ∙ front_read xs old h

-- where 13 and 14 pass, the tables in the words have the lengths that the counts give
module _ (ws : List ℕ) (n : ℕ) (ok : word_shape_failing ws n ≡ 0) where
  abbrev c : HeaderCounts
  c = counts_in ws

  doubles : (i k : ℕ) → i < 11 → 8 * k ≡ get_or (table_sizes (counts_in ws)) i 0 → length (pairs_of (words_at ws i (2 * k))) ≡ k
  doubles i k l z = length_pairs k (words_at ws i (2 * k)) (length-words-at ws n ok i (2 * k) l (omega arith))

  words-counts : counts_of (word_tables ws) ≡ counts_in ws
  words-counts =
      let third : length (words_at ws 8 (3 * c.cones)) / 3 ≡ c.cones = omega (arith, length-words-at ws n ok 8 (3 * c.cones) (lit< tt) refl) in
      λ i. record {
        n = c.n;
        m = c.m;
        entries_p = doubles 2 c.entries_p (lit< tt) refl i;
        entries_a = doubles 6 c.entries_a (lit< tt) refl i;
        cones = third i;
        alphas = doubles 9 c.alphas (lit< tt) refl i;
        patterns = c.patterns;
        words = length-words-at ws n ok 10 c.words (lit< tt) refl i;
      }

-- where the reader returns 0, no check of the words fails
read-accepted : (ws : List ℕ) (n : ℕ) (b : Bool) → or_else (words_failing ws n) (cond b 0 11) ≡ 0 → (words_failing ws n ≡ 0) × (word_shape_failing ws n ≡ 0)
read-accepted ws n b e =
    let ok = ((or_else-zero (words_failing ws n) (cond b 0 11)).0 e).0 in
    (ok, ((or_else-zero (word_shape_failing ws n) (problem_refusal (problem_of (word_tables ws)))).0 (sym (words_in_order ws n) ∙ ok)).0)

-- the outputs of a reader that refuses nothing contain the tables
read_front : (ws : List ℕ) (n : ℕ) {before after : FileOutputs} → ReadFile ws n before after 0 → tables_at after ≡ word_tables ws
read_front ws n {before} {after} call =
    let c = counts_in ws in
    let t = call.tables in
    let ok = (read-accepted ws n (roomy (8 ∷ counted_lengths c) (file_rooms before)) (sym call.number)).1 in
    let counts : counts_in after.counts ≡ c = ap counts_in t.counts in
    let at : HeaderCounts → BitTables = λ d.
    bit_tables d.n d.m
    (take (suc d.n) after.p_starts) (take d.entries_p after.p_rows) (take d.entries_p after.p_values) (take d.n after.q)
    (take (suc d.n) after.a_starts) (take d.entries_a after.a_rows) (take d.entries_a after.a_values) (take d.m after.b)
    (take (3 * d.cones) after.cones) (take d.alphas after.alphas) d.patterns (take d.words after.pattern_words) in
    ap at counts
    ∙ (λ i.
    bit_tables c.n c.m
    (front (words_at ws 0 (suc c.n)) before.p_starts (suc c.n) (length-words-at ws n ok 0 (suc c.n) (lit< tt) refl) t.p_starts i)
    (front (words_at ws 1 c.entries_p) before.p_rows c.entries_p (length-words-at ws n ok 1 c.entries_p (lit< tt) refl) t.p_rows i)
    (front (pairs_of (words_at ws 2 (2 * c.entries_p))) before.p_values c.entries_p (doubles ws n ok 2 c.entries_p (lit< tt) refl) t.p_values i)
    (front (pairs_of (words_at ws 3 (2 * c.n))) before.q c.n (doubles ws n ok 3 c.n (lit< tt) refl) t.q i)
    (front (words_at ws 4 (suc c.n)) before.a_starts (suc c.n) (length-words-at ws n ok 4 (suc c.n) (lit< tt) refl) t.a_starts i)
    (front (words_at ws 5 c.entries_a) before.a_rows c.entries_a (length-words-at ws n ok 5 c.entries_a (lit< tt) refl) t.a_rows i)
    (front (pairs_of (words_at ws 6 (2 * c.entries_a))) before.a_values c.entries_a (doubles ws n ok 6 c.entries_a (lit< tt) refl) t.a_values i)
    (front (pairs_of (words_at ws 7 (2 * c.m))) before.b c.m (doubles ws n ok 7 c.m (lit< tt) refl) t.b i)
    (front (words_at ws 8 (3 * c.cones)) before.cones (3 * c.cones) (length-words-at ws n ok 8 (3 * c.cones) (lit< tt) refl) t.cones i)
    (front (pairs_of (words_at ws 9 (2 * c.alphas))) before.alphas c.alphas (doubles ws n ok 9 c.alphas (lit< tt) refl) t.alphas i)
    c.patterns
    (front (words_at ws 10 c.words) before.pattern_words c.words (length-words-at ws n ok 10 c.words (lit< tt) refl) t.pattern_words i))

-- the prefix of the output is the file's words
words_front : (file : List ℕ) {before after : List ℕ} → FileWords file before after 0 → take (length file / 4) after ≡ file_words file
words_front file {before} call = front (file_words file) before (length file / 4) (words-length file) call.out

-- where the writer refuses nothing, the prefix of its output is the file, and the file's length fits a u32
file_front : (t : BitTables) {before after : List ℕ} → WriteFile t before after 0 → take (length (file_of t)) after ≡ file_of t
file_front t {before} call = front_read (file_of t) before call.out

pub write_accepted : (t : BitTables) {before after : List ℕ} → WriteFile t before after 0 → (problem_refusal (problem_of t) ≡ 0) × (length (file_of t) < 4294967296)
write_accepted t {before} call =
    let ok = ((or_else-zero (problem_refusal (problem_of t)) (room_refusal (length (file_of t)) (length before))).0 (sym call.number)).0 in
    (ok, (written-length t ok).1)

-- Where the writer returns 0, the reader refuses its file only where an output is too short, and where the reader also returns 0, its
-- outputs contain the same tables.
pub file_back : (t : BitTables) {out₀ out ws₀ ws : List ℕ} {before after : FileOutputs} (r : ℕ) → Fit t → WriteFile t out₀ out 0
    → let file = take (length (file_of t)) out in
    FileWords file ws₀ ws 0 → ReadFile (take (length file / 4) ws) (length file) before after r
    → (r ≡ cond (roomy (8 ∷ counted_lengths (counts_of t)) (file_rooms before)) 0 11) × (r ≡ 0 → tables_at after ≡ t)
file_back t {out₀} {out} {ws₀} {ws} {before} {after} r fit wrote turned call =
    let file = take (length (file_of t)) out in
    let same = file_front t wrote in
    let (back, accepted) = words_back t fit (write_accepted t wrote).0 in
    let words : take (length file / 4) ws ≡ file_words (file_of t) = words_front file turned ∙ ap file_words same in
    let read : ReadFile (file_words (file_of t)) (length (file_of t)) before after r =
    subst (λ (l : List ℕ). ReadFile l (length (file_of t)) before after r) words
    (subst (λ (k : ℕ). ReadFile (take (length file / 4) ws) k before after r) (ap length same) call) in
    let shape = ((or_else-zero (word_shape_failing (file_words (file_of t)) (length (file_of t))) (problem_refusal (problem_of (word_tables (file_words (file_of t)))))).0
    (sym (words_in_order (file_words (file_of t)) (length (file_of t))) ∙ accepted)).0 in
    let counts : counts_in (file_words (file_of t)) ≡ counts_of t = sym (words-counts (file_words (file_of t)) (length (file_of t)) shape) ∙ ap counts_of back in (
      read.number ∙ ap₂ (λ (a : ℕ) (d : HeaderCounts). or_else a (cond (roomy (8 ∷ counted_lengths d) (file_rooms before)) 0 11)) accepted counts,
      λ z. read_front (file_words (file_of t)) (length (file_of t)) (subst (ReadFile (file_words (file_of t)) (length (file_of t)) before after) z read) ∙ back,
    )

-- Where the reader returns 0, the writer refuses the tables that were read only where its output is too short, and where the writer
-- also returns 0, its output contains the same bytes.
pub file_again : (file : List ℕ) {ws₀ ws out₀ out : List ℕ} {before after : FileOutputs} (r : ℕ) → Below 256 file → FileWords file ws₀ ws 0
    → ReadFile (take (length file / 4) ws) (length file) before after 0 → WriteFile (tables_at after) out₀ out r
    → (r ≡ room_refusal (length file) (length out₀)) × (r ≡ 0 → take (length file) out ≡ file)
file_again file {ws₀} {ws} {out₀} {out} {before} {after} r bytes turned call wrote =
    let read : ReadFile (file_words file) (length file) before after 0 =
    subst (λ (l : List ℕ). ReadFile l (length file) before after 0) (words_front file turned) call in
    let accepted : file_failing file ≡ 0 =
    sym (words-refusal file bytes)
    ∙ (read-accepted (file_words file) (length file) (roomy (8 ∷ counted_lengths (counts_in (file_words file))) (file_rooms before)) (sym read.number)).0 in
    let same : tables_at after ≡ file_tables file =
    read_front (file_words file) (length file) read ∙ words-tables file bytes (read_passed file accepted).0 in
    let again : file_of (tables_at after) ≡ file = ap file_of same ∙ read_again file bytes accepted in (
      wrote.number ∙ ap (λ (t : BitTables). write_refusal t (length out₀)) same ∙ written-again file (length out₀) bytes accepted,
      λ z.
          front file out₀ (length file) refl
          (wrote.out ∙ ap₂ (λ (k : ℕ) (f : List ℕ). output k f out₀) z again),
    )
