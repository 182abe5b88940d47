-- The reader of a problem file (document 02, Q-2), over the file's words: its refusal number, its results and its contract. Floats are given as
-- bit patterns.
use Rattle.std.specs.Prelude.{ℕ, ◌≡◌, cond, List, [], ◌∷◌, length}
use Rattle.layout.specs.Files.File.{HeaderCounts, count_words, counts_in, counted_lengths, BitTables}
use Rattle.layout.specs.Files.FileWords.{word_tables, words_failing}
use Rattle.layout.specs.Calls.Answers.{output, or_else, roomy}

-- the twelve outputs: the eight counts of the header, then the tables in the file's order
pub record FileOutputs : Type 0 where
  pub counts : List ℕ
  pub p_starts : List ℕ
  pub p_rows : List ℕ
  pub p_values : List ℕ
  pub q : List ℕ
  pub a_starts : List ℕ
  pub a_rows : List ℕ
  pub a_values : List ℕ
  pub b : List ℕ
  pub cones : List ℕ
  pub alphas : List ℕ
  pub pattern_words : List ℕ

abbrev pub file_outputs : List ℕ → List ℕ → List ℕ → List ℕ → List ℕ → List ℕ → List ℕ → List ℕ → List ℕ → List ℕ → List ℕ → List ℕ → FileOutputs
file_outputs counts p_starts p_rows p_values q a_starts a_rows a_values b cones alphas words = record {
  counts = counts;
  p_starts = p_starts;
  p_rows = p_rows;
  p_values = p_values;
  q = q;
  a_starts = a_starts;
  a_rows = a_rows;
  a_values = a_values;
  b = b;
  cones = cones;
  alphas = alphas;
  pattern_words = words;
}

-- the length of each output
abbrev pub file_rooms : FileOutputs → List ℕ
file_rooms o =
    length o.counts ∷ length o.p_starts ∷ length o.p_rows ∷ length o.p_values ∷ length o.q
    ∷ length o.a_starts ∷ length o.a_rows ∷ length o.a_values ∷ length o.b
    ∷ length o.cones ∷ length o.alphas ∷ length o.pattern_words ∷ []

-- the outputs for a file's counts and tables
abbrev pub outputs_of : HeaderCounts → BitTables → FileOutputs
outputs_of c t =
    file_outputs (count_words c) t.p_starts t.p_rows t.p_values t.q t.a_starts t.a_rows t.a_values t.b t.cones t.alphas t.pattern_words

-- each table of `new` at the start of its output where the refusal number is 0; otherwise each output is unchanged
pub record HoldsFile (r : ℕ) (new before after : FileOutputs) : Type 0 where
  pub counts : after.counts ≡ output r new.counts before.counts
  pub p_starts : after.p_starts ≡ output r new.p_starts before.p_starts
  pub p_rows : after.p_rows ≡ output r new.p_rows before.p_rows
  pub p_values : after.p_values ≡ output r new.p_values before.p_values
  pub q : after.q ≡ output r new.q before.q
  pub a_starts : after.a_starts ≡ output r new.a_starts before.a_starts
  pub a_rows : after.a_rows ≡ output r new.a_rows before.a_rows
  pub a_values : after.a_values ≡ output r new.a_values before.a_values
  pub b : after.b ≡ output r new.b before.b
  pub cones : after.cones ≡ output r new.cones before.cones
  pub alphas : after.alphas ≡ output r new.alphas before.alphas
  pub pattern_words : after.pattern_words ≡ output r new.pattern_words before.pattern_words

-- the refusal number of the reader; `rooms` has the lengths of the outputs: the eight counts, then each table in the file's order
abbrev pub read_words_refusal : List ℕ → ℕ → List ℕ → ℕ
read_words_refusal ws bytes rooms = or_else (words_failing ws bytes) (cond (roomy (8 ∷ counted_lengths (counts_in ws)) rooms) 0 11)

-- the words of a file of `bytes` bytes
pub record ReadFile (words : List ℕ) (bytes : ℕ) (before after : FileOutputs) (r : ℕ) : Type 0 where
  pub number : r ≡ read_words_refusal words bytes (file_rooms before)
  pub tables : HoldsFile r (outputs_of (counts_in words) (word_tables words)) before after
