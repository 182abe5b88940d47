-- The tables of the compact problem, from the pieces that their writer is passed.
use Prim.Native.Nat.{ℕ, suc, ◌+◌, ◌-◌, ◌*◌, ◌/◌, ◌≤◌}
use native.Mathlib.Omega.{arith}
use mathlib.Core.Path.{◌≡◌, refl, sym, ap, ap₂, subst, ◌∙◌}
use mathlib.Core.Bool.{Bool, cond}
use mathlib.Core.List.{List, ◌++◌}
use borrow.Author.Tests.{le-leb}
use lib.ListN.{length, get_or, take, replicate, length-append, length-replicate}
use lib.Dec.{lit<}
use Rattle.layout.specs.General.Lists.{written}
use Rattle.layout.specs.Calls.Answers.{or_else, room_refusal, output, problem_refusal}
use Rattle.layout.specs.Files.File.{bit_tables, BitTables, problem_of, file_of}
use Rattle.layout.specs.Files.FileWords.{pairs_of, words_at, word_tables}
use Rattle.layout.specs.Calls.WriteFile.{WriteFile, write_refusal}
use Rattle.layout.proofs.Lists.Buffers.{take_none}
use Rattle.layout.proofs.Files.FileWalks.{length-words-at, length_pairs}
use Rattle.file_shape.specs.Parts.{WellShaped}
use Rattle.file_views.specs.Views.{table_words}
use Rattle.file_views.proofs.Doubles.{table-words, table-pairs}
use Rattle.compact_tables.specs.Writers.{extended_tables, Extends}
use Rattle.compact_tables.proofs.Fronts.{front, front_zeros}

module _ (ws : List ℕ) (ok : WellShaped ws) where
  stored : length (word_tables ws).p_values ≡ get_or ws 2 0
  stored = length_pairs (get_or ws 2 0) (words_at ws 2 (2 * get_or ws 2 0)) (length-words-at ws (4 * length ws) ok 2 (2 * get_or ws 2 0) (lit< tt) (omega arith))

  pub starts-count : {src : List ℕ} → src ≡ table_words ws 0 → length src ≡ suc (get_or ws 0 0)
  starts-count e =
      ap length (e ∙ table-words ws 0 (suc (get_or ws 0 0)) refl) ∙ length-words-at ws (4 * length ws) ok 0 (suc (get_or ws 0 0)) (lit< tt) refl

  -- P's starts, followed by those of the empty columns
  pub starts-extended : (columns : ℕ) {n : ℕ} {src : List ℕ} (old : List ℕ) {out : List ℕ} → n ≡ (word_tables ws).n → src ≡ table_words ws 0 → n ≤ columns
      → out ≡ written (src ++ replicate (columns - n) (get_or ws 2 0)) old
      → take (columns + 1) out ≡ (word_tables ws).p_starts ++ replicate (columns - (word_tables ws).n) (length (word_tables ws).p_values)
  starts-extended columns {n} {src} old n= src= l h =
      let same : src ≡ (word_tables ws).p_starts = src= ∙ table-words ws 0 (suc (get_or ws 0 0)) refl in
      front (src ++ replicate (columns - n) (get_or ws 2 0)) old (columns + 1) h
      (omega (arith, length-append src (replicate (columns - n) (get_or ws 2 0)), length-replicate {A = ℕ} (columns - n) (get_or ws 2 0), starts-count src=, n=))
      ∙ (λ i. same i ++ replicate (columns - n= i) (sym stored i))

  -- the words of q
  cost_words : {src : List ℕ} → src ≡ table_words ws 3 → length src ≡ 2 * get_or ws 0 0
  cost_words e =
      ap length (e ∙ table-words ws 3 (2 * get_or ws 0 0) (omega arith))
      ∙ length-words-at ws (4 * length ws) ok 3 (2 * get_or ws 0 0) (lit< tt) (omega arith)

  -- they are a whole number of doubles, for which there is room
  pub costs_fit : {src : List ℕ} (room : ℕ) → src ≡ table_words ws 3 → get_or ws 0 0 ≤ room → (length src ≡ 2 * (length src / 2)) × (length src / 2 ≤ room)
  costs_fit room e l = (omega (arith, cost_words e), omega (arith, cost_words e))

  -- q followed by zeros
  pub costs-extended : (columns : ℕ) {n room : ℕ} {src out : List ℕ} → n ≡ (word_tables ws).n → src ≡ table_words ws 3 → n ≤ columns → columns ≤ room
      → out ≡ written (pairs_of src) (replicate room 0)
      → take columns out ≡ (word_tables ws).q ++ replicate (columns - (word_tables ws).n) 0
  costs-extended columns {n} {room} {src} {out} n= src= l few h =
      let same : pairs_of src ≡ (word_tables ws).q = ap pairs_of src= ∙ table-pairs ws 3 (get_or ws 0 0) refl in
      let size : length (pairs_of src) ≡ get_or ws 0 0 = length_pairs (get_or ws 0 0) src (cost_words src=) in
      let split : columns ≡ length (pairs_of src) + (columns - n) = omega (arith, n=) in
      ap (λ (j : ℕ). take j out) split ∙ front_zeros (pairs_of src) (columns - n) room (omega arith) h ∙ (λ i. same i ++ replicate (columns - n= i) 0)

  -- all tables together
  pub extended-given : (columns : ℕ) (a_starts a_rows a_values b cones : List ℕ) {p_starts p_rows p_values q alphas : List ℕ}
      → p_starts ≡ (word_tables ws).p_starts ++ replicate (columns - (word_tables ws).n) (length (word_tables ws).p_values)
      → p_rows ≡ table_words ws 1 → p_values ≡ pairs_of (table_words ws 2) → q ≡ (word_tables ws).q ++ replicate (columns - (word_tables ws).n) 0
      → alphas ≡ pairs_of (table_words ws 9)
      → bit_tables columns (length b) p_starts p_rows p_values q a_starts a_rows a_values b cones alphas 0 (take 0 ws)
      ≡ extended_tables (word_tables ws) columns a_starts a_rows a_values b cones
  extended-given columns a_starts a_rows a_values b cones starts= rows= values= q= alphas= =
      let e1 = rows= ∙ table-words ws 1 (get_or ws 2 0) refl in
      let e2 = values= ∙ table-pairs ws 2 (get_or ws 2 0) refl in
      let e9 = alphas= ∙ table-pairs ws 9 (get_or ws 5 0) refl in
      λ i. bit_tables columns (length b) (starts= i) (e1 i) (e2 i) (q= i) a_starts a_rows a_values b cones (e9 i) 0 (take_none ws i)

pub extends_as : {t : BitTables} {columns : ℕ} {a_starts a_rows values values' b b' cones : List ℕ} → values ≡ values' → b ≡ b'
    → Extends t columns a_starts a_rows values' b' cones → Extends t columns a_starts a_rows values b cones
extends_as {t} {columns} {a_starts} {a_rows} {values} {values'} {b} {b'} {cones} e f h =
    subst (λ (y : List ℕ). Extends t columns a_starts a_rows values y cones) (sym f)
    (subst (λ (x : List ℕ). Extends t columns a_starts a_rows x b' cones) (sym e) h)

-- ---- writing the file of tables that are not refused

pub file_written : (t : BitTables) {u : BitTables} (before : List ℕ) {after : List ℕ} {r : ℕ} → u ≡ t → WriteFile u before after r
    → problem_refusal (problem_of t) ≡ 0 → length (file_of t) ≤ length before → after ≡ written (file_of t) before
file_written t before e h passes room =
    let none : write_refusal t (length before) ≡ 0 =
    ap (λ (k : ℕ). or_else k (room_refusal (length (file_of t)) (length before))) passes
    ∙ ap (λ (b : Bool). cond b 0 11) (le-leb (length (file_of t)) (length before) room) in
    let zero = h.number ∙ ap (λ (v : BitTables). write_refusal v (length before)) e ∙ none in
    h.out ∙ ap₂ (λ (k : ℕ) (v : BitTables). output k (file_of v) before) zero e
