-- The tables passed to the writer: checks 1 to 7 depend on float tables only by their lengths, and the header of accepted tables follows
-- from the lengths.
use Prim.Native.Nat.{ℕ, ◌<◌}
use native.Mathlib.Omega.{arith}
use mathlib.Core.Path.{◌≡◌, sym, ap, subst, ◌∙◌}
use mathlib.Core.List.{List, [], ◌∷◌}
use lib.ListN.{length, length-map, length-replicate}
use lib.Ieee.{binary64, of_bits, nan}
use Rattle.layout.specs.General.Floats.{floats}
use Rattle.layout.specs.Problems.Problem.{Problem, problem}
use Rattle.layout.specs.Calls.Answers.{problem_refusal}
use Rattle.layout.specs.Files.File.{widths, products, counted_lengths, table_sizes, end_from, BitTables, problem_of, counts_of}
use Rattle.layout.specs.Files.FileWords.{unvalued}
use Rattle.layout.proofs.Checks.Accepted.{problem_checked}
use Rattle.layout.proofs.Theorems.File.{Shaped, checked_shaped, FewCounts, checked_counts, few_end}
use Rattle.layout.proofs.Files.Lengths.{refusal-lengths}

-- the problem of the tables with all floats left out, only their number kept
abbrev unvalued_of : BitTables → Problem
unvalued_of t =
    problem t.n t.m t.p_starts t.p_rows (unvalued (length t.p_values)) (unvalued (length t.q))
    t.a_starts t.a_rows (unvalued (length t.a_values)) (unvalued (length t.b)) t.cones (unvalued (length t.alphas)) t.pattern_count t.pattern_words

pub tables-refusal : (t : BitTables) → problem_refusal (unvalued_of t) ≡ problem_refusal (problem_of t)
tables-refusal t =
    let as_many : (xs : List ℕ) → length (unvalued (length xs)) ≡ length (floats xs) = λ xs.
    length-replicate (length xs) nan ∙ sym (length-map xs (of_bits binary64)) in
    refusal-lengths t.n t.m t.p_starts t.p_rows (unvalued (length t.p_values)) (floats t.p_values) (unvalued (length t.q)) (floats t.q)
    t.a_starts t.a_rows (unvalued (length t.a_values)) (floats t.a_values) (unvalued (length t.b)) (floats t.b)
    t.cones (unvalued (length t.alphas)) (floats t.alphas) t.pattern_count t.pattern_words
    (as_many t.p_values) (as_many t.q) (as_many t.a_values) (as_many t.b) (as_many t.alphas)

-- the length of each table
abbrev lengths_of : BitTables → List ℕ
lengths_of t =
    length t.p_starts ∷ length t.p_rows ∷ length t.p_values ∷ length t.q
    ∷ length t.a_starts ∷ length t.a_rows ∷ length t.a_values ∷ length t.b
    ∷ length t.cones ∷ length t.alphas ∷ length t.pattern_words ∷ []

pub record FewNumbers (t : BitTables) : Type 0 where
  pub p_starts : length t.p_starts < 4294967296
  pub p_rows : length t.p_rows < 4294967296
  pub p_values : length t.p_values < 4294967296
  pub q : length t.q < 4294967296
  pub a_starts : length t.a_starts < 4294967296
  pub a_rows : length t.a_rows < 4294967296
  pub a_values : length t.a_values < 4294967296
  pub b : length t.b < 4294967296
  pub cones : length t.cones < 4294967296
  pub alphas : length t.alphas < 4294967296
  pub pattern_words : length t.pattern_words < 4294967296

module _ (t : BitTables) (ok : problem_refusal (problem_of t) ≡ 0) where
  shaped : Shaped t
  shaped = checked_shaped t (problem_checked (problem_of t) ok)

  few : FewCounts (counts_of t)
  few = checked_counts t (problem_checked (problem_of t) ok)

  pub few_numbers : FewNumbers t
  few_numbers = record {
    p_starts = omega (arith, shaped.p_starts, few.n);
    p_rows = omega (arith, shaped.p_rows, few.entries_p);
    p_values = omega (arith, few.entries_p);
    q = omega (arith, shaped.q, few.n);
    a_starts = omega (arith, shaped.a_starts, few.n);
    a_rows = omega (arith, shaped.a_rows, few.entries_a);
    a_values = omega (arith, few.entries_a);
    b = omega (arith, shaped.b, few.m);
    cones = omega (arith, shaped.cones, few.cones);
    alphas = omega (arith, few.alphas);
    pattern_words = omega (arith, few.words);
  }

  -- the lengths are those that the counts give
  counted : lengths_of t ≡ counted_lengths (counts_of t)
  counted = λ i.
      shaped.p_starts i ∷ shaped.p_rows i ∷ length t.p_values ∷ shaped.q i
      ∷ shaped.a_starts i ∷ shaped.a_rows i ∷ length t.a_values ∷ shaped.b i
      ∷ shaped.cones i ∷ length t.alphas ∷ length t.pattern_words ∷ []

  pub sizes_counted : products widths (lengths_of t) ≡ table_sizes (counts_of t)
  sizes_counted = ap (products widths) counted

  pub end_fits : end_from 80 (products widths (lengths_of t)) < 4294967296
  end_fits = subst (λ (ks : List ℕ). end_from 80 ks < 4294967296) (sym sizes_counted) (few_end (counts_of t) few)
