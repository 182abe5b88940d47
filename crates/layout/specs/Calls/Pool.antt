-- The pool (document 02, Q-11): two problems over the same unknowns as one, the first's rows above the second's. Its refusal number, its
-- results and its contract.
use Rattle.std.specs.Prelude.{ℕ, ◌+◌, cond, List, [], ◌∷◌, ◌++◌, map, length, replicate, eqb, ◌≡◌}
use Rattle.layout.specs.General.Lists.{below, up_from, join}
use Rattle.layout.specs.General.Floats.{zero64}
use Rattle.layout.specs.Problems.Problem.{Problem, table_lengths, Csc, compact}
use Rattle.layout.specs.Problems.Cones.{records}
use Rattle.layout.specs.Problems.Patterns.{Pattern, patterns, pattern_words_of}
use Rattle.layout.specs.Rows.Blocks.{block_row_count, overlap_count}
use Rattle.layout.specs.Checks.{Check, check, first_failing, layout, problem_checks}
use Rattle.layout.specs.Cuts.Compact.{Entry, column, csc, extended_p, MapEntry, whole_cone, block_of, no_pattern_number}
use Rattle.layout.specs.Calls.Answers.{or_else, roomy}
use Rattle.layout.specs.Calls.Cut.{Augmented, augmented}
use Rattle.layout.specs.Calls.Tables.{Tables, tables_of, table_rooms, HoldsTables}

-- ---- the pool

-- entries with their rows raised by k
abbrev pub raised_entries : ℕ → List Entry → List Entry
raised_entries k es = map (λ (e : Entry). record { row = k + e.row; value = e.value }) es

-- the n columns of M, each above the same column of N, whose rows are raised by k
abbrev pub stacked_columns : ℕ → ℕ → Csc → Csc → List (List Entry)
stacked_columns n k M N = map (λ c. column M c ++ raised_entries k (column N c)) (below n)

-- a pattern with its orig_index raised by k
abbrev pub raised_pattern : ℕ → Pattern → Pattern
raised_pattern k p = record { orig_index = k + p.orig_index; vertex_count = p.vertex_count; ordering = p.ordering; cliques = p.cliques }

-- the words of patterns with each orig_index raised by k
abbrev pub raised_words : ℕ → List Pattern → List ℕ
raised_words k ps = join pattern_words_of (map (raised_pattern k) ps)

-- A over A, b over b; cones, α and patterns one after the other; n, P and q are the first's
abbrev pub pool : Problem → Problem → Problem
pool one two = record {
  n = one.n;
  m = one.m + two.m;
  P = one.P;
  q = one.q;
  A = csc (stacked_columns one.n one.m one.A two.A);
  b = one.b ++ two.b;
  cones = one.cones ++ two.cones;
  alphas = one.alphas ++ two.alphas;
  pattern_count = one.pattern_count + two.pattern_count;
  pattern_words = one.pattern_words ++ raised_words (length (records one.cones)) (patterns two.pattern_count two.pattern_words);
}

-- ---- the call

-- checks 1 to 7 of the first, then of the second, 17 where their n differ, then checks 1 to 7 of the pool
abbrev pub pool_checks : Problem → Problem → List Check
pool_checks one two = problem_checks one ++ (problem_checks two ++ (check 17 (eqb one.n two.n) ∷ problem_checks (pool one two)))

-- the call's refusal number; `rooms` has the length of each output
abbrev pub pool_refusal : Problem → Problem → List ℕ → ℕ
pool_refusal one two rooms = or_else (first_failing (pool_checks one two)) (cond (roomy (table_lengths (pool one two)) rooms) 0 11)

-- ---- what the compact cut gives

-- the second problem's cone map entry in the pool, where the first has k cones, t patterns and a augmented rows
abbrev pub raised_map_entry : ℕ → ℕ → ℕ → MapEntry → MapEntry
raised_map_entry k t a (whole_cone i first rows) = whole_cone (k + i) (a + first) rows
raised_map_entry k t a (block_of i j c first rows) = block_of (k + i) (t + j) c (a + first) rows

-- the same on a cone map's words, five for each entry: the no-pattern mark stays
abbrev raised_number : ℕ → ℕ → ℕ
raised_number t j = cond (eqb j no_pattern_number) no_pattern_number (t + j)

abbrev pub raised_map_words : ℕ → ℕ → ℕ → List ℕ → List ℕ
raised_map_words k t a [] = []
raised_map_words k t a (i ∷ []) = []
raised_map_words k t a (i ∷ j ∷ []) = []
raised_map_words k t a (i ∷ j ∷ c ∷ []) = []
raised_map_words k t a (i ∷ j ∷ c ∷ first ∷ []) = []
raised_map_words k t a (i ∷ j ∷ c ∷ first ∷ rows ∷ ws) = (k + i) ∷ raised_number t j ∷ c ∷ (a + first) ∷ rows ∷ raised_map_words k t a ws

-- the k columns of M from column n on
abbrev pub columns_from : ℕ → ℕ → Csc → List (List Entry)
columns_from n k M = map (column M) (up_from n k)

-- the compact cut of a pool, from the compact cuts of both problems: the first's rows above the second's, the first's overlap columns
-- before the second's; in the cone map the second's entries follow the first's, raised
abbrev pub pooled_of : Problem → Problem → Augmented → Augmented → Augmented
pooled_of one two first second =
    let rows = block_row_count (layout one) in
    let added = overlap_count (layout one) + overlap_count (layout two) in
    record {
      P = extended_p added one.P;
      q = one.q ++ replicate added zero64;
      A = csc (stacked_columns one.n rows first.A second.A
          ++ (columns_from one.n (overlap_count (layout one)) first.A
          ++ map (raised_entries rows) (columns_from two.n (overlap_count (layout two)) second.A)));
      b = first.b ++ second.b;
      cones = first.cones ++ second.cones;
      alphas = first.alphas ++ second.alphas;
      map = first.map ++ raised_map_words (length (records one.cones)) one.pattern_count rows second.map;
    }

abbrev pub pooled_cut : Problem → Problem → Augmented
pooled_cut one two = pooled_of one two (augmented compact one) (augmented compact two)

-- ---- the contract

pub record Pool (one two : Problem) (before after : Tables) (r : ℕ) : Type 0 where
  pub number : r ≡ pool_refusal one two (table_rooms before)
  pub tables : HoldsTables r (tables_of (pool one two)) before after
