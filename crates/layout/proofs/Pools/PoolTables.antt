-- The pool call in the form that code uses: the order of its refusals, with the pool's own checks reduced to three bounds, and each table
-- of the pool as a loop writes it.
use Prim.Native.Nat.{ℕ, suc, ◌+◌}
use native.Mathlib.Omega.{arith}
use mathlib.Core.Path.{◌≡◌, refl, sym, ap, ap₂, subst, ◌∙◌}
use mathlib.Core.Bool.{Bool, true, false, cond}
use mathlib.Core.List.{List, [], ◌∷◌, ◌++◌, map, map-append, map-map}
use lib.ListN.{length, get_or, drop, length-append, length-map}
use lib.Seq.{ext_get_or}
use lib.Dec.{T, eqb, eqb→eq}
use Rattle.layout.specs.General.Lists.{below, join}
use Rattle.layout.specs.Problems.Problem.{Problem, table_lengths, Csc}
use Rattle.layout.specs.Problems.Cones.{records}
use Rattle.layout.specs.Problems.Patterns.{Pattern, Read, read, short, and_then, read_pattern, read_patterns, wholly, ends_right, patterns, pattern_words_of}
use Rattle.layout.specs.Checks.{check, first_failing, problem_checks, Checked, column_rows}
use Rattle.layout.specs.Cuts.Compact.{Entry, column, rows_of}
use Rattle.layout.specs.Calls.Answers.{or_else, roomy, problem_refusal}
use Rattle.layout.specs.Calls.Pool.{raised_entries, stacked_columns, raised_pattern, raised_words, pool, pool_refusal}
use Rattle.layout.proofs.Lists.Tests.{passes}
use Rattle.layout.proofs.Checks.Order.{or_else-zero, or_else_assoc, or_else_same, failing_append}
use Rattle.layout.proofs.Lists.Members.{get_or_map, has-below, length-below, get_or-below}
use Rattle.layout.proofs.Lists.Joins.{join_same, map-join}
use Rattle.layout.proofs.Lists.Starts.{join-map}
use Rattle.layout.proofs.Checks.Accepted.{problem_checked, sound-ends}
use Rattle.layout.proofs.Columns.Columns.{column-rows}
use Rattle.layout.proofs.Columns.Compressed.{column_values, column-values}
use Rattle.layout.proofs.Patterns.PatternWords.{After, OneOf, pattern_after, words_of_patterns}
use Rattle.layout.proofs.Pools.PoolChecks.{pool_bounded, raised-rows, stacked-right, stacked-starts, right-first, right-second, pool-refusal, pool-bounds, pool-entries}

-- ---- refusals

-- the refusal number: checks 1 to 7 of the first, then of the second, then 17, three bounds of check 1, and check 11
pub pool_refusals_lem : (p q : Problem) (rooms : List ℕ)
    → pool_refusal p q rooms
    ≡ or_else (problem_refusal p) (or_else (problem_refusal q) (or_else (cond (eqb p.n q.n) 0 17)
    (or_else (cond (pool_bounded p q) 0 1) (cond (roomy (table_lengths (pool p q)) rooms) 0 11))))
pool_refusals_lem p q rooms =
    ap (λ (k : ℕ). or_else k room) (failing_append (problem_checks p) (problem_checks q ++ (check 17 same ∷ problem_checks (pool p q))) tt)
    ∙ or_else_assoc (problem_refusal p) (first_failing (problem_checks q ++ (check 17 same ∷ problem_checks (pool p q)))) room
    ∙ or_else_same (problem_refusal p) (or_else (first_failing (problem_checks q ++ (check 17 same ∷ problem_checks (pool p q)))) room)
    (or_else (problem_refusal q) (or_else (cond same 0 17) bounds)) (λ e.
    ap (λ (k : ℕ). or_else k room) (failing_append (problem_checks q) (check 17 same ∷ problem_checks (pool p q)) tt)
    ∙ or_else_assoc (problem_refusal q) (first_failing (check 17 same ∷ problem_checks (pool p q))) room
    ∙ or_else_same (problem_refusal q) (or_else (first_failing (check 17 same ∷ problem_checks (pool p q))) room) (or_else (cond same 0 17) bounds) (λ f.
    last same refl (problem_checked p e) (problem_checked q f)))
  where
    same : Bool
    same = eqb p.n q.n

    room : ℕ
    room = cond (roomy (table_lengths (pool p q)) rooms) 0 11

    bounds : ℕ
    bounds = or_else (cond (pool_bounded p q) 0 1) room

    last : (b : Bool) → eqb p.n q.n ≡ b → Checked p → Checked q
        → or_else (first_failing (check 17 b ∷ problem_checks (pool p q))) room ≡ or_else (cond b 0 17) bounds
    last true e hp hq =
        let equal = eqb→eq p.n q.n (passes (eqb p.n q.n) e) in
        ap (λ (k : ℕ). or_else k room) (pool-refusal p q hp hq equal ∙ ap (λ (b : Bool). cond b 0 1) (pool-bounds p q hp hq equal))
    last false e hp hq = refl

-- what holds of two problems whose pool call is not refused
pub record Pooled (p q : Problem) (rooms : List ℕ) : Type 0 where
  pub first : Checked p
  pub second : Checked q
  pub same : p.n ≡ q.n
  pub bounded : T (pool_bounded p q)
  pub roomy : T (roomy (table_lengths (pool p q)) rooms)

pub pooled : (p q : Problem) (rooms : List ℕ) → pool_refusal p q rooms ≡ 0 → Pooled p q rooms
pooled p q rooms e =
    let (first, later) = (or_else-zero (problem_refusal p) _).0 (sym (pool_refusals_lem p q rooms) ∙ e) in
    let (second, last) = (or_else-zero (problem_refusal q) _).0 later in
    let (same, bounded, roomy) = three (eqb p.n q.n) (pool_bounded p q) (roomy (table_lengths (pool p q)) rooms) last in
    record {
      first = problem_checked p first;
      second = problem_checked q second;
      same = eqb→eq p.n q.n same;
      bounded = bounded;
      roomy = roomy;
    }
  where
    three : (a b c : Bool) → or_else (cond a 0 17) (or_else (cond b 0 1) (cond c 0 11)) ≡ 0 → T a × T b × T c
    three true true true e = (tt, tt, tt)
    three true true false e = absurd (omega arith)
    three true false c e = absurd (omega arith)
    three false b c e = absurd (omega arith)

-- ---- pattern words, pattern by pattern

-- raising the words of the first pattern raises its orig_index and leaves its other words unchanged
pub raised-words-step : (d k : ℕ) (ws rest : List ℕ) (x : Pattern) → read_pattern ws ≡ read x rest → T (ends_right (read_patterns k rest))
    → (ws ≡ x.orig_index ∷ (drop 1 (pattern_words_of x) ++ rest))
    × (raised_words d (patterns (suc k) ws) ≡ (d + x.orig_index) ∷ (drop 1 (pattern_words_of x) ++ raised_words d (patterns k rest)))
raised-words-step d k ws rest x e ends = (
  subst (After (OneOf pattern_words_of ws)) e (pattern_after ws),
  ap (raised_words d) (ap (λ (r : Read Pattern). wholly [] (and_then r (λ a left. and_then (read_patterns k left) (λ more end. read (a ∷ more) end)))) e
      ∙ more (read_patterns k rest) ends),
)
  where
    more : (r : Read (List Pattern)) → T (ends_right r) → wholly [] (and_then r (λ more end. read (x ∷ more) end)) ≡ x ∷ wholly [] r
    more (read xs []) h = refl
    more (read xs (w ∷ ws)) h = absurd h
    more short h = absurd h

-- ---- one A stacked above the other, column by column

-- one field of the stacked entries (row or value), column by column
stacked-field : {X : Type 0} (field : Entry → X) (n k : ℕ) (M N : Csc)
    → map field (join (λ c. c) (stacked_columns n k M N))
    ≡ join (λ c. map field (column M c) ++ map field (raised_entries k (column N c))) (below n)
stacked-field field n k M N =
    let stacked : ℕ → List Entry = λ c. column M c ++ raised_entries k (column N c) in
    ap (map field) (join-map (λ c. c) stacked (below n)) ∙ map-join field stacked (below n)
    ∙ join_same (λ c. map field (stacked c)) (λ c. map field (column M c) ++ map field (raised_entries k (column N c))) (below n)
    (λ c h. map-append field (column M c) (raised_entries k (column N c)))

module _ (p q : Problem) (hp : Checked p) (hq : Checked q) (same : p.n ≡ q.n) where
  pub pool_A_starts : (pool p q).A.starts ≡ map (λ c. get_or p.A.starts c 0 + get_or q.A.starts c 0) (below (suc p.n))
  pool_A_starts =
      let sums : ℕ → ℕ = λ c. get_or p.A.starts c 0 + get_or q.A.starts c 0 in
      let count = (stacked-right p.n p.m p.A q.A).count in
      let many = length-map (below (suc p.n)) sums ∙ length-below (suc p.n) in
      ext_get_or 0 (pool p q).A.starts (map sums (below (suc p.n))) (count ∙ sym many) (λ i l.
      stacked-starts p.n p.m p.A q.A (right-first p q hp hq same) (right-second p q hp hq same) i (omega (arith, count))
      ∙ sym (get_or_map sums (below (suc p.n)) i 0 0 (omega (arith, count, length-below (suc p.n)))
      ∙ ap sums (get_or-below (suc p.n) i 0 (omega (arith, count)))))

  pub pool_A_rows : (pool p q).A.rows
      ≡ join (λ c. column_rows p.A c ++ map (λ r. p.m + r) (column_rows q.A c)) (below p.n)
  pool_A_rows =
      stacked-field (λ (e : Entry). e.row) p.n p.m p.A q.A
      ∙ join_same (λ c. rows_of (column p.A c) ++ rows_of (raised_entries p.m (column q.A c)))
      (λ c. column_rows p.A c ++ map (λ r. p.m + r) (column_rows q.A c)) (below p.n) (λ c h.
      let l = (has-below c p.n).0 h in
      ap₂ ◌++◌ (column-rows p.n p.A (right-first p q hp hq same) c l)
      (raised-rows p.m (column q.A c) ∙ ap (map (λ r. p.m + r)) (column-rows p.n q.A (right-second p q hp hq same) c l)))

  pub pool_A_values : (pool p q).A.values ≡ join (λ c. column_values p.A c ++ column_values q.A c) (below p.n)
  pool_A_values =
      stacked-field (λ (e : Entry). e.value) p.n p.m p.A q.A
      ∙ join_same (λ c. map (λ (e : Entry). e.value) (column p.A c) ++ map (λ (e : Entry). e.value) (raised_entries p.m (column q.A c)))
      (λ c. column_values p.A c ++ column_values q.A c) (below p.n) (λ c h.
      let l = (has-below c p.n).0 h in
      ap₂ ◌++◌ (column-values p.n p.A (right-first p q hp hq same) c l)
      (map-map (λ (e : Entry). e.value) (λ (e : Entry). record { row = p.m + e.row; value = e.value }) (column q.A c)
      ∙ column-values p.n q.A (right-second p q hp hq same) c l))

  -- ---- lengths

  raised-words-length : (k : ℕ) (xs : List Pattern) → length (raised_words k xs) ≡ length (join pattern_words_of xs)
  raised-words-length k [] = refl
  raised-words-length k (x ∷ xs) =
      omega (
        arith,
        length-append (pattern_words_of (raised_pattern k x)) (raised_words k xs),
        length-append (pattern_words_of x) (join pattern_words_of xs),
        raised-words-length k xs,
      )

  pub pool-lengths : table_lengths (pool p q)
      ≡ length p.P.starts ∷ length p.P.rows ∷ length p.P.values ∷ length p.q
      ∷ suc p.n ∷ (length p.A.rows + length q.A.rows) ∷ (length p.A.values + length q.A.values) ∷ (p.m + q.m)
      ∷ (length p.cones + length q.cones) ∷ (length p.alphas + length q.alphas)
      ∷ (length p.pattern_words + length q.pattern_words) ∷ []
  pool-lengths =
      let right = stacked-right p.n p.m p.A q.A in
      let values = pool-entries p q hp hq same in
      let rows : length (pool p q).A.rows ≡ length p.A.rows + length q.A.rows =
      omega (arith, right.even, values, (right-first p q hp hq same).even, (right-second p q hp hq same).even) in
      let b : length (p.b ++ q.b) ≡ p.m + q.m = omega (arith, length-append p.b q.b, hp.length_b, hq.length_b) in
      let d = length (records p.cones) in
      let qs = patterns q.pattern_count q.pattern_words in
      let words : length (pool p q).pattern_words ≡ length p.pattern_words + length q.pattern_words =
      omega (
        arith,
        length-append p.pattern_words (raised_words d qs),
        raised-words-length d qs,
        ap length (words_of_patterns q.pattern_count q.pattern_words (sound-ends hq.sound)).0,
      ) in
      rw (right.count, rows, values, b, length-append p.cones q.cones, length-append p.alphas q.alphas, words)
