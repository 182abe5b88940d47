-- Every problem that the generator writes passes the checks of both routes, and its values are finite.
use Prim.Native.Nat.{ℕ, zero, suc, ◌+◌, ◌-◌, ◌*◌, ◌≤◌, ◌<◌}
use native.Mathlib.Omega.{arith}
use mathlib.Core.Path.{◌≡◌, refl, sym, ap, subst, ◌∙◌}
use mathlib.Core.Logic.{inl, inr}
use mathlib.Core.Bool.{Bool, true, ◌&&◌, ◌||◌}
use mathlib.Core.List.{List, [], ◌∷◌, map, append-nil}
use lib.ListN.{length, get_or, replicate, length-replicate, length-map, get_or-replicate}
use lib.Dec.{T, leb, eqb, le→leb, eqb_refl}
use lib.Ieee.{Float, nan, eq}
use Rattle.layout.specs.General.Lists.{has, all, below, sum, join, rises, starts_from, is_permutation}
use Rattle.layout.specs.General.Floats.{zero64, finite}
use Rattle.layout.specs.General.Triangle.{triangle}
use Rattle.layout.specs.Problems.Problem.{Problem, table_lengths, Csc, Route, standard, compact}
use Rattle.layout.specs.Problems.Patterns.{read, read_patterns, patterns, pattern_words_of}
use Rattle.layout.specs.Rows.Blocks.{Part, block_rows, overlap_rows, block_row_count, overlap_count}
use Rattle.layout.specs.Checks.{covered_rows, check1, check2, check3, check4, check9, check10, starts_right, column_rows, rows_in_order, rows_right, cones_bounded, patterns_read, tree_right, cliques_right, entries_on, values_on, Check, check, checks, refusal, layout}
use Rattle.layout.specs.Cuts.Compact.{Entry, csc, rows_of, psd_words}
use Rattle.layout.specs.Equations.Equations.{AllFinite, SameSolutions}
use Rattle.layout.specs.Equations.BothRoutes.{without_repeats, StoredFinite, OneProblem}
use Rattle.layout.specs.Calls.Cut.{sizes, cut_refusal}
use Rattle.layout.specs.Calls.Answers.{roomy}
use Rattle.layout.specs.Calls.Generate.{draws, drawn_ordering, band, band_parts, band_rows, drawn_columns, after_columns, drawn_side, generated, in_ranges, generate_refusal, Generate}
use Rattle.layout.proofs.Lists.Tests.{and_iff, or_iff, eqb_iff, leb_iff, tested, cond_passed}
use Rattle.layout.proofs.Lists.Members.{all_replicate, has-keep, has-below, all-has, length-below}
use Rattle.layout.proofs.Lists.Distinct.{length-keep}
use Rattle.layout.proofs.Lists.Rising.{rises-up_from, rises-keep, rises_never_fall}
use Rattle.layout.proofs.Lists.Joins.{sum_bound}
use Rattle.layout.proofs.Lists.Starts.{length-starts}
use Rattle.layout.proofs.Numbers.Triangles.{triangle_mono}
use Rattle.layout.proofs.Patterns.PatternWords.{patterns_of_words}
use Rattle.layout.specs.Calls.Tables.{Tables, table_rooms, problem_at}
use Rattle.layout.proofs.Promises.{tables_front}
use Rattle.layout.proofs.Checks.Order.{none_fails, passed as checked}
use Rattle.layout.proofs.Columns.Columns.{entry_count, even}
use Rattle.layout.proofs.Theorems.Demand3.{demand3}
use Rattle.layout.proofs.Theorems.BothRoutes.{stored_finite, both_routes}
use Rattle.layout.proofs.Columns.Compressed.{csc-starts, csc-all, csc-each, csc-rows, csc_in_order}
use Rattle.layout.proofs.Generators.Orderings.{ordering_permutes}
use Rattle.layout.proofs.Generators.Band.{band-tree, band-cliques, band-rows, band-overlaps, band-words}
use Rattle.layout.proofs.Generators.Drawn.{column-has, column-rises, column-length, columns_count, columns_drawn, columns_finite, side-length, side_other, side-finite}

-- ---- a matrix without entries

no_columns : (a n : ℕ) → starts_from a (map length (replicate {A = List Entry} n [])) ≡ replicate (suc n) a
no_columns a zero = refl
no_columns a (suc n) =
    let e : a + 0 ≡ a = omega arith in
    ap (λ (xs : List ℕ). a ∷ xs) (rw e (no_columns a n))

nothing_joined : (n : ℕ) → join (λ (c : List Entry). c) (replicate n []) ≡ []
nothing_joined zero = refl
nothing_joined (suc n) = nothing_joined n

abbrev no_entries : ℕ → Csc
no_entries n = record { starts = replicate (suc n) 0; rows = []; values = [] }

no_entries_lem : (n : ℕ) → csc (replicate n []) ≡ no_entries n
no_entries_lem n = rw (no_columns 0 n, nothing_joined n)

no_entries-right : (m n : ℕ) → T (starts_right n (no_entries n)) × T (rows_right m n (no_entries n))
no_entries-right m n =
    let cs : List (List Entry) = replicate n [] in
    let many : length cs ≡ n = length-replicate n [] in
    let empty : (c : ℕ) → c < length cs → get_or cs c [] ≡ [] = λ c l. get_or-replicate n c [] [] (omega arith) in (
      subst (λ (M : Csc). T (starts_right n M)) (no_entries_lem n) (subst (λ (k : ℕ). T (starts_right k (csc cs))) many (csc-starts cs)),
      subst (λ (M : Csc). T (rows_right m n M)) (no_entries_lem n) (subst (λ (k : ℕ). T (rows_right m k (csc cs))) many
          (csc-rows cs m (λ c l r h. absurd (subst (λ (es : List Entry). T (has r (rows_of es))) (empty c l) h))
          (λ c l. subst (λ (es : List Entry). T (rises (rows_of es))) (sym (empty c l)) tt))),
    )

-- ---- A and b, for any ordering os and any generator state s

module _ (os : List ℕ) (v w n s : ℕ) where
  abbrev covered : List ℕ
  covered = covered_rows (band_parts os v w)

  abbrev rs : List ℕ
  rs = band_rows os v w

  abbrev cs : List (List Entry)
  cs = drawn_columns s rs n

  inside : (r : ℕ) → T (has r rs) → (r < triangle v) × T (has r covered)
  inside r h =
      let (low, on) = (has-keep (λ q. has q covered) r (below (triangle v))).0 h in
      ((has-below r (triangle v)).0 low, on)

  row_count : length (band_rows os v w) ≤ triangle v
  row_count = omega (arith, length-keep (λ q. has q covered) (below (triangle v)), length-below (triangle v))

  -- a column's entries lie on the covered rows rs, and their row indices strictly increase
  on_rows : (c : ℕ) → c < length cs → (r : ℕ) → T (has r (rows_of (get_or cs c []))) → T (has r rs)
  on_rows c l r h =
      let (t, e) = columns_drawn s rs n c (omega (arith, columns_count s rs n)) in
      column-has t rs r (subst (λ (es : List Entry). T (has r (rows_of es))) e h)

  rising : (c : ℕ) → c < length cs → T (rises (rows_of (get_or cs c [])))
  rising c l =
      let (t, e) = columns_drawn s rs n c (omega (arith, columns_count s rs n)) in
      subst (λ (es : List Entry). T (rises (rows_of es))) (sym e)
      (column-rises t rs (rises-keep (λ q. has q covered) (below (triangle v)) (rises-up_from 0 (triangle v))))

  starts_A : T (starts_right n (csc (drawn_columns s (band_rows os v w) n)))
  starts_A = subst (λ (k : ℕ). T (starts_right k (csc cs))) (columns_count s rs n) (csc-starts cs)

  low : (c : ℕ) → c < length cs → (r : ℕ) → T (has r (rows_of (get_or cs c []))) → r < triangle v
  low c l r h = (inside r (on_rows c l r h)).0

  rows_A : T (rows_in_order (triangle v) n (csc (drawn_columns s (band_rows os v w) n)))
  rows_A =
      subst (λ (k : ℕ). T (rows_in_order (triangle v) k (csc cs))) (columns_count s rs n)
      (csc_in_order cs (triangle v) low (λ c l. rises_never_fall (rows_of (get_or cs c [])) (rising c l)))

  -- no row index repeats within a column of A
  alone_A : T (all (λ c. rises (column_rows (csc (drawn_columns s (band_rows os v w) n)) c)) (below n))
  alone_A =
      subst (λ (k : ℕ). T (all (λ c. rises (column_rows (csc cs) c)) (below k))) (columns_count s rs n) (csc-each cs rises rising)

  entries-few : v ≤ 64 → n ≤ 64 → length (csc (drawn_columns s (band_rows os v w) n)).values ≤ 133120
  entries-few lv ln =
      omega (
        arith,
        entry_count cs,
        columns_count s rs n,
        sum_bound [] length 2080 cs (λ c l.
            let (t, e) = columns_drawn s rs n c (omega (arith, columns_count s rs n)) in
            omega (arith, ap length e, column-length t rs, row_count, triangle_mono v 64 lv)),
      )

  entries_on_lem : T (entries_on (covered_rows (band_parts os v w)) (csc (drawn_columns s (band_rows os v w) n)))
  entries_on_lem = csc-all cs (λ r. has r covered) (λ c l. (all-has (λ r. has r covered) (rows_of (get_or cs c []))).1 (λ r h.
      (inside r (on_rows c l r h)).1))

  side_on : (t : ℕ) → T (values_on (covered_rows (band_parts os v w)) (triangle v) (drawn_side t (band_rows os v w) (replicate (triangle v) zero64)))
  unfolding eq
  side_on t = (all-has (λ r. eq (get_or b r nan) zero64 || has r covered) (below (triangle v))).1 (λ r h.
      (or_iff (eq (get_or b r nan) zero64) (has r covered)).1 (elim (tested (has r covered)) [
        | inl k ↦ inr k
        | inr out ↦ inl (subst (λ (x : Float). T (eq x zero64)) (sym (zero r ((has-below r (triangle v)).0 h) out)) tt)
      ]))
    where
      b : List Float
      b = drawn_side t rs (replicate (triangle v) zero64)

      zero : (r : ℕ) → r < triangle v → (T (has r covered) → ⊥) → get_or b r nan ≡ zero64
      zero r l out =
          side_other t rs (replicate (triangle v) zero64) r nan (λ h. out (inside r h).1)
          ∙ get_or-replicate (triangle v) r zero64 nan l

-- ---- the problem

module _ (seed v w n : ℕ) (ok : T (in_ranges seed v w n)) where
  abbrev p : Problem
  p = generated seed v w n

  abbrev os : List ℕ
  os = drawn_ordering seed v

  abbrev s : ℕ
  s = draws (v - 1) seed

  abbrev M : Csc
  M = csc (drawn_columns s (band_rows os v w) n)

  pub ranges : (2 ≤ v) × (v ≤ 64) × (1 ≤ w) × (w < v) × (1 ≤ n) × (n ≤ 64)
  ranges = let h = simp (and_iff, leb_iff) at ok in omega arith

  few-rows : triangle v ≤ 2080
  few-rows = triangle_mono v 64 (omega (arith, ranges))

  permutes : T (is_permutation (drawn_ordering seed v)) × (length (drawn_ordering seed v) ≡ v)
  permutes = ordering_permutes seed v (omega (arith, ranges))

  -- the pattern's words read back as the pattern
  words-read : read_patterns 1 (pattern_words_of (band (drawn_ordering seed v) v w)) ≡ read (band (drawn_ordering seed v) v w ∷ []) []
  words-read =
      ap (read_patterns 1) (sym (append-nil (pattern_words_of (band os v w))))
      ∙ patterns_of_words (band os v w ∷ []) ((and_iff (eqb (length os) v) true).1 ((eqb_iff (length os) v).1 permutes.1, tt))

  generated-patterns : patterns 1 (pattern_words_of (band (drawn_ordering seed v) v w)) ≡ band (drawn_ordering seed v) v w ∷ []
  generated-patterns = rw words-read

  generated-layout : layout (generated seed v w n) ≡ band_parts (drawn_ordering seed v) v w
  generated-layout = rw generated-patterns

  -- checks 1 to 10

  one : T (check1 (generated seed v w n))
  one =
      let a : ℕ = length M.values in
      (and_iff (leb n 65536 && leb (triangle v) 65536 && leb a 262144 && true) (cones_bounded (psd_words v))).1 (
        (and_iff (leb n 65536 && leb (triangle v) 65536 && leb a 262144) true).1 (
          (and_iff (leb n 65536 && leb (triangle v) 65536) (leb a 262144)).1 (
            (and_iff (leb n 65536) (leb (triangle v) 65536)).1
                (le→leb n 65536 (omega (arith, ranges)), le→leb (triangle v) 65536 (omega (arith, few-rows))),
            le→leb a 262144 (omega (arith, entries-few os v w n s (omega (arith, ranges)) (omega (arith, ranges)))),
          ),
          tt,
        ),
        (and_iff (leb v 65536 && true && leb v 256) true).1 (
          (and_iff (leb v 65536 && true) (leb v 256)).1 (
            (and_iff (leb v 65536) true).1 (le→leb v 65536 (omega (arith, ranges)), tt),
            le→leb v 256 (omega (arith, ranges)),
          ),
          tt,
        ),
      )

  two : T (check2 (generated seed v w n))
  two = (and_iff (starts_right n M) (starts_right n (no_entries n))).1 (starts_A os v w n s, (no_entries-right n n).0)

  three : T (check3 (generated seed v w n))
  three = (and_iff (rows_in_order (triangle v) n M) (rows_right n n (no_entries n))).1 (rows_A os v w n s, (no_entries-right n n).1)

  four : T (check4 (generated seed v w n))
  four =
      let rows : Bool = eqb (triangle v + 0) (triangle v) in
      let q : Bool = eqb (length (replicate n zero64)) n in
      (and_iff (rows && true && q) (eqb (length p.b) (triangle v))).1 (
        (and_iff (rows && true) q).1 (
          (and_iff rows true).1 ((eqb_iff (triangle v + 0) (triangle v)).1 (omega arith), tt),
          (eqb_iff (length (replicate n zero64)) n).1 (length-replicate n zero64),
        ),
        (eqb_iff (length p.b) (triangle v)).1
            (side-length (after_columns s (band_rows os v w) n) (band_rows os v w) (replicate (triangle v) zero64)
            ∙ length-replicate (triangle v) zero64),
      )

  five : T (patterns_read (psd_words v) 1 (pattern_words_of (band (drawn_ordering seed v) v w)))
  five = rw words-read ((and_iff (eqb v v && true) (is_permutation os && true)).1 (
    (and_iff (eqb v v) true).1 (eqb_refl v, tt),
    (and_iff (is_permutation os) true).1 (permutes.0, tt),
  ))

  six : T (all tree_right (patterns 1 (pattern_words_of (band (drawn_ordering seed v) v w))))
  six = rw generated-patterns ((and_iff (tree_right (band os v w)) true).1 (band-tree os v w (omega (arith, ranges)), tt))

  seven : T (all cliques_right (patterns 1 (pattern_words_of (band (drawn_ordering seed v) v w))))
  seven = rw generated-patterns ((and_iff (cliques_right (band os v w)) true).1 (band-cliques os v w (omega (arith, ranges)), tt))

  nine : (route : Route) → T (check9 route (generated seed v w n))
  nine standard = tt
  nine compact =
      subst (λ (ps : List Part). T (entries_on (covered_rows ps) M && values_on (covered_rows ps) (triangle v) p.b)) (sym generated-layout)
      ((and_iff (entries_on (covered_rows (band_parts os v w)) M) (values_on (covered_rows (band_parts os v w)) (triangle v) p.b)).1
      (entries_on_lem os v w n s, side_on os v w n s (after_columns s (band_rows os v w) n)))

  few-blocks : block_rows (band (drawn_ordering seed v) v w) ≤ 133120
  few-blocks = band-rows os v w (omega (arith, ranges)) (omega (arith, ranges))

  few-overlaps : overlap_rows (band (drawn_ordering seed v) v w) ≤ 129024
  few-overlaps = band-overlaps os v w (omega (arith, ranges)) (omega (arith, ranges))

  ten : (route : Route) → T (check10 route (triangle v) (layout (generated seed v w n)))
  ten standard =
      subst (λ (ps : List Part). T (leb (triangle v + block_row_count ps) 262144)) (sym generated-layout)
      (le→leb (triangle v + (block_rows (band os v w) + 0)) 262144 (omega (arith, few-rows, few-blocks)))
  ten compact =
      subst (λ (ps : List Part). T (leb (block_row_count ps) 262144 && leb (overlap_count ps) 131072)) (sym generated-layout)
      ((and_iff (leb (block_rows (band os v w) + 0) 262144) (leb (overlap_rows (band os v w) + 0) 131072)).1 (
        le→leb (block_rows (band os v w) + 0) 262144 (omega (arith, few-blocks)),
        le→leb (overlap_rows (band os v w) + 0) 131072 (omega (arith, few-overlaps)),
      ))

  -- both routes accept the generated problem
  pub generated-accepted : (route : Route) → refusal route (generated seed v w n) ≡ 0
  generated-accepted route = none_fails (checks route p)
      (one, (two, (three, (four, (five, (six, (seven, (nine route, (ten route, tt)))))))))

  -- no row index repeats within a column of A
  generated_alone : T (without_repeats (generated seed v w n))
  generated_alone = alone_A os v w n s

  -- A and b are finite: as stored and, as demand 3 asks, after repeated entries are summed
  pub generated_stored : StoredFinite (generated seed v w n)
  generated_stored = (and_iff (all finite p.A.values) (all finite p.b)).1 (
    columns_finite s (band_rows os v w) n,
    side-finite (after_columns s (band_rows os v w) n) (band_rows os v w) (replicate (triangle v) zero64) (all_replicate finite (triangle v) zero64 tt),
  )

  pub generated-finite : AllFinite (generated seed v w n)
  generated-finite = (stored_finite p compact (generated-accepted compact) generated_alone).0 generated_stored

  -- the cut accepts the generated problem if its outputs are long enough
  pub generated-cut : (route : Route) (rooms : List ℕ) → T (roomy (sizes route (generated seed v w n)) rooms)
      → cut_refusal route (generated seed v w n) rooms ≡ 0
  generated-cut route rooms h = rw (generated-accepted route) (cond_passed (roomy (sizes route p) rooms) 0 11 h)

  -- its compact equations have exactly the solutions of the original ones (demand 3)
  pub generated_solutions : SameSolutions (generated seed v w n)
  generated_solutions = demand3 p (generated-accepted compact) generated-finite

  -- its standard equations have the same solutions as its compact ones (Q-13)
  pub generated_routes : OneProblem (generated seed v w n)
  generated_routes = both_routes p (generated-accepted standard) (generated-accepted compact) generated_alone generated_stored

  -- the lengths of the tables: only the number k of A's entries depends on the draws
  pub generated-lengths : table_lengths (generated seed v w n) ≡
      let k = sum (map length (drawn_columns (draws (v - 1) seed) (band_rows (drawn_ordering seed v) v w) n)) in
      suc n ∷ 0 ∷ 0 ∷ n ∷ suc n ∷ k ∷ k ∷ triangle v ∷ 3 ∷ 0 ∷ (3 + v + (v - w) * (w + 4)) ∷ []
  generated-lengths =
      let rs = band_rows os v w in
      let cs = drawn_columns s rs n in
      let starts : length M.starts ≡ suc n = length-starts 0 (map length cs) ∙ ap suc (length-map cs length ∙ columns_count s rs n) in
      let rows : length M.rows ≡ sum (map length cs) = even cs ∙ entry_count cs in
      let b : length p.b ≡ triangle v =
      side-length (after_columns s rs n) rs (replicate (triangle v) zero64) ∙ length-replicate (triangle v) zero64 in
      let words : length (pattern_words_of (band os v w)) ≡ 3 + v + (v - w) * (w + 4) =
      band-words os v w (omega (arith, ranges)) ∙ ap (λ (k : ℕ). 3 + k + (v - w) * (w + 4)) permutes.1 in
      rw (length-replicate {A = ℕ} n 0, length-replicate {A = Float} n zero64, starts, rows, entry_count cs, b, words)

-- ---- what the call writes

-- refusal number 0 means that checks 15 and 11 passed
pub generate_done : (seed v w n : ℕ) (rooms : List ℕ) → generate_refusal seed v w n rooms ≡ 0
    → T (in_ranges seed v w n) × T (roomy (table_lengths (generated seed v w n)) rooms)
generate_done seed v w n rooms e =
    let cs : List Check = check 15 (in_ranges seed v w n) ∷ check 11 (roomy (table_lengths (generated seed v w n)) rooms) ∷ [] in
    (checked 15 cs tt e, checked 11 cs tt e)

-- what holds of the problem that a call returning 0 writes to the start of its outputs
pub record GeneratedWell (p : Problem) : Type 0 where
  pub accepted : (route : Route) → refusal route p ≡ 0
  pub alone : T (without_repeats p)
  pub all_finite : AllFinite p
  pub solutions : SameSolutions p
  pub routes : OneProblem p

generated_well : (seed v w n : ℕ) → T (in_ranges seed v w n) → GeneratedWell (generated seed v w n)
generated_well seed v w n ok = record {
  accepted = generated-accepted seed v w n ok;
  alone = generated_alone seed v w n ok;
  all_finite = generated-finite seed v w n ok;
  solutions = generated_solutions seed v w n ok;
  routes = generated_routes seed v w n ok;
}

-- if a call that keeps its contract returns 0, the problem read from its outputs is the generated one, and `GeneratedWell` holds of it
pub generated-written : (seed v w n : ℕ) (before after : Tables) (r : ℕ) → Generate seed v w n before after r → r ≡ 0
    → let p = problem_at n (triangle v) 1 (generated seed v w n) after in (p ≡ generated seed v w n) × GeneratedWell p
generated-written seed v w n before after r h z =
    let ok = (generate_done seed v w n (table_rooms before) (sym h.number ∙ z)).0 in
    let e = tables_front r (generated seed v w n) before after z h.tables in
    (e, subst GeneratedWell (sym e) (generated_well seed v w n ok))
