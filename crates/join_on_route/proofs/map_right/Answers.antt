use Prim.Native.Nat.{ℕ, zero-le, ◌+◌, ◌*◌, ◌^◌, ◌≤◌, ◌<◌}
use mathlib.Core.Path.{◌≡◌, refl, sym, ap, ap₂, subst, ◌∙◌}
use mathlib.Core.Bool.{Bool, true}
use mathlib.Core.List.{List}
use lib.ListN.{length, get_or, drop}
use lib.Dec.{T}
use mir.Syntax.{w64}
use mir.Val.{Fits}
use mir.Facts.{Fits-le}
use Rattle.layout.specs.General.Lists.{same_numbers}
use Rattle.layout.specs.Problems.Cones.{records}
use Rattle.layout.specs.Problems.Patterns.{Pattern, clique_count}
use Rattle.layout.specs.Rows.Blocks.{Part, whole, cut, part_rows, block_rows, block_row_count}
use Rattle.layout.specs.Checks.{no_cone, tree_right}
use Rattle.layout.specs.Cuts.Compact.{MapEntry, whole_cone, entry_words, cone_map, map_part, map_from, map_words}
use Rattle.layout.specs.Calls.Join.{joined_parts}
use Rattle.layout.proofs.Lists.Tests.{and_iff, not_iff, eqb_iff}
use Rattle.supernode_tree.specs.Reads.{pattern_at}
use Rattle.walk_cones.specs.Ahead.{ahead}
use Rattle.walk_cones.proofs.Counts.{counted as counted-part}
use Rattle.rows_tables.proofs.Cones.{map-words, entries-down}
use Rattle.join_on_route.specs.Begins.{begins, Tells}
use Rattle.join_on_route.proofs.Entries.{inside, told-rows, implied, entries_hit, entries_miss, entries_end}
use native.Mathlib.Omega.{arith}
use Rattle.join_on_route.proofs.map_right.Goals as goal
use Rattle.join_on_route.proofs.map_right.Goals.{In-Some-Whole, In-Some-Cut}

-- ---- numbers and lists

fits_next : (t k n : ℕ) → t + k ≤ n → n < 2 ^ 64 → Fits w64 (t + k)
fits_next t k n h l = Fits-le h (record { fits = l })

words-next : (t k n m : ℕ) → t + m ≤ n → m ≡ 5 * k → t + 5 * k ≤ n
words-next t k n m h e = omega arith

fives : (m b k : ℕ) → m ≡ b * 5 → k ≡ b → m ≡ 5 * k
fives m b k e h = omega arith

-- check 6: a pattern has a clique
some-clique : (p : Pattern) → T (tree_right p) → 0 < clique_count p
some-clique p h = omega (arith, (simp (and_iff, not_iff, eqb_iff) at h).0)

-- ---- the next cone is not decomposed

module _ (k : In-Some-Whole) where
  abbrev whole_of : Part
  whole_of = let q = k.loop-rows.place in whole q.cone (get_or (records k.args.cones.now) q.cone no_cone) q.row

  abbrev words-whole : List ℕ
  words-whole = map_words (map_part k.loop-rows.first whole_of)

  -- the result of comparing its entry
  entry : (r : Bool) → r ≡ begins (drop k.loop-rows.t k.args.entries.now) (entry_words (whole_cone k.loop-rows.place.cone k.loop-rows.first k.in-Some-Whole.rows))
      → r ≡ begins (drop k.loop-rows.t k.args.entries.now) words-whole
  entry r e =
      e ∙ ap (λ (n : ℕ). begins (drop k.loop-rows.t k.args.entries.now) (entry_words (whole_cone k.loop-rows.place.cone k.loop-rows.first n))) (rw k.in-Some-Whole.field-0-is at k.in-Some-Whole.ensures).knows.0

  -- the augmented rows before the cone, its own and those after it add up to all
  rows_whole : let a = k.args in
      k.loop-rows.first + k.in-Some-Whole.rows + block_row_count (ahead a.cones.now a.words.now k.in-Some-Whole.next) ≡ block_row_count (joined_parts a.cones.now a.count a.words.now)
  rows_whole =
      counted-part part_rows whole_of (ahead k.args.cones.now k.args.words.now k.loop-rows.place) _ k.loop-rows.first _ _ (rw k.in-Some-Whole.field-0-is at k.in-Some-Whole.ensures).self_value (rw k.in-Some-Whole.field-0-is at k.in-Some-Whole.ensures).knows.0 k.loop-rows.invariant.3

  -- its entry is there
  fits_whole : begins (drop k.loop-rows.t k.args.entries.now) words-whole ≡ true → k.loop-rows.t + 5 ≤ length k.args.entries.now
  fits_whole e = inside k.args.entries.now k.loop-rows.t words-whole k.loop-rows.invariant.0 e

-- ---- the next cone is decomposed

module _ (k : In-Some-Cut) where
  abbrev pattern_of : Pattern
  pattern_of = pattern_at k.args.words.now k.in-Some-Cut.at

  abbrev cut_of : Part
  cut_of = let q = k.loop-rows.place in cut q.cone q.row q.pattern pattern_of

  abbrev words-cut : List ℕ
  words-cut = map_words (map_part k.loop-rows.first cut_of)

  abbrev there : Bool
  there = begins (drop k.loop-rows.t k.args.entries.now) words-cut

  -- the augmented rows before the cone, its own and those after it add up to all
  rows_cut : let a = k.args in
      k.loop-rows.first + block_rows pattern_of + block_row_count (ahead a.cones.now a.words.now k.in-Some-Cut.next) ≡ block_row_count (joined_parts a.cones.now a.count a.words.now)
  rows_cut =
      counted-part part_rows cut_of (ahead k.args.cones.now k.args.words.now k.loop-rows.place) _ k.loop-rows.first _ _ (rw k.in-Some-Cut.field-0-is at k.in-Some-Cut.ensures).self_value refl k.loop-rows.invariant.3

  -- if its entries are there, its rows end where the map tells
  told : (n end : ℕ) → n ≡ clique_count pattern_of → Tells (drop k.loop-rows.t k.args.entries.now) n end → there ≡ true → end ≡ k.loop-rows.first + block_rows pattern_of
  told n end e tells b =
      let q = k.loop-rows.place in
      let xs = drop k.loop-rows.t k.args.entries.now in
      told-rows xs q.cone q.pattern k.loop-rows.first pattern_of.cliques end (some-clique pattern_of (rw k.in-Some-Cut.field-0-is at k.in-Some-Cut.ensures).knows.1.tree)
      (subst (λ (c : ℕ). Tells xs c end) e tells) (omega (arith, rows_cut, k.requires.1))
      (sym (ap (λ (es : List MapEntry). begins xs (map_words es)) (entries-down pattern_of q.cone q.row q.pattern k.loop-rows.first)) ∙ b)

  counted : (n : ℕ) → n ≡ clique_count pattern_of → length words-cut ≡ 5 * n
  counted n e =
      let q = k.loop-rows.place in
      fives (length words-cut) (clique_count pattern_of) n (map-words pattern_of k.loop-rows.first q.cone q.row q.pattern) e

  fits_cut : (n : ℕ) → n ≡ clique_count pattern_of → there ≡ true → k.loop-rows.t + 5 * n ≤ length k.args.entries.now
  fits_cut n e b =
      words-next k.loop-rows.t n (length k.args.entries.now) (length words-cut)
      (inside k.args.entries.now k.loop-rows.t words-cut k.loop-rows.invariant.0 b) (counted n e)

pub loop-rows-init : goal.loop-rows-init
loop-rows-init c =
    let a = c.args in
    let e = c.start-place.ensures.result_value in
    (zero-le, c.start-place.ensures.reached, ap (λ (ps : List Part). same_numbers a.entries.now (map_words (cone_map ps))) e, omega (arith, ap block_row_count e))

pub next-requires : goal.next-requires
next-requires c = c.loop-rows.invariant.1

pub overflow_cast-place : goal.overflow_cast-place
overflow_cast-place c = omega (arith, (rw c.in-Some-Whole.field-0-is at c.in-Some-Whole.ensures).knows.2)

pub entry_right-requires : goal.entry_right-requires
entry_right-requires c = c.loop-rows.invariant.0

pub returns-then-not-entry_right : goal.returns-then-not-entry_right
returns-then-not-entry_right c =
    let k = (goal.at.returns-then-not-entry_right c).In-Some-Whole in
    let a = c.args in
    sym (sym c.loop-rows.invariant.2
    ∙ entries_miss a.entries.now c.loop-rows.t c.loop-rows.first (whole_of k) (ahead a.cones.now a.words.now c.loop-rows.place) _ (rw c.in-Some-Whole.field-0-is at c.in-Some-Whole.ensures).self_value
    (sym (entry k c.entry_right.result c.entry_right.ensures) ∙ c.if-not-entry_right.true))

pub overflow_add-t : goal.overflow_add-t
overflow_add-t c =
    let k = (goal.at.overflow_add-t c).In-Some-Whole in
    fits_next c.loop-rows.t 5 (length c.args.entries.now) (fits_whole k (sym (entry k c.entry_right.result c.entry_right.ensures) ∙ c.if-not-entry_right.false)) c.well_formed.1.1.1.1.0.0

pub overflow_add-first : goal.overflow_add-first
overflow_add-first c = omega (arith, rows_whole (goal.at.overflow_add-first c).In-Some-Whole, c.requires.1)

pub loop-rows-smaller-in-Some-Whole : goal.loop-rows-smaller-in-Some-Whole
loop-rows-smaller-in-Some-Whole c = omega (arith, ap length (rw c.in-Some-Whole.field-0-is at c.in-Some-Whole.ensures).self_value)

pub loop-rows-preserved-in-Some-Whole : goal.loop-rows-preserved-in-Some-Whole
loop-rows-preserved-in-Some-Whole c =
    let k = (goal.at.loop-rows-preserved-in-Some-Whole c).In-Some-Whole in
    let a = c.args in
    let same : begins (drop c.loop-rows.t a.entries.now) (words-whole k) ≡ true = sym (entry k c.entry_right.result c.entry_right.ensures) ∙ c.if-not-entry_right.false in (
      fits_whole k same,
      (rw c.in-Some-Whole.field-0-is at c.in-Some-Whole.ensures).knows.5,
      sym (entries_hit a.entries.now c.loop-rows.t c.loop-rows.first (whole_of k) (ahead a.cones.now a.words.now c.loop-rows.place) _ (rw c.in-Some-Whole.field-0-is at c.in-Some-Whole.ensures).self_value same (rw c.in-Some-Whole.field-0-is at c.in-Some-Whole.ensures).knows.0)
          ∙ c.loop-rows.invariant.2,
      rows_whole k,
    )

pub clique_count-cliques-requires : goal.clique_count-cliques-requires
clique_count-cliques-requires c = (rw c.in-Some-Cut.field-0-is at c.in-Some-Cut.ensures).knows.1

pub told_end-end-requires : goal.told_end-end-requires
told_end-end-requires c =
    let k = (goal.at.told_end-end-requires c).In-Some-Cut in
    (c.loop-rows.invariant.0, omega (arith, c.clique_count-cliques.ensures, some-clique (pattern_of k) (rw c.in-Some-Cut.field-0-is at c.in-Some-Cut.ensures).knows.1.tree))

pub overflow_cast-place-in-Some-Cut : goal.overflow_cast-place-in-Some-Cut
overflow_cast-place-in-Some-Cut c = omega (arith, (rw c.in-Some-Cut.field-0-is at c.in-Some-Cut.ensures).knows.4)

pub pattern_right-requires : goal.pattern_right-requires
pattern_right-requires c =
    let h = (rw c.in-Some-Cut.field-0-is at c.in-Some-Cut.ensures).knows in
    (h.1, h.2, c.loop-rows.invariant.0)

pub returns-then-not-pattern_right : goal.returns-then-not-pattern_right
returns-then-not-pattern_right c =
    let k = (goal.at.returns-then-not-pattern_right c).In-Some-Cut in
    let a = c.args in
    let end_is : there k ≡ true → c.told_end-end.result ≡ c.loop-rows.first + block_rows (pattern_of k) = told k c.clique_count-cliques.result c.told_end-end.result c.clique_count-cliques.ensures c.told_end-end.ensures in
    let blocks : c.pattern_right.result ≡ there k =
    c.pattern_right.ensures ∙ implied (there k) c.told_end-end.result (c.loop-rows.first + block_rows (pattern_of k)) end_is in
    sym (sym c.loop-rows.invariant.2
    ∙ entries_miss a.entries.now c.loop-rows.t c.loop-rows.first (cut_of k) (ahead a.cones.now a.words.now c.loop-rows.place) _ (rw c.in-Some-Cut.field-0-is at c.in-Some-Cut.ensures).self_value
    (sym blocks ∙ c.if-not-pattern_right.true))

pub overflow_add-t-in-Some-Cut : goal.overflow_add-t-in-Some-Cut
overflow_add-t-in-Some-Cut c =
    let k = (goal.at.overflow_add-t-in-Some-Cut c).In-Some-Cut in
    let end_is : there k ≡ true → c.told_end-end.result ≡ c.loop-rows.first + block_rows (pattern_of k) = told k c.clique_count-cliques.result c.told_end-end.result c.clique_count-cliques.ensures c.told_end-end.ensures in
    let blocks : c.pattern_right.result ≡ there k =
    c.pattern_right.ensures ∙ implied (there k) c.told_end-end.result (c.loop-rows.first + block_rows (pattern_of k)) end_is in
    fits_next c.loop-rows.t (5 * c.clique_count-cliques.result) (length c.args.entries.now)
    (fits_cut k c.clique_count-cliques.result c.clique_count-cliques.ensures (sym blocks ∙ c.if-not-pattern_right.false)) c.well_formed.1.1.1.1.0.0

pub loop-rows-smaller : goal.loop-rows-smaller
loop-rows-smaller c = omega (arith, ap length (rw c.in-Some-Cut.field-0-is at c.in-Some-Cut.ensures).self_value)

pub loop-rows-preserved : goal.loop-rows-preserved
loop-rows-preserved c =
    let k = (goal.at.loop-rows-preserved c).In-Some-Cut in
    let a = c.args in
    let n = c.clique_count-cliques.result in
    let e = c.clique_count-cliques.ensures in
    let end_is : there k ≡ true → c.told_end-end.result ≡ c.loop-rows.first + block_rows (pattern_of k) = told k n c.told_end-end.result e c.told_end-end.ensures in
    let blocks : c.pattern_right.result ≡ there k =
    c.pattern_right.ensures ∙ implied (there k) c.told_end-end.result (c.loop-rows.first + block_rows (pattern_of k)) end_is in
    let same : there k ≡ true = sym blocks ∙ c.if-not-pattern_right.false in
    let later = ahead a.cones.now a.words.now c.in-Some-Cut.next in
    let j : c.loop-rows.t + length (words-cut k) ≡ c.loop-rows.t + 5 * n = ap (λ (n : ℕ). c.loop-rows.t + n) (counted k n e) in
    let end = end_is same in (
      fits_cut k n e same,
      (rw c.in-Some-Cut.field-0-is at c.in-Some-Cut.ensures).knows.6,
      sym (ap₂ (λ (j n : ℕ). same_numbers (drop j a.entries.now) (map_words (map_from n later))) j (sym end))
          ∙ sym (entries_hit a.entries.now c.loop-rows.t c.loop-rows.first (cut_of k) (ahead a.cones.now a.words.now c.loop-rows.place) _ (rw c.in-Some-Cut.field-0-is at c.in-Some-Cut.ensures).self_value same {rows = block_rows (pattern_of k)} refl)
          ∙ c.loop-rows.invariant.2,
      omega (arith, rows_cut k, end),
    )

pub returns-in-None : goal.returns-in-None
returns-in-None c =
    let a = c.args in
    sym (sym c.loop-rows.invariant.2
    ∙ entries_end a.entries.now c.loop-rows.t c.loop-rows.first (ahead a.cones.now a.words.now c.loop-rows.place) c.in-None.ensures.self_value c.loop-rows.invariant.0)
