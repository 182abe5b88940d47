use Rattle.std.proofs.Common.{◌≡◌, ◌≤◌, ◌+◌, ◌-◌, ◌*◌, ◌∙◌, ◌&&◌, ℕ, suc, List, [], ◌∷◌, ◌++◌, length, drop, map, eqb, refl, ap, ap₂, sym, arith}
use lib.Dec.{leb→le}
use Rattle.layout.specs.General.Lists.{sum}
use Rattle.layout.specs.General.Triangle.{triangle}
use Rattle.layout.specs.Problems.Patterns.{Clique, read_clique, block_size}
use Rattle.layout.proofs.Lists.Tests.{passes, and-false}
use Rattle.layout.proofs.Columns.Sizes.{entries-length}
use Rattle.supernode_tree.specs.Reads.{Whole, cliques_from, clique_of}
use Rattle.supernode_tree.specs.Sizes.{block_at_most, dim_of}
use Rattle.supernode_tree.proofs.Cliques.{first-whole, whole-next, from_next, block_size_lem}
use Rattle.supernode_tree.proofs.Sizes.{all_cons}
use Rattle.supernode_tree.proofs.Many.{many-length}
use Rattle.rows_tables.specs.Tables.{entries_down}
use Rattle.rows_tables.proofs.Cones.{down_words, down-length, down_more}
use Rattle.join_on_route.specs.Begins.{begins}
use Rattle.join_on_route.proofs.Entries.{too_few, told-low, told_hit, told_miss}
use Rattle.join_on_route.proofs.blocks_right.Goals as goal
use Rattle.join_on_route.proofs.blocks_right.Goals.{After-here-q, After-triangular_number-rows}

-- the number of words of the entries of n complete cliques
words_of : (i k c base : ℕ) (ws : List ℕ) (at n : ℕ) → Whole ws at n → length (down_words i k c base (cliques_from ws at n)) ≡ n * 5
words_of i k c base ws at n h =
    let cs = cliques_from ws at n in
    omega (arith, entries-length (entries_down i k c base cs), down-length i k c base cs, many-length read_clique n (drop at ws) h)

-- a clique was read
first_of : (c : After-here-q) → let left = c.args.count - c.loop-clique.clique in
    cliques_from c.args.words.now c.loop-clique.at left ≡ clique_of c.args.words.now c.here-q.result ∷ cliques_from c.args.words.now c.here-q.result.next (left - 1)
first_of c =
    from_next c.args.words.now c.loop-clique.at (c.args.count - c.loop-clique.clique) _ c.here-q.ensures.result_value (omega arith) c.here-q.result refl c.loop-clique.invariant.0

next-whole : (c : After-here-q) → Whole c.args.words.now c.here-q.result.next (c.args.count - c.loop-clique.clique - 1)
next-whole c =
    sym (whole-next c.args.words.now c.loop-clique.at (c.args.count - c.loop-clique.clique) _ c.here-q.ensures.result_value (omega arith) c.here-q.result refl)
    ∙ c.loop-clique.invariant.0

size : (c : After-here-q) → let q = c.here-q.result in
    (block_size (clique_of c.args.words.now q) ≡ q.snode_count + q.separator_count) × (q.snode_count + q.separator_count ≤ 256)
size c =
    let ws = c.args.words.now in
    let q = c.here-q.result in
    let e = block_size_lem ws c.loop-clique.at q c.here-q.ensures.clique_inside in
    let small = (all_cons (block_at_most 256) (clique_of ws q) (cliques_from ws q.next (c.args.count - c.loop-clique.clique - 1)) _ (first_of c) c.loop-clique.invariant.1).0 in
    (e, omega (arith, leb→le (block_size (clique_of ws q)) 256 (passes _ small)))

-- the rows of its block; its entry comes after those of the cliques after it
module _ (c : After-triangular_number-rows) where
  abbrev read : After-here-q
  read = (goal.at.After-triangular_number-rows c).After-here-q

  rows_are : c.triangular_number-rows.result ≡ dim_of (clique_of c.args.words.now c.here-q.result)
  rows_are = c.triangular_number-rows.ensures ∙ ap triangle (c.get_nblk.ensures ∙ sym (size read).0)

  abbrev left : ℕ
  left = c.args.count - c.loop-clique.clique - 1

  abbrev rest : List Clique
  rest = cliques_from c.args.words.now c.here-q.result.next left

  -- its first row
  abbrev top : ℕ
  top = c.args.start + sum (map dim_of rest)

  abbrev others : List ℕ
  others = down_words c.args.cone c.args.pattern (c.loop-clique.clique + 1) c.args.start rest

  others_long : length others ≡ left * 5
  others_long = words_of c.args.cone c.args.pattern (c.loop-clique.clique + 1) c.args.start c.args.words.now c.here-q.result.next left (next-whole read)

  words_here : down_words c.args.cone c.args.pattern c.loop-clique.clique c.args.start (cliques_from c.args.words.now c.loop-clique.at (c.args.count - c.loop-clique.clique))
      ≡ others ++ (c.args.cone ∷ c.args.pattern ∷ c.loop-clique.clique ∷ top ∷ c.triangular_number-rows.result ∷ [])
  words_here =
      let a = c.args in
      let k = c.loop-clique.clique in
      let q = clique_of a.words.now c.here-q.result in
      let next : suc k ≡ k + 1 = omega arith in
      ap (down_words a.cone a.pattern k a.start) (first_of read) ∙ down_more a.cone a.pattern k a.start q rest
      ∙ ap₂ (λ (d r : ℕ). down_words a.cone a.pattern d a.start rest ++ (a.cone ∷ a.pattern ∷ k ∷ top ∷ r ∷ [])) next (sym rows_are)

  -- the result, with that entry apart
  apart : let a = c.args in
      (begins (drop a.t a.entries.now) (others ++ (a.cone ∷ a.pattern ∷ c.loop-clique.clique ∷ top ∷ c.triangular_number-rows.result ∷ []))
      && eqb c.loop-clique.row (top + c.triangular_number-rows.result))
      ≡ (begins (drop a.t a.entries.now) (down_words a.cone a.pattern 0 a.start (cliques_from a.words.now a.first a.count))
      && eqb a.end (a.start + sum (map dim_of (cliques_from a.words.now a.first a.count))))
  apart =
      let a = c.args in
      let sums : a.start + sum (map dim_of (cliques_from a.words.now c.loop-clique.at (a.count - c.loop-clique.clique))) ≡ top + c.triangular_number-rows.result =
      omega (arith, ap (λ (cs : List Clique). sum (map dim_of cs)) (first_of read), rows_are) in
      sym (ap₂ (λ (l : List ℕ) (n : ℕ). begins (drop a.t a.entries.now) l && eqb c.loop-clique.row n) words_here sums) ∙ c.loop-clique.invariant.2

pub returns-then-entries-t : goal.returns-then-entries-t
returns-then-entries-t c =
    let a = c.args in
    let cs = cliques_from a.words.now a.first a.count in
    let ws = down_words a.cone a.pattern 0 a.start cs in
    sym (and-false (begins (drop a.t a.entries.now) ws) (eqb a.end (a.start + sum (map dim_of cs)))
    (too_few a.entries.now a.t ws (omega (arith, c.if-entries-t.true, words_of a.cone a.pattern 0 a.start a.words.now a.first a.count c.requires.whole.0))))

pub loop-clique-init : goal.loop-clique-init
loop-clique-init c = let e : c.args.count - 0 ≡ c.args.count = omega arith in rw e (c.requires.whole.0, c.requires.count_value, refl)

pub here-q-requires : goal.here-q-requires
here-q-requires c = first-whole c.args.words.now c.loop-clique.at (c.args.count - c.loop-clique.clique) (omega arith) c.loop-clique.invariant.0

pub get_nblk-requires : goal.get_nblk-requires
get_nblk-requires c = omega (arith, (size (goal.at.get_nblk-requires c).After-here-q).1)

pub overflow_cast-get_nblk : goal.overflow_cast-get_nblk
overflow_cast-get_nblk c = omega (arith, (size (goal.at.overflow_cast-get_nblk c).After-here-q).1)

pub triangular_number-rows-requires : goal.triangular_number-rows-requires
triangular_number-rows-requires c = omega (arith, (size (goal.at.triangular_number-rows-requires c).After-here-q).1)

pub returns-then-row-rows : goal.returns-then-row-rows
returns-then-row-rows c =
    let a = c.args in
    let t = (goal.at.returns-then-row-rows c).After-triangular_number-rows in
    sym (sym (apart t)
    ∙ told-low a.entries.now a.t (left t * 5) (others t) (others_long t) a.cone a.pattern c.loop-clique.clique c.triangular_number-rows.result (top t) c.loop-clique.row c.if-row-rows.true)

pub returns-then-not-entry_right : goal.returns-then-not-entry_right
returns-then-not-entry_right c =
    let a = c.args in
    let t = (goal.at.returns-then-not-entry_right c).After-triangular_number-rows in
    let e : a.count - 1 - c.loop-clique.clique ≡ left t = omega arith in
    sym (sym (apart t)
    ∙ told_miss a.entries.now a.t (left t * 5) (others t) (others_long t) a.cone a.pattern c.loop-clique.clique c.triangular_number-rows.result (top t) c.loop-clique.row c.if-row-rows.false
    (sym (rw e at c.entry_right.ensures) ∙ c.if-not-entry_right.true))

pub loop-clique-preserved : goal.loop-clique-preserved
loop-clique-preserved c =
    let a = c.args in
    let ws = a.words.now in
    let t = (goal.at.loop-clique-preserved c).After-triangular_number-rows in
    let k = (goal.at.loop-clique-preserved c).After-here-q in
    let e : a.count - 1 - c.loop-clique.clique ≡ left t = omega arith in
    let now : a.count - (c.loop-clique.clique + 1) ≡ left t = omega arith in
    rw now (
      next-whole k,
      (all_cons (block_at_most 256) (clique_of ws c.here-q.result) (rest t) (cliques_from ws c.loop-clique.at (a.count - c.loop-clique.clique)) (first_of k) c.loop-clique.invariant.1).1,
      sym (told_hit a.entries.now a.t (left t * 5) (others t) (others_long t) a.cone a.pattern c.loop-clique.clique c.triangular_number-rows.result (top t) c.loop-clique.row c.if-row-rows.false
          (sym (rw e at c.entry_right.ensures) ∙ c.if-not-entry_right.false))
          ∙ apart t,
    )

pub returns : goal.returns
returns c =
    let a = c.args in
    let none : a.count - c.loop-clique.clique ≡ 0 = omega arith in
    let same : a.start + 0 ≡ a.start = omega arith in
    sym (sym c.loop-clique.invariant.2
    ∙ ap (λ (n : ℕ). begins (drop a.t a.entries.now) (down_words a.cone a.pattern c.loop-clique.clique a.start (cliques_from a.words.now c.loop-clique.at n)) && eqb c.loop-clique.row (a.start + sum (map dim_of (cliques_from a.words.now c.loop-clique.at n)))) none
    ∙ ap (eqb c.loop-clique.row) same)
