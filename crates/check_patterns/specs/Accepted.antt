-- What the walk over patterns checks, and what holds after the checks pass.
use Rattle.std.specs.Prelude.{ℕ, ◌+◌, ◌*◌, ◌≤◌, ◌<◌, ◌≡◌, Bool, true, false, not, cond, ◌&&◌, List, [], ◌++◌, map, length, get_or, drop, T, eqb, leb, ltb}
use Rattle.layout.specs.General.Lists.{has, all, distinct, sum, is_permutation}
use Rattle.layout.specs.General.Triangle.{triangle}
use Rattle.layout.specs.Problems.Patterns.{Read, Clique, Head, Pattern, no_clique, no_pattern, clique_count, read_clique, read_head, read_cliques, read_pattern, patterns}
use Rattle.layout.specs.Rows.Blocks.{block_rows, overlap_rows}
use Rattle.layout.specs.Checks.{tree_right, cliques_right, patterns_read}
use Rattle.supernode_tree.specs.Reads.{head_of, pattern_read, PatternInside, value_or, is_whole, Whole, rest, cliques_from, pattern_at, clique_here}
use Rattle.supernode_tree.specs.Offsets.{OffsetsEvery}
use Rattle.supernode_tree.specs.declared.Pattern.{Pattern as PatternAt}
use Rattle.std.specs.Prelude.{Some}
use Rattle.supernode_tree.specs.Sizes.{block_at_most, dim_of, overlaps_of}
use Rattle.sparsity_pattern.specs.Sparsity.{pattern_right, patterns_read_from}
use Rattle.supportedcone.specs.Ranges.{is_psd_of}
use Rattle.check_members.specs.OnceIn.{once_below}
use Rattle.check_cliques.specs.Trees.{clique_ok, tree_from, snodes_of, snodes_ok, separator_below}
use Rattle.check_patterns.specs.declared.Blocks.{Blocks}
use Rattle.check_patterns.specs.declared.Walk.{Walk}
use Rattle.check_patterns.specs.declared.Accepted.{Accepted}

-- the rows of a pattern's cone
abbrev pub pattern_row_count : Pattern → ℕ
pattern_row_count p = triangle p.vertex_count

-- the totals over the patterns: block rows, rows of decomposed cones, overlaps, cliques
abbrev pub Summed : List Pattern → Accepted → Type 0
Summed ps r =
    (r.dim ≡ sum (map block_rows ps)) × (r.cut ≡ sum (map pattern_row_count ps)) × (r.overlaps ≡ sum (map overlap_rows ps))
    × (r.cliques ≡ sum (map clique_count ps))

-- ---- marks

-- no mark is set
abbrev pub AllClear : List Bool → Type 0
AllClear marks = (v : ℕ) → get_or marks v false ≡ false

-- the numbers met so far: they have no duplicates and are below n; of the first n marks theirs are b and all others are not; no later mark is set
pub record Met (b : Bool) (n : ℕ) (marks : List Bool) (met : List ℕ) : Type 0 where
  pub marked : (v : ℕ) → v < n → get_or marks v false ≡ cond (has v met) b (not b)
  pub later : (v : ℕ) → n ≤ v → get_or marks v false ≡ false
  pub once : T (distinct met)
  pub below : T (all (λ x. ltb x n) met)

-- whichever numbers were met before, r is whether the words ws can be met after them, and if it is true they have been
abbrev pub AddsOnce : Bool → ℕ → List Bool → List ℕ → List Bool → Bool → Type 0
AddsOnce b n old ws new r = (met : List ℕ) → Met b n old met → (r ≡ once_below n (met ++ ws)) × (r ≡ true → Met b n new (met ++ ws))

-- ---- cliques

abbrev pub filled : Clique → Bool
filled c = not (eqb (length c.snode) 0)

-- clique c of count is complete, its snode is not empty, and its parent is valid
abbrev pub clique_right : ℕ → ℕ → Read Clique → Bool
clique_right count c r = is_whole r && (filled (value_or no_clique r) && clique_ok count c (value_or no_clique r))

-- r is whether this holds of the clique at offset `at` and its snode can be met after the numbers met before; if r is true the snode has been met
abbrev pub SnodeHolds : List ℕ → PatternAt → ℕ → ℕ → List Bool → List Bool → Bool → Type 0
SnodeHolds ws p at c old new r =
    let us = (clique_here ws at).snode in
    (met : List ℕ) → Met false p.vertex_count old met
    → (r ≡ (clique_right p.clique_count c (read_clique (drop at ws)) && once_below p.vertex_count (met ++ us)))
    × (r ≡ true → Met false p.vertex_count new (met ++ us))

-- k cliques are complete, their parents are valid, no snode is empty, and each number below n is in exactly one snode
abbrev pub snodes_right : ℕ → ℕ → Read (List Clique) → Bool
snodes_right k n r = is_whole r && (tree_from k 0 (value_or [] r) && snodes_ok n (value_or [] r))

abbrev pub cliques_of : List ℕ → PatternAt → List Clique
cliques_of ws p = cliques_from ws p.cliques p.clique_count

-- the cliques of a pattern are complete, each at its offset; their parents are valid, no snode is empty, and each vertex is in exactly one snode
pub record SnodesHold (ws : List ℕ) (p : PatternAt) (offsets : List ℕ) : Type 0 where
  pub stand : Whole ws p.cliques p.clique_count
  pub starts : OffsetsEvery 1 ws p.cliques p.clique_count offsets
  pub tree : tree_from p.clique_count 0 (cliques_of ws p) ≡ true
  pub full : all filled (cliques_of ws p) ≡ true
  pub many : length (snodes_of (cliques_of ws p)) ≡ p.vertex_count
  pub permutation : is_permutation (snodes_of (cliques_of ws p)) ≡ true

-- a clique's block has at most 256 vertices, and its separator is valid, with numbers below n
abbrev pub separator_fits : ℕ → List Clique → Clique → Bool
separator_fits n cs c = block_at_most 256 c && separator_below n cs c.parent c.separator

abbrev pub separators_fit : ℕ → List Clique → Bool
separators_fit n cs = all (separator_fits n cs) cs

-- the cliques end at offset `b.next`, their separators are valid, and b has the rows and overlaps of their blocks, which are bounded
pub record SeparatorsHold (ws : List ℕ) (p : PatternAt) (b : Blocks) : Type 0 where
  pub after : rest (read_cliques p.clique_count (drop p.cliques ws)) ≡ drop b.next ws
  pub inside : b.next ≤ length ws
  pub right : separators_fit p.vertex_count (cliques_of ws p) ≡ true
  pub dim : b.dim ≡ sum (map dim_of (cliques_of ws p))
  pub overlaps : b.overlaps ≡ sum (map overlaps_of (cliques_of ws p))
  pub few-rows : b.dim ≤ p.clique_count * 32896
  pub few-overlaps : b.overlaps ≤ p.clique_count * 32896

-- the cliques of a pattern are complete, each at its offset
abbrev pub Stand : List ℕ → PatternAt → List ℕ → Type 0
Stand ws p offsets =
    Whole ws p.cliques p.clique_count × (p.clique_count ≤ length offsets) × OffsetsEvery 1 ws p.cliques p.clique_count offsets

-- ---- patterns

abbrev pub no_head : Head
no_head = record { orig_index = 0; vertex_count = 0; clique_count = 0; ordering = [] }

abbrev pub head_at : List ℕ → ℕ → Head
head_at ws at = value_or no_head (read_head (drop at ws))

-- a head is complete, names a PSD cone of its size not before `least`, has at least one clique, and at most 256 cliques and vertices
abbrev pub head_right : List ℕ → ℕ → Read Head → Bool
head_right cones least r =
    let h = value_or no_head r in
    is_whole r && (leb least h.orig_index && (not (eqb h.clique_count 0) && (leb h.clique_count 256
    && (leb h.vertex_count 256 && is_psd_of cones h.orig_index h.vertex_count))))

-- the cliques after a head
abbrev pub cliques_after : Read Head → Read (List Clique)
cliques_after r = read_cliques (value_or no_head r).clique_count (rest r)

-- a head is valid, its ordering is a permutation, and the snodes of the cliques after it are valid
abbrev pub vertices_right : List ℕ → ℕ → Read Head → Bool
vertices_right cones least r =
    let h = value_or no_head r in
    head_right cones least r && (is_permutation h.ordering && snodes_right h.clique_count h.vertex_count (cliques_after r))

-- checks 5, 6 and 7 of one pattern, whose cone is not before `least`
abbrev pub pattern_holds : List ℕ → ℕ → Read Pattern → Bool
pattern_holds cones least r =
    let p = value_or no_pattern r in
    is_whole r && (leb least p.orig_index && (pattern_right cones p && (tree_right p && cliques_right p)))

-- the head at an offset is complete, names a PSD cone of its size not before `least`, has at least one clique, and at most 256 cliques and vertices
pub record HeadHolds (cones ws : List ℕ) (at least : ℕ) : Type 0 where
  pub stands : is_whole (read_head (drop at ws)) ≡ true
  pub rises : least ≤ (head_at ws at).orig_index
  pub some : eqb (head_at ws at).clique_count 0 ≡ false
  pub few : (head_at ws at).clique_count ≤ 256
  pub small : (head_at ws at).vertex_count ≤ 256
  pub psd : is_psd_of cones (head_at ws at).orig_index (head_at ws at).vertex_count ≡ true

-- the head of the walk's next pattern is valid, its ordering is a permutation, and its snodes are valid
pub record VerticesHold (cones ws : List ℕ) (w : Walk) (offsets : List ℕ) : Type 0 where
  pub head : HeadHolds cones ws w.next w.least
  pub vertices : (p : PatternAt) → pattern_read ws (Some p) ≡ read_head (drop w.next ws) → PatternInside (length ws) w.next (Some p)
      → (is_permutation (head_of ws p).ordering ≡ true) × SnodesHold ws p offsets

-- the walk's next pattern is complete and valid, and ends at offset `b.next`; b has the rows and overlaps of its blocks
pub record PatternHolds (cones ws : List ℕ) (w : Walk) (b : Blocks) : Type 0 where
  pub head : HeadHolds cones ws w.next w.least
  pub few-rows : b.dim ≤ 8421376
  pub few-overlaps : b.overlaps ≤ 8421376
  pub origin : (pattern_at ws w.next).orig_index ≡ (head_at ws w.next).orig_index
  pub size : (pattern_at ws w.next).vertex_count ≡ (head_at ws w.next).vertex_count
  pub count : clique_count (pattern_at ws w.next) ≡ (head_at ws w.next).clique_count
  pub stands : is_whole (read_pattern (drop w.next ws)) ≡ true
  pub after : rest (read_pattern (drop w.next ws)) ≡ drop b.next ws
  pub inside : b.next ≤ length ws
  pub right : pattern_right cones (pattern_at ws w.next) ≡ true
  pub tree : tree_right (pattern_at ws w.next) ≡ true
  pub cliques : cliques_right (pattern_at ws w.next) ≡ true
  pub dim : b.dim ≡ block_rows (pattern_at ws w.next)
  pub overlaps : b.overlaps ≡ overlap_rows (pattern_at ws w.next)

-- the walk r is the walk w with its next pattern added, whose blocks are b
abbrev pub Added : List ℕ → Walk → Blocks → Walk → Type 0
Added ws w b r =
    (r.next ≡ b.next) × (r.least ≡ (head_at ws w.next).orig_index + 1) × (r.dim ≡ w.dim + b.dim)
    × (r.cut ≡ w.cut + triangle (head_at ws w.next).vertex_count) × (r.overlaps ≡ w.overlaps + b.overlaps)
    × (r.cliques ≡ w.cliques + (head_at ws w.next).clique_count)

-- the patterns before offset `next` pass checks 5, 6 and 7, so each check of all patterns is that of the `left` patterns from there on, of which
-- none may name a cone before `least`
pub record PassedBefore (cones : List ℕ) (count : ℕ) (ws : List ℕ) (next least left : ℕ) : Type 0 where
  pub inside : next ≤ length ws
  pub five : patterns_read cones count ws ≡ patterns_read_from cones least left (drop next ws)
  pub six : all tree_right (patterns count ws) ≡ all tree_right (patterns left (drop next ws))
  pub seven : all cliques_right (patterns count ws) ≡ all cliques_right (patterns left (drop next ws))
