-- The cliques of the pattern at an offset, by their offsets.
use Prim.Native.Nat.{ℕ, zero, suc, ◌-◌, ◌≤◌, ◌<◌}
use native.Mathlib.Omega.{arith}
use mathlib.Core.Path.{◌≡◌, refl, ap, sym, subst, ◌∙◌}
use mathlib.Core.Bool.{Bool, true, false}
use mathlib.Core.List.{List, [], ◌∷◌, ◌++◌, map, reverse, reverse-cons, map-append}
use lib.ListN.{length, get_or, take, drop, replicate, length-replicate}
use lib.Seq.{get_or-take, length-take-le}
use lib.Dec.{T}
use Rattle.layout.specs.General.Lists.{below, join}
use Rattle.layout.specs.Problems.Patterns.{Pattern, Clique, clique_at, clique_count, members, no_clique, no_pattern, Read, read, short, read_head, read_many, and_then, read_clique, read_cliques, with_cliques}
use Rattle.layout.specs.Rows.Blocks.{pairs, pair_row, block, pattern_rows, original_row}
use Rattle.layout.specs.Checks.{RightPattern, tree_right}
use Rattle.layout.proofs.Lists.Members.{has-below}
use Rattle.layout.proofs.Lists.Joins.{join_same}
use Rattle.layout.proofs.Lists.Starts.{part_at, join-map}
use Rattle.layout.proofs.Patterns.Cliques.{clique_vertices}
use Rattle.layout.proofs.Patterns.Reading.{Reads, reads_any, reads_then}
use Rattle.supernode_tree.specs.Reads.{is_whole, value_or, Whole, cliques_from, pattern_at, pattern_read, PatternInside, head_of, clique_here}
use Rattle.supernode_tree.specs.Offsets.{OffsetsOf}
use Rattle.supernode_tree.specs.declared.Pattern.{Pattern as PatternHead}
use Rattle.std.specs.Prelude.{Option, Some}
use Rattle.supernode_tree.proofs.Words.{head-found}
use Rattle.supernode_tree.proofs.Cliques.{no_cliques, pattern_whole}
use Rattle.rows_blocks.specs.Vertices.{sorted_of}
use Rattle.rows_blocks.specs.Cliques.{vertices_here, rows_here, SortableClique, SortableCliques}
use Rattle.rows_blocks.specs.Codes.{standard_pattern_rows}
use Rattle.rows_blocks.proofs.Patterns.{down_same, clique-sortable, sorted-by, original-rows}
use Rattle.layout.proofs.Patterns.WordCounts.{cliques-few}

-- ---- mapped lists, reversed and joined

pub reverse-map : {A B : Type 0} (g : A → B) (xs : List A) → reverse (map g xs) ≡ map g (reverse xs)
reverse-map g [] = refl
reverse-map {A} {B} g (x ∷ xs) =
    reverse-cons (g x) (map g xs) ∙ ap (λ (r : List B). r ++ (g x ∷ [])) (reverse-map g xs)
    ∙ sym (map-append g (reverse xs) (x ∷ [])) ∙ ap (map g) (sym (reverse-cons x xs))

-- the first k numbers of a list, by their indices
taken : (os : List ℕ) (k : ℕ) → k ≤ length os → take k os ≡ map (λ c. get_or os c 0) (below k)
taken os k h = sym (part_at 0 os 0 k (omega arith))

-- ---- a pattern whose cliques are at given offsets

-- the clique at the offset is complete, and is q
abbrev ReadAt : List ℕ → ℕ → Clique → Type 0
ReadAt ws o q = (is_whole (read_clique (drop o ws)) ≡ true) × (clique_here ws o ≡ q)

-- clique c is at offset c, for each of the cliques
abbrev pub StandAt : List ℕ → List Clique → List ℕ → Type 0
StandAt ws cs os = (c : ℕ) → c < length cs → ReadAt ws (get_or os c 0) (get_or cs c no_clique)

pub stand_taken : (ws : List ℕ) (cs : List Clique) (os : List ℕ) (k : ℕ) → length cs ≡ k → StandAt ws cs os → StandAt ws cs (take k os)
stand_taken ws cs os k e st c l = let m : c < k = omega arith in rw (get_or-take k os c 0 m) (st c l)

module _ (p : Pattern) (ok : RightPattern p) (ws os : List ℕ) (st : StandAt ws p.cliques os) where
  pub here : (c : ℕ) → c < clique_count p → clique_here ws (get_or os c 0) ≡ clique_at p c
  here c l = (st c l).1

  pub vertices-clique : (c : ℕ) → c < clique_count p → vertices_here ws p.ordering (get_or os c 0) ≡ clique_vertices p c
  unfolding vertices_here
  vertices-clique c l = ap (λ (q : Clique). sorted_of p.ordering (members q)) (here c l) ∙ sorted-by p ok (members (clique_at p c))

  pub rows-block : (base c : ℕ) → c < clique_count p → rows_here base ws p.ordering (get_or os c 0) ≡ map (pair_row base) (block p c)
  unfolding rows_here
  rows-block base c l = ap (λ (vs : List ℕ). map (pair_row base) (pairs vs)) (vertices-clique c l)

  pub stands : p.vertex_count ≤ 256 → (c : ℕ) → c < clique_count p → SortableClique ws p.ordering (get_or os c 0)
  stands few c l = record { found = (st c l).0; sortable = rw (here c l) (clique-sortable p ok few c l) }

module _ (p : Pattern) (ok : RightPattern p) (ws os : List ℕ) (k : ℕ) (count : clique_count p ≡ k) (room : k ≤ length os) (st : StandAt ws p.cliques os) where
  pub all-stand : p.vertex_count ≤ 256 → SortableCliques ws p.ordering (take k os)
  all-stand few c l =
      let m : c < k = omega (arith, length-take-le k os room) in
      rw (get_or-take k os c 0 m) (stands p ok ws os st few c (omega arith))

  pub rows-up : (base : ℕ) → join (rows_here base ws p.ordering) (take k os) ≡ standard_pattern_rows p base
  rows-up base =
      let f = rows_here base ws p.ordering in
      ap (join f) (taken os k room) ∙ join-map f (λ c. get_or os c 0) (below k)
      ∙ join_same (λ c. f (get_or os c 0)) (λ c. map (pair_row base) (block p c)) (below k)
      (λ c h. rows-block p ok ws os st base c (omega (arith, (has-below c k).0 h)))
      ∙ ap (λ (n : ℕ). join (λ c. map (pair_row base) (block p c)) (below n)) (sym count)

  pub rows-down : (base first : ℕ) → join (rows_here base ws p.ordering) (reverse (take k os)) ≡ map original_row (pattern_rows p base first)
  rows-down base first =
      let f = rows_here base ws p.ordering in
      ap (join f) (ap reverse (taken os k room) ∙ reverse-map (λ c. get_or os c 0) (below k)) ∙ join-map f (λ c. get_or os c 0) (reverse (below k))
      ∙ down_same (λ c. f (get_or os c 0)) (λ c. map (pair_row base) (block p c)) k (λ c l. rows-block p ok ws os st base c (omega arith))
      ∙ ap (λ (n : ℕ). join (λ c. map (pair_row base) (block p c)) (reverse (below n))) (sym count)
      ∙ sym (original-rows p ok base first)

-- ---- the pattern at an offset

-- a read of k items gives k items
many-count : {A : Type 0} (one : List ℕ → Read A) (k : ℕ) (ws : List ℕ) → Reads (λ xs. length xs ≡ k) (read_many one k ws)
many-count one zero ws = refl
many-count one (suc k) ws =
    reads_then (λ a. Unit {0}) (λ xs. length xs ≡ suc k) (one ws) (λ a left. and_then (read_many one k left) (λ more end. read (a ∷ more) end)) (reads_any (one ws))
    (λ a left u. reads_then (λ xs. length xs ≡ k) (λ xs. length xs ≡ suc k) (read_many one k left) (λ more end. read (a ∷ more) end) (many-count one k left) (λ more end e. ap suc e))

no_tree : (p : Pattern) → RightPattern p → p ≡ no_pattern → ⊥
no_tree p ok e = subst (λ (q : Pattern). T (tree_right q)) e ok.tree

module _ (ws : List ℕ) (at : ℕ) (r : Option PatternHead) (ok : RightPattern (pattern_at ws at)) (e : pattern_read ws r ≡ read_head (drop at ws)) where
  module _ (q : PatternHead) (f : r ≡ Some q) where
    abbrev k : ℕ
    k = q.clique_count

    abbrev cs : List Clique
    cs = cliques_from ws q.cliques k

    head_here : read_head (drop at ws) ≡ read (head_of ws q) (drop q.cliques ws)
    head_here = head-found ws at r q e f

    pub cliques_here : Whole ws q.cliques k
    cliques_here = go (is_whole (read_cliques k (drop q.cliques ws))) refl
      where
        go : (b : Bool) → is_whole (read_cliques k (drop q.cliques ws)) ≡ b → is_whole (read_cliques k (drop q.cliques ws)) ≡ true
        go true w = w
        go false w = absurd (no_tree (pattern_at ws at) ok (no_cliques ws at (head_of ws q) q.cliques head_here w))

    pub pattern_here : pattern_at ws at ≡ with_cliques (head_of ws q) cs
    pattern_here = pattern_whole ws at (head_of ws q) q.cliques head_here cliques_here

    count_here : length cs ≡ k
    count_here = go (read_cliques k (drop q.cliques ws)) (many-count read_clique k (drop q.cliques ws)) cliques_here
      where
        go : (r : Read (List Clique)) → Reads (λ cs. length cs ≡ k) r → is_whole r ≡ true → length (value_or [] r) ≡ k
        go (read cs left) m w = m
        go short m w = absurd (subst T (sym w) tt)

    pub cliques-count : clique_count (pattern_at ws at) ≡ k
    cliques-count = ap (λ (p : Pattern). clique_count p) pattern_here ∙ count_here

    pub count-few : (pattern_at ws at).vertex_count ≤ 256 → k ≤ 256
    count-few few = omega (arith, cliques-count, cliques-few (pattern_at ws at) ok)

    -- the words between the head and the cliques are the ordering
    pub ordering-part : PatternInside (length ws) at (Some q) → take (q.cliques - q.ordering) (drop q.ordering ws) ≡ (pattern_at ws at).ordering
    ordering-part i =
        let n : q.cliques - q.ordering ≡ q.vertex_count = omega arith in
        ap (λ (m : ℕ). take m (drop q.ordering ws)) n ∙ sym (ap (λ (p : Pattern). p.ordering) pattern_here)

    pub stand_here : (os : List ℕ) → OffsetsOf ws q.cliques k os → StandAt ws (pattern_at ws at).cliques os
    stand_here os st = subst (λ (p : Pattern). StandAt ws p.cliques os) (sym pattern_here)
        (λ c l. let e = st c (omega (arith, count_here)) in (ap is_whole e, ap (value_or no_clique) e))

    -- a table of 256 offsets has one for each clique
    pub offsets-room : (pattern_at ws at).vertex_count ≤ 256 → (os : List ℕ) → length os ≡ length (replicate {A = ℕ} 256 0) → k ≤ length os
    offsets-room few os m = omega (arith, count-few few, length-replicate {A = ℕ} 256 0)

    module _ (few : (pattern_at ws at).vertex_count ≤ 256) (os : List ℕ) (m : length os ≡ length (replicate {A = ℕ} 256 0)) (st : OffsetsOf ws q.cliques k os) where
      pub part-many : length (take k os) ≡ clique_count (pattern_at ws at)
      part-many = length-take-le k os (offsets-room few os m) ∙ sym cliques-count

      pub part-stand : StandAt ws (pattern_at ws at).cliques (take k os)
      part-stand = stand_taken ws (pattern_at ws at).cliques os k cliques-count (stand_here os st)

      module _ (inside : PatternInside (length ws) at (Some q)) where
        pub part-sortable : SortableCliques ws (take (q.cliques - q.ordering) (drop q.ordering ws)) (take k os)
        part-sortable = rw (ordering-part inside) (all-stand (pattern_at ws at) ok ws os k cliques-count (offsets-room few os m) (stand_here os st) few)

        pub part-rows : (base : ℕ)
            → join (rows_here base ws (take (q.cliques - q.ordering) (drop q.ordering ws))) (take k os) ≡ standard_pattern_rows (pattern_at ws at) base
        part-rows base = rw (ordering-part inside) (rows-up (pattern_at ws at) ok ws os k cliques-count (offsets-room few os m) (stand_here os st) base)
