-- The checks of a pattern from those of its head, ordering, snodes and separators, and of all patterns from one after the other.
use Prim.Native.Nat.{ℕ, suc, ◌+◌, ◌-◌, ◌*◌, ◌≤◌, ◌<◌}
use native.Mathlib.Nat.{le_trans}
use native.Mathlib.Omega.{arith}
use mathlib.Core.Path.{◌≡◌, refl, sym, ap, subst, ◌∙◌}
use mathlib.Core.Bool.{Bool, true, false, not, ◌&&◌, ◌||◌}
use mathlib.Core.List.{List, [], ◌∷◌, map}
use lib.ListN.{length, take, drop, length-append}
use lib.Dec.{eqb, leb, ltb, lit≤}
use borrow.Author.Tests.{le-leb, leb-true, ltb-true, eq-eqb, eqb-true, eqb-false, not-true}
use Rattle.layout.specs.General.Lists.{all, sum, is_permutation}
use Rattle.layout.specs.Problems.Cones.{records, is_psd}
use Rattle.layout.specs.General.Triangle.{triangle}
use Rattle.layout.specs.Problems.Patterns.{Read, read, short, and_then, read_many, Pattern, Clique, Head, with_cliques, no_pattern, clique_count, read_head, read_clique, read_cliques, read_pattern, read_patterns, patterns, ends_right, wholly}
use Rattle.layout.specs.Rows.Blocks.{block_rows, overlap_rows}
use Rattle.layout.specs.Checks.{cones_bounded, sizes_bounded, no_cone, names_its_cone, orderings_right, patterns_read, tree_right, cliques_right, RightPattern}
use Rattle.supernode_tree.specs.Reads.{head_of, pattern_read, PatternInside, value_or, is_whole, rest, pattern_at}
use Rattle.supernode_tree.specs.declared.Pattern.{Pattern as PatternAt}
use Rattle.std.specs.Prelude.{Some}
use Rattle.supernode_tree.proofs.Sizes.{triangle-small, blocks-small}
use Rattle.supernode_tree.proofs.Many.{whole-read, ends-whole, many-length}
use Rattle.supernode_tree.proofs.Words.{ends_made, ends_at, length_part}
use Rattle.supernode_tree.proofs.Cliques.{pattern_whole, rest_of_cliques, head_of_whole, cliques_of_whole}
use Rattle.supernode_tree.proofs.Patterns.{patterns_from, patterns-next, patterns_start, patterns-none}
use Rattle.supportedcone.specs.Ranges.{is_psd_of}
use Rattle.supportedcone.specs.Cases.{record_at}
use Rattle.sparsity_pattern.specs.Sparsity.{pattern_right, origins_rise_from}
use Rattle.sparsity_pattern.proofs.Sparsity.{read_start}
use Rattle.check_cliques.specs.Trees.{tree_from, snodes_of, snodes_ok, separators_ok, separator_below, separators_below}
use Rattle.check_cliques.proofs.Trees.{tree-right, below_right, separators-below}
use Rattle.check_patterns.specs.declared.Blocks.{Blocks}
use Rattle.check_patterns.specs.declared.Walk.{Walk}
use Rattle.check_patterns.specs.declared.Accepted.{Accepted}
use Rattle.layout.proofs.Lists.Walks.{all_both}
use Rattle.layout.proofs.Lists.Tests.{and-true, passed, passes, failed, differ}
use Rattle.layout.proofs.Lists.Members.{all-at}
use Rattle.supernode_tree.specs.Sizes.{block_at_most}
use Rattle.check_patterns.proofs.Walked.{and_parts, agree}
use Rattle.check_patterns.proofs.Marks.{met_start, met_turn}
use Rattle.check_members.specs.OnceIn.{once_below}
use Rattle.check_patterns.specs.Accepted.{Summed, pattern_row_count, AllClear, Met, AddsOnce, filled, snodes_right, separators_fit, head_right, cliques_after, vertices_right, pattern_holds, VerticesHold, cliques_of, SnodesHold, SeparatorsHold, no_head, head_at, HeadHolds, PatternHolds, Added, PassedBefore}

and_both : (a b : Bool) → a ≡ true → b ≡ true → (a && b) ≡ true
and_both a b e f = rw (e, f)

-- separators of blocks with at most 256 vertices and with members below n pass check 7
fits-right : (n : ℕ) (cs : List Clique) → separators_fit n cs ≡ true → separators_ok cs ≡ true
fits-right n cs h =
    below_right n cs (and_parts (all (block_at_most 256) cs) (separators_below n cs)
    (sym (all_both (block_at_most 256) (λ (c : Clique). separator_below n cs c.parent c.separator) cs) ∙ h)).1

-- ---- one pattern

whole_of_cliques : (ws : List ℕ) (h : Head) (left : List ℕ) → read_head ws ≡ read h left
    → is_whole (read_cliques h.clique_count left) ≡ true → is_whole (read_pattern ws) ≡ true
whole_of_cliques ws h left e w = rw e (go (read_cliques h.clique_count left) w)
  where
    go : (r : Read (List Clique)) → is_whole r ≡ true → is_whole (and_then r (λ cs end. read (with_cliques h cs) end)) ≡ true
    go (read cs end) w = refl
    go short w = w

abbrev made : ℕ → ℕ → ℕ → ℕ → ℕ → PatternAt
made o v k a c = record { orig_index = o; vertex_count = v; clique_count = k; ordering = a; cliques = c }

-- two patterns read at one offset with the same head are equal
same_pattern : (ws : List ℕ) (at : ℕ) (p r : PatternAt) → pattern_read ws (Some p) ≡ pattern_read ws (Some r)
    → PatternInside (length ws) at (Some p) → PatternInside (length ws) at (Some r) → p ≡ r
same_pattern ws at p r e f g =
    let h : head_of ws p ≡ head_of ws r = ap (value_or no_head) e in
    let o : p.orig_index ≡ r.orig_index = ap (λ (i : Head). i.orig_index) h in
    let v : p.vertex_count ≡ r.vertex_count = ap (λ (i : Head). i.vertex_count) h in
    let k : p.clique_count ≡ r.clique_count = ap (λ (i : Head). i.clique_count) h in
    let a : p.ordering ≡ r.ordering = f.0 ∙ sym g.0 in
    let c : p.cliques ≡ r.cliques = f.1 ∙ ap (λ (i : ℕ). i + p.vertex_count) a ∙ ap (λ (i : ℕ). r.ordering + i) v ∙ sym g.1 in
    ap (λ (i : ℕ). made i p.vertex_count p.clique_count p.ordering p.cliques) o
    ∙ ap (λ (i : ℕ). made r.orig_index i p.clique_count p.ordering p.cliques) v
    ∙ ap (λ (i : ℕ). made r.orig_index r.vertex_count i p.ordering p.cliques) k
    ∙ ap (λ (i : ℕ). made r.orig_index r.vertex_count r.clique_count i p.cliques) a
    ∙ ap (λ (i : ℕ). made r.orig_index r.vertex_count r.clique_count r.ordering i) c

-- what holds of a head that passes
pub head-held : (cones ws : List ℕ) (at least : ℕ) → head_right cones least (read_head (drop at ws)) ≡ true → HeadHolds cones ws at least
head-held cones ws at least t =
    let h = head_at ws at in
    let psd = is_psd_of cones h.orig_index h.vertex_count in
    let (stands, t1) = and_parts (is_whole (read_head (drop at ws))) _ t in
    let (rises, t2) = and_parts (leb least h.orig_index) _ t1 in
    let (some, t3) = and_parts (not (eqb h.clique_count 0)) _ t2 in
    let (few, t4) = and_parts (leb h.clique_count 256) _ t3 in
    let (small, psd) = and_parts (leb h.vertex_count 256) psd t4 in
    record {
      stands = stands;
      rises = leb-true _ _ rises;
      some = not-true _ some;
      few = leb-true _ _ few;
      small = leb-true _ _ small;
      psd = psd;
    }

-- the part of the words that is the ordering
module _ (ws : List ℕ) (at : ℕ) (p : PatternAt) (i : PatternInside (length ws) at (Some p)) where
  pub ordering-fits : (p.ordering ≤ p.cliques) × (p.cliques ≤ length ws)
  ordering-fits = (omega (arith, i.1), i.2)

  pub ordering-many : length (head_of ws p).ordering ≡ p.vertex_count
  ordering-many = length_part p.ordering p.vertex_count ws (omega (arith, i.1, i.2))

  module _ (marks new : List Bool) (clear : AllClear marks)
      (r : Bool) (m : AddsOnce true p.vertex_count marks (take (p.cliques - p.ordering) (drop p.ordering ws)) new r) where
    part : take (p.cliques - p.ordering) (drop p.ordering ws) ≡ (head_of ws p).ordering
    part = let k : p.cliques - p.ordering ≡ p.vertex_count = omega (arith, i.1) in ap (λ (n : ℕ). take n (drop p.ordering ws)) k

    -- marking the ordering succeeds exactly if it is a permutation
    pub ordered : r ≡ is_permutation (head_of ws p).ordering
    ordered =
        (m [] (met_start p.vertex_count marks clear)).0 ∙ ap (once_below p.vertex_count) part
        ∙ ap (λ (n : ℕ). once_below n (head_of ws p).ordering) (sym ordering-many)

    pub ordered_turn : r ≡ true → Met false p.vertex_count new []
    ordered_turn held =
        met_turn p.vertex_count new (head_of ws p).ordering
        (subst (Met true p.vertex_count new) part ((m [] (met_start p.vertex_count marks clear)).1 held)) ordering-many

module _ (cones ws : List ℕ) (w : Walk) (p : PatternAt) (e : pattern_read ws (Some p) ≡ read_head (drop w.next ws))
    (f : HeadHolds cones ws w.next w.least) where
  -- the head at the walk's offset is that of the pattern read there
  same_head : head_at ws w.next ≡ head_of ws p
  same_head = ap (value_or no_head) (sym e)

  -- if the head is valid, the checks of the vertices are those of the ordering and of the snodes
  pub vertices_are : head_right cones w.least (read_head (drop w.next ws)) ≡ true → vertices_right cones w.least (read_head (drop w.next ws))
      ≡ (is_permutation (head_of ws p).ordering && snodes_right p.clique_count p.vertex_count (read_cliques p.clique_count (drop p.cliques ws)))
  vertices_are right =
      and-true _ _ right
      ∙ ap (λ (r : Read Head). is_permutation (value_or no_head r).ordering && snodes_right (value_or no_head r).clique_count (value_or no_head r).vertex_count (cliques_after r)) (sym e)

  pub clique-room : p.clique_count ≤ 256
  clique-room = subst (λ (h : Head). h.clique_count ≤ 256) same_head f.few

  pub vertex_room : p.vertex_count ≤ 256
  vertex_room = subst (λ (h : Head). h.vertex_count ≤ 256) same_head f.small

  pub vertices_hold_lem : (offsets : List ℕ) → PatternInside (length ws) w.next (Some p) → is_permutation (head_of ws p).ordering ≡ true
      → SnodesHold ws p offsets → VerticesHold cones ws w offsets
  vertices_hold_lem offsets inside ordering s = record {
    head = f;
    vertices = λ r g i. subst (λ (x : PatternAt). (is_permutation (head_of ws x).ordering ≡ true) × SnodesHold ws x offsets)
        (same_pattern ws w.next p r (e ∙ sym g) inside i) (ordering, s);
  }

  few-all : (d k : ℕ) → d ≤ k * 32896 → k ≤ 256 → d ≤ 8421376
  few-all d k l h = omega arith

  pub pattern_holds_lem : (b : Blocks) (offsets : List ℕ) → is_permutation (head_of ws p).ordering ≡ true → SnodesHold ws p offsets → SeparatorsHold ws p b
      → PatternHolds cones ws w b
  pattern_holds_lem b offsets ordering s t =
      let h = head_of ws p in
      let k = p.clique_count in
      let cs = cliques_of ws p in
      let v : pattern_at ws w.next ≡ with_cliques h cs = pattern_whole ws w.next h p.cliques (sym e) s.stand in
      let n : length cs ≡ k = many-length read_clique k (drop p.cliques ws) s.stand in
      let psd : is_psd_of cones p.orig_index p.vertex_count ≡ true = subst (λ (i : Head). is_psd_of cones i.orig_index i.vertex_count ≡ true) same_head f.psd in
      let some : eqb k 0 ≡ false = subst (λ (i : Head). eqb i.clique_count 0 ≡ false) same_head f.some in
      record {
        head = f;
        few-rows = few-all b.dim k t.few-rows clique-room;
        few-overlaps = few-all b.overlaps k t.few-overlaps clique-room;
        origin = ap (λ (i : Pattern). i.orig_index) v ∙ sym (ap (λ (i : Head). i.orig_index) same_head);
        size = ap (λ (i : Pattern). i.vertex_count) v ∙ sym (ap (λ (i : Head). i.vertex_count) same_head);
        count = ap clique_count v ∙ n ∙ sym (ap (λ (i : Head). i.clique_count) same_head);
        stands = whole_of_cliques (drop w.next ws) h (drop p.cliques ws) (sym e) s.stand;
        after = rest_of_cliques (drop w.next ws) h (drop p.cliques ws) (sym e) ∙ t.after;
        inside = t.inside;
        right = ap (pattern_right cones) v ∙ and_both (is_psd_of cones p.orig_index p.vertex_count) (is_permutation h.ordering) psd ordering;
        tree = ap tree_right v ∙ tree-right (with_cliques h cs) ∙ ap (λ (i : ℕ). not (eqb i 0) && tree_from i 0 cs) n ∙ rw some s.tree;
        cliques = ap cliques_right v ∙ rw (s.full, eq-eqb (length (snodes_of cs)) p.vertex_count s.many, s.permutation) (fits-right p.vertex_count cs t.right);
        dim = t.dim ∙ ap block_rows (sym v);
        overlaps = t.overlaps ∙ ap overlap_rows (sym v);
      }

-- ---- the parts of a pattern that passes

-- if no snode is empty, there are at most as many cliques as vertices
filled-count : (cs : List Clique) → all filled cs ≡ true → length cs ≤ length (snodes_of cs)
filled-count [] h = omega arith
filled-count (c ∷ cs) h =
    let (some, others) = and_parts (filled c) (all filled cs) h in
    omega (arith, filled-count cs others, eqb-false (length c.snode) 0 (not-true _ some), length-append c.snode (snodes_of cs))

-- the side of a PSD cone within the bounds of check 1 is at most 256
psd-small : (cones : List ℕ) (i v : ℕ) → cones_bounded cones ≡ true → is_psd_of cones i v ≡ true → v ≤ 256
psd-small cones i v b h =
    let c = record_at cones i in
    let (psd, dimension) = and_parts (ltb i (length (records cones)) && is_psd c) (eqb c.first v) h in
    let (inside, is) = and_parts (ltb i (length (records cones))) (is_psd c) psd in
    let sizes = (and_parts (leb (length (records cones)) 1024) (all sizes_bounded (records cones)) b).1 in
    let fits : sizes_bounded c ≡ true = passed _ ((all-at no_cone sizes_bounded (records cones)).0 (passes _ sizes) i (ltb-true _ _ inside)) in
    let low = (and_parts (leb c.first 65536 && leb c.second 65536) (not (is_psd c) || leb c.first 256) fits).1 in
    let low' : leb c.first 256 ≡ true = sym (ap (λ (t : Bool). not t || leb c.first 256) is) ∙ low in
    omega (arith, leb-true c.first 256 low', eqb-true c.first v dimension)

record Opened (cones : List ℕ) (least : ℕ) (h : Head) (cs : List Clique) : Type 0 where
  rises : leb least h.orig_index ≡ true
  psd : is_psd_of cones h.orig_index h.vertex_count ≡ true
  ordering : is_permutation h.ordering ≡ true
  tree_whole : tree_right (with_cliques h cs) ≡ true
  some : not (eqb h.clique_count 0) ≡ true
  tree : tree_from h.clique_count 0 cs ≡ true
  snodes : snodes_ok h.vertex_count cs ≡ true
  separators : separators_ok cs ≡ true

module _ (cones : List ℕ) (least : ℕ) (l : List ℕ) (h : Head) (left : List ℕ) (e : read_head l ≡ read h left)
    (t : pattern_holds cones least (read_pattern l) ≡ true) where
  abbrev its_cliques : List Clique
  its_cliques = value_or [] (read_cliques h.clique_count left)

  stands-whole : is_whole (read_pattern l) ≡ true
  stands-whole = (and_parts (is_whole (read_pattern l)) _ t).0

  cliques-whole : is_whole (read_cliques h.clique_count left) ≡ true
  cliques-whole = cliques_of_whole l h left e stands-whole

  is_made : value_or no_pattern (read_pattern l) ≡ with_cliques h its_cliques
  is_made = rw e (go (read_cliques h.clique_count left) cliques-whole)
    where
      go : (r : Read (List Clique)) → is_whole r ≡ true → value_or no_pattern (and_then r (λ cs end. read (with_cliques h cs) end)) ≡ with_cliques h (value_or [] r)
      go (read cs end) w = refl
      go short w = absurd (differ false w refl)

  opened : Opened cones least h its_cliques
  opened =
      let p = with_cliques h its_cliques in
      let tests : (leb least p.orig_index && (pattern_right cones p && (tree_right p && cliques_right p))) ≡ true =
      sym (ap (λ (q : Pattern). leb least q.orig_index && (pattern_right cones q && (tree_right q && cliques_right q))) is_made)
      ∙ (and_parts (is_whole (read_pattern l)) _ t).1 in
      let (rises, t1) = and_parts (leb least p.orig_index) (pattern_right cones p && (tree_right p && cliques_right p)) tests in
      let (right, t2) = and_parts (pattern_right cones p) (tree_right p && cliques_right p) t1 in
      let (psd, ordering) = and_parts (is_psd_of cones h.orig_index h.vertex_count) (is_permutation h.ordering) right in
      let (tree, cliques) = and_parts (tree_right p) (cliques_right p) t2 in
      let (snodes, separators) = and_parts (snodes_ok h.vertex_count its_cliques) (separators_ok its_cliques) cliques in
      let n : length its_cliques ≡ h.clique_count = many-length read_clique h.clique_count left cliques-whole in
      let (some, from) = and_parts (not (eqb h.clique_count 0)) (tree_from h.clique_count 0 its_cliques)
      (sym (tree-right p ∙ ap (λ (i : ℕ). not (eqb i 0) && tree_from i 0 its_cliques) n) ∙ tree) in
      record { rises = rises; psd = psd; ordering = ordering; tree_whole = tree; some = some; tree = from; snodes = snodes; separators = separators }

  module _ (b : cones_bounded cones ≡ true) where
    holds_vertices : vertices_right cones least (read_head l) ≡ true
    holds_vertices =
        let o = opened in
        let (counts, permutation) = and_parts (all filled its_cliques && eqb (length (snodes_of its_cliques)) h.vertex_count) (is_permutation (snodes_of its_cliques)) o.snodes in
        let (full, many) = and_parts (all filled its_cliques) (eqb (length (snodes_of its_cliques)) h.vertex_count) counts in
        let small : h.vertex_count ≤ 256 = psd-small cones h.orig_index h.vertex_count b o.psd in
        let few : h.clique_count ≤ 256 =
        omega (arith, filled-count its_cliques full, eqb-true (length (snodes_of its_cliques)) h.vertex_count many, many-length read_clique h.clique_count left cliques-whole) in
        ap (vertices_right cones least) e
        ∙ and_both (head_right cones least (read h left)) _
        (and_both (leb least h.orig_index) _ o.rises (and_both (not (eqb h.clique_count 0)) _ o.some (and_both (leb h.clique_count 256) _ (le-leb _ _ few)
        (and_both (leb h.vertex_count 256) (is_psd_of cones h.orig_index h.vertex_count) (le-leb _ _ small) o.psd))))
        (and_both (is_permutation h.ordering) _ o.ordering (and_both (is_whole (read_cliques h.clique_count left)) _ cliques-whole
        (and_both (tree_from h.clique_count 0 its_cliques) (snodes_ok h.vertex_count its_cliques) o.tree o.snodes)))

    -- no block is larger than the cone: a separator has no duplicates and its members are in later snodes
    pub holds_fits : length h.ordering ≡ h.vertex_count → separators_fit h.vertex_count its_cliques ≡ true
    holds_fits many =
        let o = opened in
        let p = with_cliques h its_cliques in
        let ok : RightPattern p = record {
          tree = passes _ o.tree_whole;
          cliques = passes _ (and_both (snodes_ok h.vertex_count its_cliques) (separators_ok its_cliques) o.snodes o.separators);
          ordered = record { permutation = passes _ o.ordering; vertices = many };
        } in
        all_both (block_at_most 256) (λ (c : Clique). separator_below h.vertex_count its_cliques c.parent c.separator) its_cliques
        ∙ and_both (all (block_at_most 256) its_cliques) (separators_below h.vertex_count its_cliques)
        (blocks-small p 256 ok (psd-small cones h.orig_index h.vertex_count b o.psd)) (separators-below p o.tree_whole o.snodes ∙ o.separators)

-- a pattern fails if its head, its ordering or its snodes do
pub vertices_needed : (cones : List ℕ) (least : ℕ) (l : List ℕ) → cones_bounded cones ≡ true → vertices_right cones least (read_head l) ≡ false
    → pattern_holds cones least (read_pattern l) ≡ false
vertices_needed cones least l b fell = failed _ (λ t.
    let holds = passed _ t in
    let w = head_of_whole l (and_parts (is_whole (read_pattern l)) _ holds).0 in
    differ _ (holds_vertices cones least l (value_or no_head (read_head l)) (rest (read_head l)) (whole-read no_head (read_head l) w) holds b) fell)

pub pattern_passes : (cones ws : List ℕ) (w : Walk) (b : Blocks) → PatternHolds cones ws w b → pattern_holds cones w.least (read_pattern (drop w.next ws)) ≡ true
pattern_passes cones ws w b h =
    let p = pattern_at ws w.next in
    and_both (is_whole (read_pattern (drop w.next ws))) _ h.stands (and_both (leb w.least p.orig_index) _ (le-leb _ _ (subst (λ (i : ℕ). w.least ≤ i) (sym h.origin) h.head.rises))
    (and_both (pattern_right cones p) _ h.right (and_both (tree_right p) (cliques_right p) h.tree h.cliques)))

-- ---- what is left to check of the patterns from an offset on

module _ {A : Type 0} where
  -- a value, and those read after it
  abbrev with_first : A → Read (List A) → Read (List A)
  with_first a others = and_then others (λ more end. read (a ∷ more) end)

  -- k values are the first and then k - 1
  many_opened : (one : List ℕ → Read A) (k : ℕ) (ws : List ℕ) → 0 < k
      → read_many one k ws ≡ and_then (one ws) (λ a left. with_first a (read_many one (k - 1) left))
  many_opened one k ws more = let o : k ≡ suc (k - 1) = omega arith in ap (λ (n : ℕ). read_many one n ws) o

  many-first : (one : List ℕ → Read A) (k : ℕ) (ws left : List ℕ) (a : A) → 0 < k → one ws ≡ read a left
      → read_many one k ws ≡ with_first a (read_many one (k - 1) left)
  many-first one k ws left a more e = many_opened one k ws more ∙ ap (λ (r : Read A). and_then r (λ a left. with_first a (read_many one (k - 1) left))) e

  many-ends : (one : List ℕ → Read A) (k : ℕ) (ws left : List ℕ) (a : A) → 0 < k → one ws ≡ read a left
      → ends_right (read_many one k ws) ≡ ends_right (read_many one (k - 1) left)
  many-ends one k ws left a more e = ap ends_right (many-first one k ws left a more e) ∙ ends_made (read_many one (k - 1) left) (λ others. a ∷ others)

  -- a test that the first value passes is one of the values after it
  all_after : (f : A → Bool) (a : A) (others : Read (List A)) → f a ≡ true → all f (wholly [] (with_first a others)) ≡ all f (wholly [] others)
  all_after f a (read more []) e = and-true (f a) (all f more) e
  all_after f a (read more (w ∷ ws)) e = refl
  all_after f a short e = refl

-- check 5 of patterns that have been read, and checks 5, 6 and 7
abbrev read_right : List ℕ → ℕ → Read (List Pattern) → Bool
read_right cones least r =
    let ps = wholly [] r in ends_right r && origins_rise_from least ps && all (names_its_cone (records cones)) ps && orderings_right ps

abbrev all_right : List ℕ → ℕ → Read (List Pattern) → Bool
all_right cones least r = read_right cones least r && all tree_right (wholly [] r) && all cliques_right (wholly [] r)

and_three : (a b c x y z : Bool) → a ≡ true → b ≡ true → c ≡ true → ((a && x) && (b && y) && (c && z)) ≡ (x && y && z)
and_three a b c x y z e f g = rw (e, f, g)

-- check 5 where the first pattern passes it: the others may not name its cone or one before it
right-after : (cones : List ℕ) (least : ℕ) (p : Pattern) (others : Read (List Pattern)) → leb least p.orig_index ≡ true → pattern_right cones p ≡ true
    → read_right cones least (with_first p others) ≡ read_right cones (suc p.orig_index) others
right-after cones least p (read more []) low right =
    let (named, ordered) = and_parts (names_its_cone (records cones) p) (is_permutation p.ordering) right in
    and_three (leb least p.orig_index) (names_its_cone (records cones) p) (is_permutation p.ordering)
    (origins_rise_from (suc p.orig_index) more) (all (names_its_cone (records cones)) more) (orderings_right more) low named ordered
right-after cones least p (read more (w ∷ ws)) low right = refl
right-after cones least p short low right = refl

-- if the checks pass for all patterns, they pass for the first
first_passes : (cones : List ℕ) (least : ℕ) (r : Read Pattern) (others : List ℕ → Read (List Pattern))
    → all_right cones least (and_then r (λ p left. with_first p (others left))) ≡ true → pattern_holds cones least r ≡ true
first_passes cones least short others h = absurd (differ false h refl)
first_passes cones least (read p left) others h = go (others left) h
  where
    go : (o : Read (List Pattern)) → all_right cones least (with_first p o) ≡ true → pattern_holds cones least (read p left) ≡ true
    go (read more []) t =
        let names : Pattern → Bool = names_its_cone (records cones) in
        let rise = origins_rise_from least (p ∷ more) in
        let (both, cliques) = and_parts (read_right cones least (read (p ∷ more) []) && all tree_right (p ∷ more)) (all cliques_right (p ∷ more)) t in
        let (five, trees) = and_parts (read_right cones least (read (p ∷ more) [])) (all tree_right (p ∷ more)) both in
        let (front, orderings) = and_parts (rise && all names (p ∷ more)) (orderings_right (p ∷ more)) five in
        let (rises, named) = and_parts rise (all names (p ∷ more)) front in
        let low = (and_parts (leb least p.orig_index) (origins_rise_from (suc p.orig_index) more) rises).0 in
        let name = (and_parts (names p) (all names more) named).0 in
        let ordering = (and_parts (is_permutation p.ordering) (orderings_right more) orderings).0 in
        and_both (leb least p.orig_index) _ low (and_both (pattern_right cones p) _ (and_both (names p) (is_permutation p.ordering) name ordering)
        (and_both (tree_right p) (cliques_right p) (and_parts (tree_right p) (all tree_right more) trees).0 (and_parts (cliques_right p) (all cliques_right more) cliques).0))
    go (read more (w ∷ ws)) t = absurd (differ false t refl)
    go short t = absurd (differ false t refl)

-- where no pattern is left, all that the checks ask is that the words end
abbrev none_read : List ℕ → Read (List Pattern)
none_read ws = read [] ws

none_right : (cones : List ℕ) (least : ℕ) (ws : List ℕ) → all_right cones least (none_read ws) ≡ ends_right (none_read ws)
none_right cones least [] = refl
none_right cones least (w ∷ ws) = refl

-- checks 5, 6 and 7 of all patterns
abbrev all_hold : List ℕ → ℕ → List ℕ → Bool
all_hold cones count ws = patterns_read cones count ws && all tree_right (patterns count ws) && all cliques_right (patterns count ws)

at_end : (at n : ℕ) → at ≤ n → eqb at n ≡ leb n at
at_end at n l = agree _ _ (λ e. le-leb n at (omega (arith, eqb-true at n e))) (λ e. eq-eqb at n (omega (arith, leb-true n at e)))

module _ {cones : List ℕ} {count : ℕ} {ws : List ℕ} {next least left : ℕ} (h : PassedBefore cones count ws next least left) where
  -- the checks of all patterns are those of the patterns left
  pub passed_together : all_hold cones count ws ≡ all_right cones least (read_patterns left (drop next ws))
  passed_together = rw (h.five, h.six, h.seven)

  -- if the next pattern fails, the checks of all patterns fail
  pub passed_stops : 0 < left → pattern_holds cones least (read_pattern (drop next ws)) ≡ false → false ≡ all_hold cones count ws
  passed_stops more fell = sym (failed (all_hold cones count ws) (λ t. differ (pattern_holds cones least (read_pattern (drop next ws)))
      (first_passes cones least (read_pattern (drop next ws)) (λ (later : List ℕ). read_patterns (left - 1) later)
      (sym (passed_together ∙ ap (all_right cones least) (many_opened read_pattern left (drop next ws) more)) ∙ passed (all_hold cones count ws) t)) fell))

  -- if no pattern is left, the checks pass exactly if the walk is at the end of the words
  pub passed_done : left ≤ 0 → eqb next (length ws) ≡ all_hold cones count ws
  passed_done none =
      let z : left ≡ 0 = omega arith in
      at_end next (length ws) h.inside
      ∙ sym (passed_together ∙ ap (λ (k : ℕ). all_right cones least (read_patterns k (drop next ws))) z ∙ none_right cones least (drop next ws) ∙ ends_at {A = List Pattern} [] ws next)

  pub passed_same : {n l k : ℕ} → n ≡ next → l ≡ least → k ≡ left → PassedBefore cones count ws n l k
  passed_same {n} {l} {k} e f g =
      subst (λ (i : ℕ). PassedBefore cones count ws i l k) (sym e)
      (subst (λ (i : ℕ). PassedBefore cones count ws next i k) (sym f) (subst (PassedBefore cones count ws next least) (sym g) h))

pub passed_start : (cones : List ℕ) (count : ℕ) (ws : List ℕ) → PassedBefore cones count ws 0 0 count
passed_start cones count ws = record { inside = omega arith; five = read_start cones count ws; six = refl; seven = refl }

-- the walk's totals and those of the patterns left add up to the totals over all patterns
pub record Summing (ws : List ℕ) (count : ℕ) (w : Walk) (left : ℕ) : Type 0 where
  pub dim : w.dim + sum (map block_rows (patterns_from ws w.next left)) ≡ sum (map block_rows (patterns_from ws 0 count))
  pub cut : w.cut + sum (map pattern_row_count (patterns_from ws w.next left)) ≡ sum (map pattern_row_count (patterns_from ws 0 count))
  pub overlaps : w.overlaps + sum (map overlap_rows (patterns_from ws w.next left)) ≡ sum (map overlap_rows (patterns_from ws 0 count))
  pub cliques : w.cliques + sum (map clique_count (patterns_from ws w.next left)) ≡ sum (map clique_count (patterns_from ws 0 count))

-- if the patterns left end with the words, all patterns do, and the totals add up
abbrev pub Going : ℕ → List ℕ → Walk → ℕ → Type 0
Going count ws w left =
    ends_right (read_patterns left (drop w.next ws)) ≡ true → (ends_right (read_patterns count ws) ≡ true) × Summing ws count w left

-- the walk's totals have room for the patterns left, so that no sum overflows
pub record Bounded (count : ℕ) (w : Walk) (left : ℕ) : Type 0 where
  pub dim : w.dim + left * 8421376 ≤ count * 8421376
  pub cut : w.cut + left * 8421376 ≤ count * 8421376
  pub overlaps : w.overlaps + left * 8421376 ≤ count * 8421376
  pub cliques : w.cliques + left * 8421376 ≤ count * 8421376

abbrev started : Walk
started = record { next = 0; least = 0; dim = 0; cut = 0; overlaps = 0; cliques = 0 }

pub bounded_start : (count : ℕ) → Bounded count started count
bounded_start count = record { dim = omega arith; cut = omega arith; overlaps = omega arith; cliques = omega arith }

pub bounded-done : (count : ℕ) (w : Walk) (left : ℕ) → Bounded count w left → (r : Accepted) → r.dim ≡ w.dim → r.cliques ≡ w.cliques
    → (r.dim ≤ count * 8421376) × (r.cliques ≤ count * 8421376)
bounded-done count w left s r d c = (omega (arith, s.dim), omega (arith, s.cliques))

pub going_start : (count : ℕ) (ws : List ℕ) → Going count ws started count
going_start count ws e = (e, record { dim = omega arith; cut = omega arith; overlaps = omega arith; cliques = omega arith })

module _ (cones ws : List ℕ) (count : ℕ) (w : Walk) (b : Blocks) (left : ℕ) (more : 0 < left) (h : PatternHolds cones ws w b) where
  small-sum : (d x : ℕ) → count < 4294967296 → x ≤ 8421376 → d + left * 8421376 ≤ count * 8421376 → d + x < 18446744073709551616
  small-sum d x few l k = omega arith

  pub fits_all : count < 4294967296 → Bounded count w left
      → (w.dim + b.dim < 18446744073709551616) × (w.cut + 32896 < 18446744073709551616) × (w.overlaps + b.overlaps < 18446744073709551616)
      × (w.cliques + 256 < 18446744073709551616)
  fits_all few s = (
    small-sum w.dim b.dim few h.few-rows s.dim,
    small-sum w.cut 32896 few (lit≤ tt) s.cut,
    small-sum w.overlaps b.overlaps few h.few-overlaps s.overlaps,
    small-sum w.cliques 256 few (lit≤ tt) s.cliques,
  )

  module _ (r : Walk) (a : Added ws w b r) where
    less_left : (d x e : ℕ) → e ≡ d + x → x ≤ 8421376 → d + left * 8421376 ≤ count * 8421376 → e + (left - 1) * 8421376 ≤ count * 8421376
    less_left d x e q l k = omega arith

    pub bounded_more : Bounded count w left → Bounded count r (left - 1)
    bounded_more s = record {
      dim = less_left w.dim b.dim r.dim a.2 h.few-rows s.dim;
      cut = less_left w.cut (triangle (head_at ws w.next).vertex_count) r.cut a.3 (le_trans (triangle-small (head_at ws w.next).vertex_count h.head.small) (lit≤ tt)) s.cut;
      overlaps = less_left w.overlaps b.overlaps r.overlaps a.4 h.few-overlaps s.overlaps;
      cliques = less_left w.cliques (head_at ws w.next).clique_count r.cliques a.5 (le_trans h.head.few (lit≤ tt)) s.cliques;
    }

    after : rest (read_pattern (drop w.next ws)) ≡ drop r.next ws
    after = h.after ∙ ap (λ (i : ℕ). drop i ws) (sym a.0)

    reads : read_pattern (drop w.next ws) ≡ read (pattern_at ws w.next) (drop r.next ws)
    reads = whole-read no_pattern (read_pattern (drop w.next ws)) h.stands ∙ ap (read (pattern_at ws w.next)) after

    pub passed_on : PassedBefore cones count ws w.next w.least left → PassedBefore cones count ws r.next r.least (left - 1)
    passed_on old =
        let p = pattern_at ws w.next in
        let later : Read (List Pattern) = read_patterns (left - 1) (drop r.next ws) in
        let front = many-first read_pattern left (drop w.next ws) (drop r.next ws) p more reads in
        let s : suc p.orig_index ≡ r.least = omega (arith, h.origin, a.1) in
        record {
          inside = omega (arith, a.0, h.inside);
          five = old.five ∙ ap (read_right cones w.least) front
              ∙ right-after cones w.least p later (le-leb w.least p.orig_index (omega (arith, h.head.rises, h.origin))) h.right
              ∙ ap (λ (n : ℕ). read_right cones n later) s;
          six = old.six ∙ ap (λ (ps : Read (List Pattern)). all tree_right (wholly [] ps)) front ∙ all_after tree_right p later h.tree;
          seven = old.seven ∙ ap (λ (ps : Read (List Pattern)). all cliques_right (wholly [] ps)) front ∙ all_after cliques_right p later h.cliques;
        }

    module _ (e : ends_right (read_patterns (left - 1) (drop r.next ws)) ≡ true) where
      ending : ends_right (read_patterns left (drop w.next ws)) ≡ true
      ending = many-ends read_pattern left (drop w.next ws) (drop r.next ws) (pattern_at ws w.next) more reads ∙ e

      first_is : patterns_from ws w.next left ≡ pattern_at ws w.next ∷ patterns_from ws r.next (left - 1)
      first_is = patterns-next ws w.next left more (ends-whole (read_patterns left (drop w.next ws)) ending) r.next after

      -- adding the next pattern to a total and removing it from those left keeps the sum
      sum_more : (f : Pattern → ℕ) (n t m s : ℕ) → m ≡ n + t → t ≡ f (pattern_at ws w.next) → n + sum (map f (patterns_from ws w.next left)) ≡ s
          → m + sum (map f (patterns_from ws r.next (left - 1))) ≡ s
      sum_more f n t m s p q k = omega (arith, ap (λ (ps : List Pattern). sum (map f ps)) first_is)

      pub going_on : Going count ws w left → (ends_right (read_patterns count ws) ≡ true) × Summing ws count r (left - 1)
      going_on go =
          let (ends, s) = go ending in (
            ends,
            record {
              dim = sum_more block_rows w.dim b.dim r.dim _ a.2 h.dim s.dim;
              cut = sum_more pattern_row_count w.cut (triangle (head_at ws w.next).vertex_count) r.cut _ a.3 (ap triangle (sym h.size)) s.cut;
              overlaps = sum_more overlap_rows w.overlaps b.overlaps r.overlaps _ a.4 h.overlaps s.overlaps;
              cliques = sum_more clique_count w.cliques (head_at ws w.next).clique_count r.cliques _ a.5 (sym h.count) s.cliques;
            },
          )

sum_done : (f : Pattern → ℕ) (ws : List ℕ) (at left n s : ℕ) → left ≤ 0 → n + sum (map f (patterns_from ws at left)) ≡ s → n ≡ s
sum_done f ws at left n s z h = omega (arith, ap (λ (ps : List Pattern). sum (map f ps)) (patterns-none ws at left z))

-- if the walk ends at the end of the words, its totals are those over all patterns
pub going_done : (count : ℕ) (ws : List ℕ) (w : Walk) (left : ℕ) (r : Accepted) → left ≤ 0 → Going count ws w left
    → w.next ≡ length ws → r.dim ≡ w.dim → r.cut ≡ w.cut → r.overlaps ≡ w.overlaps → r.cliques ≡ w.cliques → Summed (patterns count ws) r
going_done count ws w left r z go e d c o k =
    let none : left ≡ 0 = omega arith in
    let (ends, s) = go (ap (λ (k : ℕ). ends_right (read_patterns k (drop w.next ws))) none ∙ ends_at {A = List Pattern} [] ws w.next ∙ le-leb (length ws) w.next (omega arith)) in
    let same = sym (patterns_start ws count ends) in (
      d ∙ sum_done block_rows ws w.next left w.dim _ z s.dim ∙ ap (λ (ps : List Pattern). sum (map block_rows ps)) same,
      c ∙ sum_done pattern_row_count ws w.next left w.cut _ z s.cut ∙ ap (λ (ps : List Pattern). sum (map pattern_row_count ps)) same,
      o ∙ sum_done overlap_rows ws w.next left w.overlaps _ z s.overlaps ∙ ap (λ (ps : List Pattern). sum (map overlap_rows ps)) same,
      k ∙ sum_done clique_count ws w.next left w.cliques _ z s.cliques ∙ ap (λ (ps : List Pattern). sum (map clique_count ps)) same,
    )
