-- The walk over the cliques of a pattern, from the first on.
use Prim.Native.Nat.{ℕ, zero, suc, ◌+◌, ◌-◌, ◌*◌, ◌<◌}
use native.Mathlib.Numerals.{add-one}
use native.Mathlib.Omega.{arith}
use mathlib.Core.Path.{◌≡◌, refl, sym, ap, subst, ◌∙◌}
use mathlib.Core.Bool.{Bool, true, false, not, ◌&&◌}
use mathlib.Core.List.{List, [], ◌∷◌, ◌++◌, append-nil, append_assoc}
use lib.ListN.{length, drop, set, length-append}
use lib.Dec.{eqb}
use borrow.Author.Tests.{eqb-true, eq-eqb}
use Rattle.layout.proofs.Lists.Tests.{and_iff, passed, passes, failed, differ}
use Rattle.layout.specs.General.Lists.{all, is_permutation}
use Rattle.layout.specs.Problems.Patterns.{Read, read, short, and_then, read_many, Clique, no_clique, read_clique, read_cliques}
use Rattle.layout.proofs.Lists.Starts.{join-append}
use Rattle.supernode_tree.specs.Reads.{clique_of, clique_read, CliqueInside, is_whole, rest, value_or, clique_here}
use Rattle.supernode_tree.specs.declared.Clique.{Clique as CliqueAt}
use Rattle.supernode_tree.specs.declared.Pattern.{Pattern as PatternAt}
use Rattle.std.specs.Prelude.{Some}
use Rattle.supernode_tree.proofs.Words.{length_part}
use Rattle.supernode_tree.proofs.Many.{whole-read, first-whole, many-value, many-whole}
use Rattle.supernode_tree.proofs.Cliques.{snode-size, separator-size}
use Rattle.supernode_tree.proofs.Offsets.{after, Written, written_more, written_all}
use Rattle.check_cliques.specs.Trees.{parent_ok, clique_ok, tree_from, snodes_of, snodes_ok}
use Rattle.layout.proofs.Lists.Walks.{all_append}
use Rattle.check_members.specs.OnceIn.{once_below}
use Rattle.check_patterns.specs.Accepted.{AllClear, Met, filled, clique_right, snodes_right, cliques_of, SnodeHolds, SnodesHold}
use Rattle.check_patterns.proofs.Marks.{met_all, met_clear, once_front}

-- ---- one more clique after those read

module _ {A : Type 0} (one : List ℕ → Read A) where
  last : List A → List ℕ → Read (List A)
  last front left = and_then (one left) (λ a end. read (front ++ (a ∷ [])) end)

  many-suc : (c : ℕ) (ws : List ℕ) → read_many one (suc c) ws ≡ and_then (read_many one c ws) last
  unfolding last
  many-suc zero ws = go (one ws)
    where
      go : (r : Read A) → and_then r (λ a left. and_then (read [] left) (λ more end. read (a ∷ more) end)) ≡ and_then r (λ a end. read (a ∷ []) end)
      go (read a left) = refl
      go short = refl
  many-suc (suc c) ws = go (one ws) (many-suc c)
    where
      third : (a : A) (front : List A) (r : Read A)
          → and_then (and_then r (λ b end. read (front ++ (b ∷ [])) end)) (λ more end. read (a ∷ more) end)
          ≡ and_then r (λ b end. read ((a ∷ front) ++ (b ∷ [])) end)
      third a front (read b end) = refl
      third a front short = refl

      second : (a : A) (r : Read (List A))
          → and_then (and_then r last) (λ more end. read (a ∷ more) end) ≡ and_then (and_then r (λ more end. read (a ∷ more) end)) last
      second a (read front left) = third a front (one left)
      second a short = refl

      go : (r : Read A) → ((left : List ℕ) → read_many one (suc c) left ≡ and_then (read_many one c left) last)
          → and_then r (λ a left. and_then (read_many one (suc c) left) (λ more end. read (a ∷ more) end))
          ≡ and_then (and_then r (λ a left. and_then (read_many one c left) (λ more end. read (a ∷ more) end))) last
      go (read a left) others =
          ap (λ (r : Read (List A)). and_then r (λ more end. read (a ∷ more) end)) (others left) ∙ second a (read_many one c left)
      go short others = refl

  many_last : (c : ℕ) (ws left end : List ℕ) (front : List A) (a : A) → read_many one c ws ≡ read front left → one left ≡ read a end
      → read_many one (c + 1) ws ≡ read (front ++ (a ∷ [])) end
  unfolding last
  many_last c ws left end front a e f = rw add-one (many-suc c ws ∙ ap (λ (r : Read (List A)). and_then r last) e ∙ ap (λ (r : Read A). and_then r (λ a end. read (front ++ (a ∷ [])) end)) f)

all_last : {A : Type 0} (f : A → Bool) (xs : List A) (x : A) → all f xs ≡ true → f x ≡ true → all f (xs ++ (x ∷ [])) ≡ true
all_last f xs x h e = all_append f xs (x ∷ []) ∙ rw (h, e)

tree_last : (k c : ℕ) (qs : List Clique) (q : Clique) → tree_from k c qs ≡ true → clique_ok k (c + length qs) q ≡ true
    → tree_from k c (qs ++ (q ∷ [])) ≡ true
tree_last k c [] q h e = let z : c + 0 ≡ c = omega arith in rw (ap (λ (i : ℕ). clique_ok k i q) (sym z) ∙ e)
tree_last k c (p ∷ qs) q h e = go (clique_ok k c p) h (tree_last k (suc c) qs q)
  where
    go : (b : Bool) → (b && tree_from k (suc c) qs) ≡ true
        → (tree_from k (suc c) qs ≡ true → clique_ok k (suc c + length qs) q ≡ true → tree_from k (suc c) (qs ++ (q ∷ [])) ≡ true)
        → (b && tree_from k (suc c) (qs ++ (q ∷ []))) ≡ true
    go true h more = let s : suc c + length qs ≡ c + suc (length qs) = omega arith in more h (ap (λ (i : ℕ). clique_ok k i q) s ∙ e)
    go false h more = h

-- a clique that is read is valid exactly if its snode is not empty and its parent is valid
pub clique_is : (ws : List ℕ) (at c count : ℕ) (q : CliqueAt) → read_clique (drop at ws) ≡ read (clique_of ws q) (drop q.next ws)
    → CliqueInside (length ws) at (Some q)
    → clique_right count c (read_clique (drop at ws)) ≡ (not (eqb q.snode_count 0) && parent_ok count c q.parent q.separator_count)
clique_is ws at c count q e inside =
    ap (clique_right count c) e
    ∙ ap (λ (n : ℕ). not (eqb n 0) && clique_ok count c (clique_of ws q)) (snode-size ws at q inside)
    ∙ ap (λ (n : ℕ). not (eqb q.snode_count 0) && parent_ok count c q.parent n) (separator-size ws at q inside)

-- two tests are equal if each passes where the other does
pub agree : (a b : Bool) → (a ≡ true → b ≡ true) → (b ≡ true → a ≡ true) → a ≡ b
agree true b f g = sym (f refl)
agree false b f g = sym (failed b (λ t. differ false (g (passed b t)) refl))

pub and_parts : (a b : Bool) → (a && b) ≡ true → (a ≡ true) × (b ≡ true)
and_parts a b h = let (f, g) = (and_iff a b).0 (passes (a && b) h) in (passed a f, passed b g)

-- ---- the cliques left, where all of them pass

pub record Later (k n c : ℕ) (met : List ℕ) (r : Read (List Clique)) : Type 0 where
  pub stand : is_whole r ≡ true
  pub tree : tree_from k c (value_or [] r) ≡ true
  pub full : all filled (value_or [] r) ≡ true
  pub many : length met + length (snodes_of (value_or [] r)) ≡ n
  pub once : once_below n (met ++ snodes_of (value_or [] r)) ≡ true

later_start : (k n : ℕ) (r : Read (List Clique)) → snodes_right k n r ≡ true → Later k n 0 [] r
later_start k n r h =
    let cs = value_or [] r in
    let (stand, others) = and_parts (is_whole r) (tree_from k 0 cs && snodes_ok n cs) h in
    let (tree, snodes) = and_parts (tree_from k 0 cs) (snodes_ok n cs) others in
    let (counts, permutation) = and_parts (all filled cs && eqb (length (snodes_of cs)) n) (is_permutation (snodes_of cs)) snodes in
    let (full, many) = and_parts (all filled cs) (eqb (length (snodes_of cs)) n) counts in
    let e : length (snodes_of cs) ≡ n = eqb-true _ _ many in
    record {
      stand = stand;
      tree = tree;
      full = full;
      many = omega arith;
      once = ap (λ (m : ℕ). once_below m (snodes_of cs)) (sym e) ∙ permutation;
    }

module _ (ws : List ℕ) (k n c at left : ℕ) (met : List ℕ) (more : 0 < left) (h : Later k n c met (read_cliques left (drop at ws))) where
  first_read : read_clique (drop at ws) ≡ read (clique_here ws at) (rest (read_clique (drop at ws)))
  first_read = whole-read no_clique (read_clique (drop at ws)) (first-whole read_clique left (drop at ws) more h.stand)

  abbrev others : Read (List Clique)
  others = read_cliques (left - 1) (rest (read_clique (drop at ws)))

  opened : value_or [] (read_cliques left (drop at ws)) ≡ clique_here ws at ∷ value_or [] others
  opened = many-value read_clique left (drop at ws) more (clique_here ws at) (rest (read_clique (drop at ws))) first_read h.stand

  trees : (clique_ok k c (clique_here ws at) ≡ true) × (tree_from k (suc c) (value_or [] others) ≡ true)
  trees = and_parts _ _ (sym (ap (tree_from k c) opened) ∙ h.tree)

  fulls : (filled (clique_here ws at) ≡ true) × (all filled (value_or [] others) ≡ true)
  fulls = and_parts _ _ (sym (ap (all filled) opened) ∙ h.full)

  snodes_opened : met ++ snodes_of (value_or [] (read_cliques left (drop at ws))) ≡ (met ++ (clique_here ws at).snode) ++ snodes_of (value_or [] others)
  snodes_opened = ap (λ (cs : List Clique). met ++ snodes_of cs) opened ∙ sym (append_assoc met (clique_here ws at).snode (snodes_of (value_or [] others)))

  once_opened : once_below n ((met ++ (clique_here ws at).snode) ++ snodes_of (value_or [] others)) ≡ true
  once_opened = sym (ap (once_below n) snodes_opened) ∙ h.once

  -- the first of the cliques left passes
  later_first : (clique_right k c (read_clique (drop at ws)) && once_below n (met ++ (clique_here ws at).snode)) ≡ true
  later_first =
      let right : clique_right k c (read_clique (drop at ws)) ≡ true = ap (clique_right k c) first_read ∙ rw (fulls.0, trees.0) in
      rw (right, once_front n (met ++ (clique_here ws at).snode) (snodes_of (value_or [] others)) once_opened)

  -- the cliques after the first pass
  later-next : (next : ℕ) (us : List ℕ) → rest (read_clique (drop at ws)) ≡ drop next ws → (clique_here ws at).snode ≡ us
      → Later k n (c + 1) (met ++ us) (read_cliques (left - 1) (drop next ws))
  later-next next us e f =
      subst (λ (vs : List ℕ). Later k n (c + 1) (met ++ vs) (read_cliques (left - 1) (drop next ws))) f
      (subst (λ (l : List ℕ). Later k n (c + 1) (met ++ (clique_here ws at).snode) (read_cliques (left - 1) l)) e (record {
        stand = sym (many-whole read_clique left (drop at ws) more (clique_here ws at) (rest (read_clique (drop at ws))) first_read) ∙ h.stand;
        tree = let s : c + 1 ≡ suc c = omega arith in ap (λ (i : ℕ). tree_from k i (value_or [] others)) s ∙ trees.1;
        full = fulls.1;
        many = omega (arith, h.many, ap length snodes_opened, length-append met (snodes_of (value_or [] (read_cliques left (drop at ws)))), length-append (met ++ (clique_here ws at).snode) (snodes_of (value_or [] others)));
        once = once_opened;
      }))

-- ---- the state of the walk after c cliques

pub record Walked (ws : List ℕ) (p : PatternAt) (marks : List Bool) (offsets : List ℕ) (total at c : ℕ) : Type 0 where
  pub cliques : List Clique
  pub as_many : length cliques ≡ c
  pub reads : read_cliques c (drop p.cliques ws) ≡ read cliques (drop at ws)
  pub tree : tree_from p.clique_count 0 cliques ≡ true
  pub full : all filled cliques ≡ true
  pub met : Met false p.vertex_count marks (snodes_of cliques)
  pub many : length (snodes_of cliques) ≡ total
  pub starts : Written ws p.cliques 1 c offsets
  pub later : snodes_right p.clique_count p.vertex_count (read_cliques p.clique_count (drop p.cliques ws)) ≡ true
      → Later p.clique_count p.vertex_count c (snodes_of cliques) (read_cliques (p.clique_count - c) (drop at ws))

pub walked_none : (ws : List ℕ) (p : PatternAt) (marks : List Bool) (offsets : List ℕ) → Met false p.vertex_count marks []
    → Walked ws p marks offsets 0 p.cliques 0
walked_none ws p marks offsets m = record {
  cliques = [];
  as_many = refl;
  reads = refl;
  tree = refl;
  full = refl;
  met = m;
  many = refl;
  starts = λ j l. absurd (omega arith);
  later = λ h. let e : p.clique_count ≡ p.clique_count - 0 = omega arith in
      subst (λ (k : ℕ). Later p.clique_count p.vertex_count 0 [] (read_cliques k (drop p.cliques ws))) e (later_start p.clique_count p.vertex_count _ h);
}

module _ (ws : List ℕ) (p : PatternAt) (marks : List Bool) (offsets : List ℕ) (total at c : ℕ) (w : Walked ws p marks offsets total at c) where
  -- the next clique passed
  module _ {new : List Bool} (r : Bool) (holds : SnodeHolds ws p at c marks new r) where
    found : r ≡ true → (is_whole (read_clique (drop at ws)) ≡ true) × (filled (clique_here ws at) ≡ true) × (clique_ok p.clique_count c (clique_here ws at) ≡ true)
    found held =
        let right = (and_parts (clique_right p.clique_count c (read_clique (drop at ws))) _ (sym (holds (snodes_of w.cliques) w.met).0 ∙ held)).0 in
        let (stand, others) = and_parts (is_whole (read_clique (drop at ws))) _ right in
        let (full, tree) = and_parts (filled (clique_here ws at)) (clique_ok p.clique_count c (clique_here ws at)) others in
        (stand, full, tree)

    pub walked-stands : r ≡ true → is_whole (read_clique (drop at ws)) ≡ true
    walked-stands held = (found held).0

    -- if the next clique fails, the check of all snodes fails
    pub walked_stops : c < p.clique_count → r ≡ false → false ≡ snodes_right p.clique_count p.vertex_count (read_cliques p.clique_count (drop p.cliques ws))
    walked_stops few fell = sym (failed _ (λ t. differ r
        ((holds (snodes_of w.cliques) w.met).0 ∙ later_first ws p.clique_count p.vertex_count c at (p.clique_count - c) (snodes_of w.cliques) (omega arith) (w.later (passed _ t)))
        fell))

  -- the state after one more clique
  pub walked_more : (q : CliqueAt) (new : List Bool) (r : Bool) → clique_read ws (Some q) ≡ read_clique (drop at ws) → CliqueInside (length ws) at (Some q)
      → SnodeHolds ws p at c marks new r → r ≡ true → c < length offsets → c < p.clique_count
      → Walked ws p new (set offsets c at) (total + q.snode_count) q.next (c + 1)
  walked_more q new r e inside holds held room few =
      let cs = w.cliques in
      let count = p.clique_count in
      let first = p.cliques in
      let d : clique_here ws at ≡ clique_of ws q = ap (value_or no_clique) (sym e) in
      let s : length (clique_of ws q).snode ≡ q.snode_count = length_part q.snode q.snode_count ws (omega arith) in
      let j : snodes_of (cs ++ (clique_of ws q ∷ [])) ≡ snodes_of cs ++ (clique_of ws q).snode =
      join-append (λ (x : Clique). x.snode) cs (clique_of ws q ∷ []) ∙ ap (λ (r : List ℕ). snodes_of cs ++ r) (append-nil (clique_of ws q).snode) in
      let o : c * 1 ≡ c = omega arith in
      let n : 0 + length cs ≡ c = omega (arith, w.as_many) in
      let h = found r holds held in
      let less : count - c - 1 ≡ count - (c + 1) = omega arith in
      record {
        cliques = cs ++ (clique_of ws q ∷ []);
        as_many = omega (arith, length-append cs (clique_of ws q ∷ []), w.as_many);
        reads = many_last read_clique c (drop first ws) (drop at ws) (drop q.next ws) cs (clique_of ws q) w.reads (sym e);
        tree = tree_last count 0 cs (clique_of ws q) w.tree (ap (λ (i : ℕ). clique_ok count i (clique_of ws q)) n ∙ ap (clique_ok count c) (sym d) ∙ h.2);
        full = all_last filled cs (clique_of ws q) w.full (ap filled (sym d) ∙ h.1);
        met = subst (Met false p.vertex_count new) (ap (λ (x : Clique). snodes_of cs ++ x.snode) d ∙ sym j) ((holds (snodes_of cs) w.met).1 held);
        many = omega (arith, ap length j, length-append (snodes_of cs) (clique_of ws q).snode, w.many, s);
        starts = written_more ws first 1 offsets c at room w.starts (sym (ap rest w.reads) ∙ ap (after ws first) (sym o));
        later = λ all.
            subst (λ (us : List ℕ). Later count p.vertex_count (c + 1) us (read_cliques (count - (c + 1)) (drop q.next ws))) (sym j)
            (subst (λ (k : ℕ). Later count p.vertex_count (c + 1) (snodes_of cs ++ (clique_of ws q).snode) (read_cliques k (drop q.next ws))) less
            (later-next ws count p.vertex_count c at (count - c) (snodes_of cs) (omega arith) (w.later all) q.next (clique_of ws q).snode (sym (ap rest e)) (ap (λ (x : Clique). x.snode) d)));
      }

  -- the walk has reached the end, with as many snode vertices as the pattern has vertices
  module _ (end : c ≡ p.clique_count) (e : total ≡ p.vertex_count) where
    from : read_cliques p.clique_count (drop p.cliques ws) ≡ read w.cliques (drop at ws)
    from = ap (λ (k : ℕ). read_cliques k (drop p.cliques ws)) (sym end) ∙ w.reads

    pub walked_all : SnodesHold ws p offsets
    walked_all =
        let f : cliques_of ws p ≡ w.cliques = ap (value_or []) from in
        record {
          stand = ap is_whole from;
          starts = written_all ws p.cliques 1 offsets c p.clique_count (omega arith) w.starts;
          tree = ap (tree_from p.clique_count 0) f ∙ w.tree;
          full = ap (all filled) f ∙ w.full;
          many = ap (λ (cs : List Clique). length (snodes_of cs)) f ∙ w.many ∙ e;
          permutation = ap (λ (cs : List Clique). is_permutation (snodes_of cs)) f ∙ met_all false p.vertex_count marks (snodes_of w.cliques) w.met (w.many ∙ e);
        }

    pub walked_clear : AllClear marks
    walked_clear = met_clear p.vertex_count marks (snodes_of w.cliques) w.met (w.many ∙ e)

  -- after all cliques, the check passes exactly if their snodes have as many vertices as the pattern
  pub walked_many : c ≡ p.clique_count → eqb total p.vertex_count
      ≡ snodes_right p.clique_count p.vertex_count (read_cliques p.clique_count (drop p.cliques ws))
  walked_many end = agree _ _
      (λ z. let h = walked_all end (eqb-true _ _ z) in
      rw (h.stand, h.tree, h.full, eq-eqb (length (snodes_of (cliques_of ws p))) p.vertex_count h.many) h.permutation)
      (λ z.
      let none : p.clique_count - c ≡ 0 = omega arith in
      let n : length (snodes_of (value_or [] (read_cliques (p.clique_count - c) (drop at ws)))) ≡ 0 = ap (λ (k : ℕ). length (snodes_of (value_or [] (read_cliques k (drop at ws))))) none in
      eq-eqb total p.vertex_count (omega (arith, (w.later z).many, w.many)))
