-- Check 6, clique by clique.
use Prim.Native.Nat.{ℕ, zero, suc, ◌+◌}
use native.Mathlib.Omega.{arith}
use mathlib.Core.Bool.{Bool, true, false, not, ◌&&◌}
use mathlib.Core.Logic.{inl, inr}
use mathlib.Core.Path.{◌≡◌, refl, sym, ap, ◌∙◌}
use mathlib.Core.List.{List, [], ◌∷◌}
use lib.Dec.{T, eqb, ltb, lt→ltb}
use borrow.Author.Tests.{lt-ltb, le-ltb, eq-eqb, ne_eqb}
use lib.ListN.{length, get_or, drop, drop_of_length-le}
use lib.Seq.{drop-cons}
use Rattle.layout.specs.General.Lists.{all, up_from}
use Rattle.layout.specs.Problems.Patterns.{Read, read, short, and_then, Head, read_head, with_cliques, read_clique, read_cliques, Clique, Pattern, no_clique, no_pattern}
use Rattle.layout.specs.Checks.{parent_right, tree_right, cliques_right}
use Rattle.supernode_tree.proofs.Many.{many-length}
use Rattle.supernode_tree.specs.Reads.{is_whole, value_or, pattern_at}
use Rattle.check_cliques.specs.Trees.{clique_ok, tree_from, snodes_ok, separator_ok, separators_ok, separators_below}
use Rattle.layout.proofs.Lists.Tests.{and_iff, and-true, and_right, lt_or_le, passed, passes, failed, differ}
use Rattle.layout.proofs.Lists.Members.{all-at, all-has}
use Rattle.layout.proofs.Lists.Walks.{all_both}
use Rattle.layout.proofs.Patterns.Tree.{in_vertex, in_iff}

-- check 6 for cliques read from words; false if the words end early
abbrev pub tree_read : ℕ → ℕ → Read (List Clique) → Bool
tree_read k c (read cs left) = tree_from k c cs
tree_read k c short = false

tree-from : (p : Pattern) (c j : ℕ) → length p.cliques ≡ c + j
    → all (parent_right p) (up_from c j) ≡ tree_from (length p.cliques) c (drop c p.cliques)
tree-from p c zero e = rw (drop_of_length-le p.cliques {i = c} (omega arith))
tree-from p c (suc j) e = rw (drop-cons p.cliques c no_clique (omega arith), tree-from p (suc c) j (omega arith))

pub tree-right : (p : Pattern) → tree_right p ≡ (not (eqb (length p.cliques) 0) && tree_from (length p.cliques) 0 p.cliques)
tree-right p = rw (tree-from p 0 (length p.cliques) (omega arith))

pub tree_start : (ws : List ℕ) (at : ℕ) (h : Head) (rest : List ℕ) → read_head (drop at ws) ≡ read h rest
    → tree_right (pattern_at ws at) ≡ (not (eqb h.clique_count 0) && tree_read h.clique_count 0 (read_cliques h.clique_count rest))
tree_start ws at h rest e = rw e (go (read_cliques h.clique_count rest) refl)
  where
    go : (r : Read (List Clique)) → read_cliques h.clique_count rest ≡ r
        → tree_right (value_or no_pattern (and_then r (λ cs left. read (with_cliques h cs) left)))
        ≡ (not (eqb h.clique_count 0) && tree_read h.clique_count 0 r)
    go (read cs left) q =
        let m : length cs ≡ h.clique_count =
        sym (ap (λ (r : Read (List Clique)). length (value_or [] r)) q) ∙ many-length read_clique h.clique_count rest (ap is_whole q) in
        tree-right (with_cliques h cs) ∙ ap (λ (k : ℕ). not (eqb k 0) && tree_from k 0 cs) m
    go short q = sym (and_right (not (eqb h.clique_count 0)) false refl)

-- where all cliques passed, only their count is left to test: it must not be 0
pub tree-done : (k : ℕ) (b : Bool) → b ≡ true → ltb 0 k ≡ (not (eqb k 0) && b)
tree-done k b e = elim (lt_or_le 0 k) [
  | inl h ↦ rw (e, lt-ltb 0 k h, ne_eqb k 0 (λ q. omega arith))
  | inr h ↦ rw (le-ltb 0 k h, eq-eqb k 0 (omega arith))
]

pub tree-step : (k c j : ℕ) (ws rest : List ℕ) (q : Clique) → read_clique ws ≡ read q rest
    → tree_read k c (read_cliques (suc j) ws) ≡ (clique_ok k c q && tree_read k (suc c) (read_cliques j rest))
tree-step k c j ws rest q e = rw e (go (read_cliques j rest))
  where
    go : (r : Read (List Clique)) → tree_read k c (and_then r (λ cs left. read (q ∷ cs) left)) ≡ (clique_ok k c q && tree_read k (suc c) r)
    go (read cs left) = refl
    go short = sym (and_right (clique_ok k c q) false refl)

-- ---- separator members below the vertex count

pub below_right : (n : ℕ) (cs : List Clique) → separators_below n cs ≡ true → separators_ok cs ≡ true
below_right n cs h = second (all (λ (c : Clique). all (λ x. ltb x n) c.separator) cs) (separators_ok cs)
    (sym (all_both (λ (c : Clique). all (λ x. ltb x n) c.separator) (λ (c : Clique). separator_ok cs c.parent c.separator) cs) ∙ h)
  where
    second : (a b : Bool) → (a && b) ≡ true → b ≡ true
    second a b e = passed b ((and_iff a b).0 (passes (a && b) e)).1

-- in a pattern that passes check 6 and has right snodes, members of right separators are below the vertex count
pub separators-below : (p : Pattern) → tree_right p ≡ true → snodes_ok p.vertex_count p.cliques ≡ true
    → separators_below p.vertex_count p.cliques ≡ separators_ok p.cliques
separators-below p tree snodes = same (separators_below n cs) (separators_ok cs) (below_right n cs) back
  where
    n : ℕ
    n = p.vertex_count

    cs : List Clique
    cs = p.cliques

    same : (a b : Bool) → (a ≡ true → b ≡ true) → (b ≡ true → a ≡ true) → a ≡ b
    same true b f g = sym (f refl)
    same false b f g = sym (failed b (λ t. differ false (g (passed b t)) refl))

    back : separators_ok cs ≡ true → separators_below n cs ≡ true
    back h =
        let right : T (cliques_right p) = passes _ (and-true (snodes_ok n cs) (separators_ok cs) snodes ∙ h) in
        let all-below : all (λ (c : Clique). all (λ x. ltb x n) c.separator) cs ≡ true =
        passed _ ((all-at no_clique (λ (c : Clique). all (λ x. ltb x n) c.separator) cs).1 (λ c l.
        (all-has (λ x. ltb x n) (get_or cs c no_clique).separator).1 (λ u k. lt→ltb u n (in_vertex p (passes _ tree) right c u l ((in_iff p c u).1 (inr k)))))) in
        all_both (λ (c : Clique). all (λ x. ltb x n) c.separator) (λ (c : Clique). separator_ok cs c.parent c.separator) cs
        ∙ and-true (all (λ (c : Clique). all (λ x. ltb x n) c.separator) cs) (separators_ok cs) all-below ∙ h
