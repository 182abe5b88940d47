-- A pattern that passes checks 6 and 7 is a clique tree. The proof rests on one fact: a vertex of a clique is in the snode
-- of that clique or of a later one, since a separator's members are in the parent, which comes later.
use Prim.Native.Nat.{ℕ, suc, ◌-◌, ◌≤◌, ◌<◌}
use native.Mathlib.Nat.{le_refl, eq-or-lt_of_le}
use native.Mathlib.Omega.{arith}
use mathlib.Core.Path.{◌≡◌, sym, subst}
use mathlib.Core.Logic.{◌↔◌, ◌⊎◌, inl, inr}
use lib.ListN.{length}
use lib.Dec.{T, eqb, eqb→eq}
use Rattle.layout.specs.General.Lists.{has, below, distinct, is_permutation}
use Rattle.layout.specs.Problems.Patterns.{Pattern, clique_at, clique_count, members, no_parent, no_clique}
use Rattle.layout.specs.Checks.{parent_right, tree_right, snodes, cliques_right}
use Rattle.layout.specs.Problems.CliqueTree.{In, InSnode, InSeparator, parent_of, CliqueTree}
use Rattle.layout.proofs.Lists.Tests.{eqb_iff, ltb_iff, and_iff, not_iff, cond_passed, cond_failed, downward}
use Rattle.layout.proofs.Lists.Members.{has-append, has_join, has-below, has-none, some_member, all-at, all-has}
use Rattle.layout.proofs.Lists.Distinct.{distinct-join, permutation-has, permutation-distinct}

-- ---- what the checks say

-- what check 6 says of each clique
parent-right : (p : Pattern) → T (tree_right p) → (c : ℕ) → c < clique_count p → T (parent_right p c)
parent-right p tree c l =
    (all-has (parent_right p) (below (clique_count p))).0 (simp and_iff at tree).1 c ((has-below c (clique_count p)).1 l)

pub parent-later : (p : Pattern) → T (tree_right p) → (c : ℕ) → suc c < clique_count p
    → (c < parent_of p c) × (parent_of p c < clique_count p)
parent-later p tree c l =
    let h = parent-right p tree c (omega arith) in
    simp (and_iff, ltb_iff) at (rw (cond_failed (eqb (suc c) (clique_count p)) _ _ (omega (arith, eqb→eq))) at h)

-- the last clique has neither parent nor separator
root-right : (p : Pattern) → T (tree_right p) → (c : ℕ) → suc c ≡ clique_count p
    → (parent_of p c ≡ no_parent) × (length (clique_at p c).separator ≡ 0)
root-right p tree c e =
    let h = parent-right p tree c (omega arith) in
    let last = (eqb_iff (suc c) (clique_count p)).1 e in
    simp (and_iff, eqb_iff) at (rw (cond_passed (eqb (suc c) (clique_count p)) _ _ last) at h)

pub last_separator : (p : Pattern) → T (tree_right p) → (c u : ℕ) → suc c ≡ clique_count p → InSeparator p c u → ⊥
last_separator p tree c u e k = has-none u (clique_at p c).separator (root-right p tree c e).1 k

-- what check 7 says
pub record CliquesRight (p : Pattern) : Type 0 where
  pub nonempty : (c : ℕ) → c < clique_count p → ¬ (length (clique_at p c).snode ≡ 0)
  pub vertices : length (snodes p) ≡ p.vertex_count
  pub permutation : T (is_permutation (snodes p))
  pub distinct_separator : (c : ℕ) → c < clique_count p → T (distinct (clique_at p c).separator)
  pub in_parent : (c u : ℕ) → c < clique_count p → InSeparator p c u → In p (parent_of p c) u

pub cliques-right : (p : Pattern) → T (cliques_right p) → CliquesRight p
cliques-right p right =
    let h = simp (and_iff, all-at no_clique, not_iff, eqb_iff) at right in
    record {
      nonempty = h.0.0.0;
      vertices = h.0.0.1;
      permutation = simp and_iff h.0.1;
      distinct_separator = λ c l. (h.1 c l).0;
      in_parent = λ c u l k.
          (all-has (λ v. has v (members (clique_at p (parent_of p c)))) (clique_at p c).separator).0 (h.1 c l).1 u k;
    }

-- a clique's vertices are those of its snode and of its separator
pub in_iff : (p : Pattern) (c u : ℕ) → In p c u ↔ (InSnode p c u ⊎ InSeparator p c u)
in_iff p c u = has-append u (clique_at p c).snode (clique_at p c).separator

-- ---- going up the tree

-- a clique with a separator member is not the last
pub separator-inner : (p : Pattern) → T (tree_right p) → (c u : ℕ) → c < clique_count p → InSeparator p c u
    → suc c < clique_count p
separator-inner p tree c u l k = elim (eq-or-lt_of_le l) [ inl e ↦ absurd (last_separator p tree c u e k) | inr m ↦ m ]

-- a vertex is in one snode only
pub snode-once : (p : Pattern) → T (cliques_right p) → (c d u : ℕ) → c < clique_count p → d < clique_count p
    → InSnode p c u → InSnode p d u → c ≡ d
snode-once p right =
    ((distinct-join no_clique (λ q. q.snode) p.cliques).0
    (permutation-distinct (snodes p) (cliques-right p right).permutation)).1

module _ (p : Pattern) (tree : T (tree_right p)) (right : T (cliques_right p)) where
  -- a vertex of a clique is in the snode of that clique or of a later one
  pub snode_above : (u c : ℕ) → c < clique_count p → In p c u → (e : ℕ) × (c ≤ e) × (e < clique_count p) × InSnode p e u
  snode_above u = downward (clique_count p) (λ c. In p c u → (e : ℕ) × (c ≤ e) × (e < clique_count p) × InSnode p e u)
      (λ c l up k. elim ((in_iff p c u).0 k) [
        | inl m ↦ (c, le_refl c, l, m)
        | inr m ↦
            let (above, inside) = parent-later p tree c (separator-inner p tree c u l m) in
            let (e, high, low, s) = up (parent_of p c) above inside ((cliques-right p right).in_parent c u l m) in
            (e, omega arith, low, s)
      ])

  -- no vertex of a clique's snode is in a later clique
  pub snode_apart : (c d u : ℕ) → c < d → d < clique_count p → InSnode p c u → In p d u → ⊥
  snode_apart c d u l m h k =
      let (e, high, low, s) = snode_above u d m k in
      let q : c ≡ e = snode-once p right c e u (omega arith) low h s in
      omega arith

  -- every member of a clique is a vertex number
  pub in_vertex : (c u : ℕ) → c < clique_count p → In p c u → u < p.vertex_count
  in_vertex c u l h =
      let (e, high, low, s) = snode_above u c l h in
      let k : T (has u (snodes p)) = (has_join no_clique (λ q. q.snode) u p.cliques).1 (e, low, s) in
      let r = cliques-right p right in
      omega (arith, r.vertices, (permutation-has (snodes p) r.permutation u).0 k)

  last : suc (clique_count p - 1) ≡ clique_count p
  last = omega (arith, (simp (and_iff, not_iff, eqb_iff) at tree).0)

  pub clique_tree : CliqueTree p
  clique_tree = record {
    vertices = in_vertex;
    root = (
      clique_count p - 1,
      last,
      (root-right p tree (clique_count p - 1) last).0,
      λ u. last_separator p tree (clique_count p - 1) u last,
    );
    later = parent-later p tree;
    running_intersection = λ c d u l m h k. elim ((in_iff p c u).0 h) [
      | inl s ↦ absurd (snode_apart c d u l m s k)
      | inr s ↦ (cliques-right p right).in_parent c u (omega arith) s
    ];
    separator_shared = λ c u l s. (
      (in_iff p c u).1 (inr s),
      (cliques-right p right).in_parent c u (omega arith) s,
    );
    snode_residual = λ c u l s k.
        let (above, inside) = parent-later p tree c l in
        snode_apart c (parent_of p c) u above inside s k;
    snode_filled = λ c l. some_member (clique_at p c).snode ((cliques-right p right).nonempty c l);
    snode_of = λ u l. (has_join no_clique (λ q. q.snode) u p.cliques).0
        ((permutation-has (snodes p) (cliques-right p right).permutation u).1
        (subst (λ (k : ℕ). u < k) (sym (cliques-right p right).vertices) l));
    snode_once = snode-once p right;
  }
