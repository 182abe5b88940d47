-- The induced subtree property of every clique tree: a vertex that is not in a clique's snode is in its separator, and so in its
-- parent, which comes later.
use Prim.Native.Nat.{ℕ, zero, suc, ◌≤◌, ◌<◌}
use native.Mathlib.Nat.{eq-or-lt_of_le, le_of_suc-le-suc, not-suc-le-zero}
use native.Mathlib.Omega.{arith}
use mathlib.Core.Path.{◌≡◌, subst}
use mathlib.Core.Logic.{inl, inr}
use Rattle.layout.specs.Problems.Patterns.{Pattern, clique_count}
use Rattle.layout.specs.Problems.CliqueTree.{In, InSeparator, parent_of, CliqueTree, ancestor, InducedSubtree}
use Rattle.layout.proofs.Lists.Tests.{downward}
use Rattle.layout.proofs.Patterns.Tree.{in_iff}

module _ (p : Pattern) (tree : CliqueTree p) where
  -- a clique with a separator member is not the root
  inner : (c u : ℕ) → c < clique_count p → InSeparator p c u → suc c < clique_count p
  inner c u l m =
      let (r, last, _, none) = tree.root in
      elim (eq-or-lt_of_le l) [
        | inl e ↦ absurd (none u (subst (λ (k : ℕ). InSeparator p k u) (omega arith) m))
        | inr below ↦ below
      ]

  -- if u is in c and in the ancestors of c's parent up to k steps, it is in the ancestors of c up to k + 1 steps
  step : (c k u : ℕ) → In p c u → ((i : ℕ) → i ≤ k → In p (ancestor p i (parent_of p c)) u) → (i : ℕ) → i ≤ suc k → In p (ancestor p i c) u
  step c k u h up zero l = h
  step c k u h up (suc i) l = up i (le_of_suc-le-suc l)

  start : (c u : ℕ) → In p c u → (i : ℕ) → i ≤ zero → In p (ancestor p i c) u
  start c u h zero l = h
  start c u h (suc i) l = absurd (not-suc-le-zero l)

  pub induced_subtree : (u : ℕ) → u < p.vertex_count → InducedSubtree p u
  induced_subtree u v =
      let (top, l, s) = tree.snode_of u v in
      record {
        top = top;
        clique = l;
        snode = s;
        way = downward (clique_count p) (λ c. In p c u → (k : ℕ) × (ancestor p k c ≡ top) × ((i : ℕ) → i ≤ k → In p (ancestor p i c) u))
            (λ c below up h. elim ((in_iff p c u).0 h) [
              | inl m ↦ (zero, tree.snode_once c top u below l m s, start c u h)
              | inr m ↦
                  let within = inner c u below m in
                  let (above, inside) = tree.later c within in
                  let (k, e, path) = up (parent_of p c) above inside (tree.separator_shared c u within m).1 in
                  (suc k, e, step c k u h path)
            ]);
      }
