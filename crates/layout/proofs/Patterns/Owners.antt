-- Which clique owns a pair of vertices, by vertex numbers: a clique owns a pair of its vertices that does not lie wholly in
-- its separator. Each pair that lies in some clique has exactly one owner.
use Prim.Native.Nat.{ℕ, ◌≤◌, ◌<◌, min}
use native.Mathlib.Nat.{le_refl}
use native.Mathlib.Omega.{arith}
use mathlib.Core.Path.{◌≡◌, sym, ◌∙◌}
use mathlib.Core.Logic.{◌⊎◌, inl, inr}
use lib.Dec.{T}
use Rattle.layout.specs.General.Lists.{has}
use Rattle.layout.specs.Problems.Patterns.{Pattern, clique_at, clique_count}
use Rattle.layout.specs.Checks.{tree_right, cliques_right}
use Rattle.layout.specs.Problems.CliqueTree.{In, InSnode, InSeparator, parent_of}
use Rattle.layout.proofs.Lists.Tests.{tested, downward}
use Rattle.layout.proofs.Patterns.Tree.{in_iff, parent-later, cliques-right, separator-inner, snode_above, snode-once}

-- both vertices are in the clique
abbrev Holds : Pattern → ℕ → ℕ → ℕ → Type 0
Holds p c u v = In p c u × In p c v

-- both vertices are in the clique's separator
abbrev pub Shares : Pattern → ℕ → ℕ → ℕ → Type 0
Shares p c u v = InSeparator p c u × InSeparator p c v

abbrev pub Owns : Pattern → ℕ → ℕ → ℕ → Type 0
Owns p c u v = Holds p c u v × (Shares p c u v → ⊥)

shared : (p : Pattern) (c u v : ℕ) → Shares p c u v ⊎ (Shares p c u v → ⊥)
shared p c u v = elim (tested (has u (clique_at p c).separator)) [
  | inl h ↦ elim (tested (has v (clique_at p c).separator)) [ inl k ↦ inl (h, k) | inr no' ↦ inr (λ s. no' s.1) ]
  | inr no' ↦ inr (λ s. no' s.0)
]

module _ (p : Pattern) (tree : T (tree_right p)) (right : T (cliques_right p)) where
  -- a clique that holds a vertex does not come after the clique whose snode holds it
  snode_least : (c a u : ℕ) → c < clique_count p → a < clique_count p → In p c u → InSnode p a u → c ≤ a
  snode_least c a u l m h k =
      let (e, high, low, s) = snode_above p tree right u c l h in
      let q : e ≡ a = snode-once p right e a u low m s k in
      omega arith

  -- the owner of u and v is the first of the two cliques whose snodes hold u and v
  owner_first : (c a b u v : ℕ) → c < clique_count p → a < clique_count p → b < clique_count p
      → InSnode p a u → InSnode p b v → Owns p c u v → min a b ≡ c
  owner_first c a b u v l la lb sa sb owns =
      let ca : c ≤ a = snode_least c a u l la owns.0.0 sa in
      let cb : c ≤ b = snode_least c b v l lb owns.0.1 sb in
      elim ((in_iff p c u).0 owns.0.0) [
        | inl h ↦ let e : c ≡ a = snode-once p right c a u l la h sa in omega arith
        | inr h ↦ elim ((in_iff p c v).0 owns.0.1) [
          | inl k ↦ let e : c ≡ b = snode-once p right c b v l lb k sb in omega arith
          | inr k ↦ absurd (owns.1 (h, k))
        ]
      ]

  -- a pair has at most one owner
  pub owner_once : (c d u v : ℕ) → c < clique_count p → d < clique_count p → Owns p c u v → Owns p d u v → c ≡ d
  owner_once c d u v l m h k =
      let (a, _, la, sa) = snode_above p tree right u c l h.0.0 in
      let (b, _, lb, sb) = snode_above p tree right v c l h.0.1 in
      sym (owner_first c a b u v l la lb sa sb h) ∙ owner_first d a b u v m la lb sa sb k

  -- a pair that clique c holds has an owner, which is c or a later clique
  pub owner_above : (u v c : ℕ) → c < clique_count p → Holds p c u v
      → (d : ℕ) × (c ≤ d) × (d < clique_count p) × Owns p d u v
  owner_above u v = downward (clique_count p)
      (λ c. Holds p c u v → (d : ℕ) × (c ≤ d) × (d < clique_count p) × Owns p d u v)
      (λ c l above h. elim (shared p c u v) [
        | inl s ↦
            let (later, inside) = parent-later p tree c (separator-inner p tree c u l s.0) in
            let in_parent = (cliques-right p right).in_parent in
            let (d, high, low, owns) = above (parent_of p c) later inside (in_parent c u l s.0, in_parent c v l s.1) in
            (d, omega arith, low, owns)
        | inr no' ↦ (c, le_refl c, l, (h, no'))
      ])
