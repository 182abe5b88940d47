-- Clique trees as Vandenberghe and Andersen define them (Chordal Graphs and Semidefinite Optimization, 2015): cliques
-- numbered so that a parent comes later, each a snode (residual) and a separator, with the running intersection property.
use Rattle.std.specs.Prelude.{ℕ, zero, suc, ◌≤◌, ◌<◌, ◌≡◌, T}
use Rattle.layout.specs.General.Lists.{has}
use Rattle.layout.specs.Problems.Patterns.{Pattern, clique_at, clique_count, members, no_parent}

-- u is a vertex of clique c
abbrev pub In : Pattern → ℕ → ℕ → Type 0
In p c u = T (has u (members (clique_at p c)))

abbrev pub InSnode : Pattern → ℕ → ℕ → Type 0
InSnode p c u = T (has u (clique_at p c).snode)

abbrev pub InSeparator : Pattern → ℕ → ℕ → Type 0
InSeparator p c u = T (has u (clique_at p c).separator)

abbrev pub parent_of : Pattern → ℕ → ℕ
parent_of p c = (clique_at p c).parent

pub record CliqueTree (p : Pattern) : Type 0 where
  -- a clique's members are vertices of the pattern
  pub vertices : (c u : ℕ) → c < clique_count p → In p c u → u < p.vertex_count
  -- there is a last clique, the root, which has no parent and no separator
  pub root : (c : ℕ) × (suc c ≡ clique_count p) × (parent_of p c ≡ no_parent) × ((u : ℕ) → InSeparator p c u → ⊥)
  -- every other clique has a later parent
  pub later : (c : ℕ) → suc c < clique_count p → (c < parent_of p c) × (parent_of p c < clique_count p)
  -- a vertex of clique c and of a later clique d is also a vertex of c's parent
  pub running_intersection : (c d u : ℕ) → c < d → d < clique_count p → In p c u → In p d u → In p (parent_of p c) u
  -- a clique's separator is what it shares with its parent, and its snode is the rest
  pub separator_shared : (c u : ℕ) → suc c < clique_count p → InSeparator p c u → In p c u × In p (parent_of p c) u
  pub snode_residual : (c u : ℕ) → suc c < clique_count p → InSnode p c u → In p (parent_of p c) u → ⊥
  -- no snode is empty
  pub snode_filled : (c : ℕ) → c < clique_count p → (u : ℕ) × InSnode p c u
  -- every vertex is in exactly one snode
  pub snode_of : (u : ℕ) → u < p.vertex_count → (c : ℕ) × (c < clique_count p) × InSnode p c u
  pub snode_once : (c d u : ℕ) → c < clique_count p → d < clique_count p → InSnode p c u → InSnode p d u → c ≡ d

-- the clique k parents above c
abbrev pub ancestor : Pattern → ℕ → ℕ → ℕ
ancestor p zero c = c
ancestor p (suc k) c = ancestor p k (parent_of p c)

-- The induced subtree property: the cliques that contain u form a subtree, whose root is the clique with u in its snode.
-- On the path from each of them up to that root, every clique contains u.
pub record InducedSubtree (p : Pattern) (u : ℕ) : Type 0 where
  pub top : ℕ
  pub clique : top < clique_count p
  pub snode : InSnode p top u
  pub way : (c : ℕ) → c < clique_count p → In p c u → (k : ℕ) × (ancestor p k c ≡ top) × ((i : ℕ) → i ≤ k → In p (ancestor p i c) u)
