-- The cliques of a clique tree by their original vertices: their sizes, and which clique owns a pair.
use Prim.Native.Nat.{ℕ, ◌≤◌, ◌<◌}
use mathlib.Core.Path.{◌≡◌, sym, subst₂, ◌∙◌}
use mathlib.Core.Logic.Iff
use mathlib.Core.Logic.{◌↔◌, inr}
use mathlib.Core.Bool.{not}
use mathlib.Core.List.{List}
use lib.ListN.{length, length-append}
use lib.Dec.{T}
use Rattle.layout.specs.General.Lists.{has, distinct}
use Rattle.layout.specs.Problems.Patterns.{Pattern, clique_at, clique_count, members, block_size, no_clique}
use Rattle.layout.specs.Rows.Blocks.{pair, originals, sorted, in_separator}
use Rattle.layout.specs.Checks.{snodes, RightPattern}
use Rattle.layout.specs.Problems.CliqueTree.{In, parent_of}
use Rattle.layout.proofs.Lists.Tests.{and_iff, not_iff}
use Rattle.layout.proofs.Lists.Distinct.{distinct_append, distinct-join, permutation-distinct}
use Rattle.layout.proofs.Patterns.Tree.{in_iff, parent-later, cliques-right, separator-inner, snode_apart, in_vertex}
use Rattle.layout.proofs.Patterns.Owners.{Shares, Owns, owner_once, owner_above}
use Rattle.layout.proofs.Patterns.Originals.{original, Vertices, has-originals, has-original, has-sorted, sorted-length}

-- the clique's original vertices, sorted
abbrev pub clique_vertices : Pattern → ℕ → List ℕ
clique_vertices p c = sorted p (members (clique_at p c))

-- original vertices i and j are both in clique c
abbrev pub HoldsPair : Pattern → ℕ → ℕ → ℕ → Type 0
HoldsPair p c i j = T (has i (clique_vertices p c)) × T (has j (clique_vertices p c))

abbrev pub OwnsPair : Pattern → ℕ → ℕ → ℕ → Type 0
OwnsPair p c i j = HoldsPair p c i j × T (not (in_separator p c (pair i j)))

module _ (p : Pattern) (ok : RightPattern p) where
  pub clique-vertices : (c : ℕ) → c < clique_count p → Vertices p (members (clique_at p c))
  clique-vertices c l u h = in_vertex p ok.tree ok.cliques c u l h

  pub separator-vertices : (c : ℕ) → c < clique_count p → Vertices p (clique_at p c).separator
  separator-vertices c l u h = clique-vertices c l u ((in_iff p c u).1 (inr h))

  pub clique-distinct : (c : ℕ) → c < clique_count p → T (distinct (members (clique_at p c)))
  clique-distinct c l =
      let right = cliques-right p ok.cliques in
      let vertices = permutation-distinct (snodes p) right.permutation in
      let snode = ((distinct-join no_clique (λ q. q.snode) p.cliques).0 vertices).0 c l in
      (distinct_append (clique_at p c).snode (clique_at p c).separator).1 (
        snode,
        right.distinct_separator c l,
        λ u h k.
            let (later, inside) = parent-later p ok.tree c (separator-inner p ok.tree c u l k) in
            snode_apart p ok.tree ok.cliques c (parent_of p c) u later inside h (right.in_parent c u l k),
      )

  -- a clique has as many original vertices as its block size
  pub block-side : (c : ℕ) → c < clique_count p → length (clique_vertices p c) ≡ block_size (clique_at p c)
  block-side c l =
      sorted-length p ok.ordered (members (clique_at p c)) (clique-vertices c l) (clique-distinct c l)
      ∙ length-append (clique_at p c).snode (clique_at p c).separator

  -- an original vertex of a clique is the original of one of its members
  vertex_of : (c w : ℕ) → c < clique_count p → T (has w (clique_vertices p c)) → (u : ℕ) × In p c u × (w ≡ original p u)
  vertex_of c w l h =
      let us = members (clique_at p c) in
      (has-originals p us w).0 ((has-sorted p ok.ordered us (clique-vertices c l) w).0 h)

  pub in_original : (c u : ℕ) → c < clique_count p → u < p.vertex_count → T (has (original p u) (clique_vertices p c)) ↔ In p c u
  in_original c u l m =
      Iff.trans (has-sorted p ok.ordered (members (clique_at p c)) (clique-vertices c l) (original p u))
      (has-original p ok.ordered (members (clique_at p c)) (clique-vertices c l) u m)

  shares-original : (c u v : ℕ) → c < clique_count p → u < p.vertex_count → v < p.vertex_count
      → T (in_separator p c (pair (original p u) (original p v))) ↔ Shares p c u v
  shares-original c u v l m n =
      let us = (clique_at p c).separator in
      let os = originals p us in
      Iff.trans (and_iff (has (original p u) os) (has (original p v) os))
      (Iff.and
      (has-original p ok.ordered us (separator-vertices c l) u m)
      (has-original p ok.ordered us (separator-vertices c l) v n))

  owns-original : (c u v : ℕ) → c < clique_count p → u < p.vertex_count → v < p.vertex_count
      → OwnsPair p c (original p u) (original p v) ↔ Owns p c u v
  owns-original c u v l m n =
      Iff.and (Iff.and (in_original c u l m) (in_original c v l n))
      (Iff.trans (not_iff (in_separator p c (pair (original p u) (original p v)))) (Iff.not (shares-original c u v l m n)))

  -- at most one clique owns a pair of original vertices
  pub pair_owner_once : (c d i j : ℕ) → c < clique_count p → d < clique_count p → OwnsPair p c i j → OwnsPair p d i j → c ≡ d
  pair_owner_once c d i j l m h k =
      let (u, hu, eu) = vertex_of c i l h.0.0 in
      let (v, hv, ev) = vertex_of c j l h.0.1 in
      let bu = clique-vertices c l u hu in
      let bv = clique-vertices c l v hv in
      owner_once p ok.tree ok.cliques c d u v l m
      ((owns-original c u v l bu bv).0 (subst₂ (OwnsPair p c) eu ev h))
      ((owns-original d u v m bu bv).0 (subst₂ (OwnsPair p d) eu ev k))

  -- each pair in a clique is owned by this clique or a later one
  pub pair_owner_above : (c i j : ℕ) → c < clique_count p → HoldsPair p c i j
      → (d : ℕ) × (c ≤ d) × (d < clique_count p) × OwnsPair p d i j
  pair_owner_above c i j l h =
      let (u, hu, eu) = vertex_of c i l h.0 in
      let (v, hv, ev) = vertex_of c j l h.1 in
      let (d, high, low, owns) = owner_above p ok.tree ok.cliques u v c l (hu, hv) in (
        d,
        high,
        low,
        subst₂ (OwnsPair p d) (sym eu) (sym ev)
            ((owns-original d u v low (clique-vertices c l u hu) (clique-vertices c l v hv)).1 owns),
      )

  -- where a clique's separator contains a pair, its parent comes later and contains the pair too
  pub pair_in_parent : (c i j : ℕ) → c < clique_count p → T (in_separator p c (pair i j))
      → (c < parent_of p c) × (parent_of p c < clique_count p) × HoldsPair p (parent_of p c) i j
  pair_in_parent c i j l h =
      let us = (clique_at p c).separator in
      let (hi, hj) = (and_iff (has i (originals p us)) (has j (originals p us))).0 h in
      let (u, hu, eu) = (has-originals p us i).0 hi in
      let (v, hv, ev) = (has-originals p us j).0 hj in
      let (later, inside) = parent-later p ok.tree c (separator-inner p ok.tree c u l hu) in
      let in_parent = (cliques-right p ok.cliques).in_parent in (
        later,
        inside,
        subst₂ (HoldsPair p (parent_of p c)) (sym eu) (sym ev) (
          (in_original (parent_of p c) u inside (separator-vertices c l u hu)).1 (in_parent c u l hu),
          (in_original (parent_of p c) v inside (separator-vertices c l v hv)).1 (in_parent c v l hv),
        ),
      )
