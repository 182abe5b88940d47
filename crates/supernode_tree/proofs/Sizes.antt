-- Block sizes: sums over the cliques walked, and bounds for a pattern that passed the checks.
use Prim.Native.Nat.{ℕ, ◌+◌, ◌-◌, ◌≤◌, ◌<◌}
use native.Mathlib.Omega.{arith}
use mathlib.Core.Bool.{Bool, true}
use mathlib.Core.Path.{◌≡◌, refl, sym, ap, ◌∙◌}
use mathlib.Core.List.{List, [], ◌∷◌, map}
use lib.ListN.{length, length-append, drop}
use lib.Dec.{T, le→leb, leb→le}
use Rattle.std.specs.Prelude.{Some}
use Rattle.layout.specs.General.Lists.{all, sum, below}
use Rattle.layout.specs.General.Triangle.{triangle}
use Rattle.layout.specs.Problems.Patterns.{Clique, Pattern, no_clique, block_size, members, clique_at, clique_count, read_clique}
use Rattle.layout.proofs.Lists.Tests.{and_iff, passed, passes}
use Rattle.layout.proofs.Numbers.Triangles.{triangle_mono}
use Rattle.layout.proofs.Lists.Members.{all-at, has-below, length-below}
use Rattle.layout.proofs.Lists.Distinct.{distinct-length}
use Rattle.layout.specs.Checks.{RightPattern}
use Rattle.layout.proofs.Patterns.Cliques.{clique-distinct, clique-vertices}
use Rattle.supernode_tree.specs.Sizes.{block_at_most}
use Rattle.supernode_tree.specs.Reads.{Whole, cliques_from, clique_of, clique_read, CliqueInside}
use Rattle.supernode_tree.specs.declared.Clique.{Clique as CliqueAt}
use Rattle.supernode_tree.proofs.Cliques.{from_next, block_size_lem}

pub triangle-small : (k : ℕ) → k ≤ 256 → triangle k ≤ 32896
triangle-small k l = triangle_mono k 256 l

-- no block of a pattern that passed the checks is larger than its cone
pub blocks-small : (p : Pattern) (n : ℕ) → RightPattern p → p.vertex_count ≤ n → all (block_at_most n) p.cliques ≡ true
blocks-small p n ok l = passed _ ((all-at no_clique (block_at_most n) p.cliques).1 (λ c i. le→leb (block_size (clique_at p c)) n (small c i)))
  where
    small : (c : ℕ) → c < clique_count p → block_size (clique_at p c) ≤ n
    small c i =
        let us = members (clique_at p c) in
        let h : length us ≤ length (below p.vertex_count) =
        distinct-length us (below p.vertex_count) (clique-distinct p ok c i) (λ u m. (has-below u p.vertex_count).1 (clique-vertices p ok c i u m)) in
        omega (arith, length-append (clique_at p c).snode (clique_at p c).separator, length-below p.vertex_count)

-- a test that holds of all cliques holds of the first and of those after it
pub all_cons : (f : Clique → Bool) (q : Clique) (cs ds : List Clique) → ds ≡ q ∷ cs → all f ds ≡ true → (f q ≡ true) × (all f cs ≡ true)
all_cons f q cs ds e h =
    let k : T (f q) × T (all f cs) = (and_iff (f q) (all f cs)).0 (passes _ (sym (ap (all f) e) ∙ h)) in
    (passed (f q) k.0, passed (all f cs) k.1)

-- the size of the first clique's block
pub first-small : (ws : List ℕ) (at k : ℕ) (more : 0 < k) (q : CliqueAt) → clique_read ws (Some q) ≡ read_clique (drop at ws) → CliqueInside (length ws) at (Some q)
    → Whole ws at k → all (block_at_most 256) (cliques_from ws at k) ≡ true → q.snode_count + q.separator_count ≤ 256
first-small ws at k more q e inside w small =
    let one = (all_cons (block_at_most 256) (clique_of ws q) (cliques_from ws q.next (k - 1)) _ (from_next ws at k (Some q) e more q refl w) small).0 in
    omega (arith, block_size_lem ws at q inside, leb→le (block_size (clique_of ws q)) 256 (passes _ one))

-- adding the next clique to the total and removing it from those left keeps the sum
pub sum-cons : (f : Clique → ℕ) (q : Clique) (cs ds : List Clique) (n t s : ℕ) → ds ≡ q ∷ cs → t ≡ f q → n + sum (map f ds) ≡ s → n + t + sum (map f cs) ≡ s
sum-cons f q cs ds n t s e g h = let k : sum (map f ds) ≡ f q + sum (map f cs) = ap (λ (l : List Clique). sum (map f l)) e in omega arith

pub sum-none : (f : Clique → ℕ) (ds : List Clique) (n s : ℕ) → ds ≡ [] → n + sum (map f ds) ≡ s → n ≡ s
sum-none f ds n s e h = let k : sum (map f ds) ≡ 0 = ap (λ (l : List Clique). sum (map f l)) e in omega arith
