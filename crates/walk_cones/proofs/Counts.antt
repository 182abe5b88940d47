-- Bounds on the sizes of blocks.
use Prim.Native.Nat.{ℕ, ◌+◌, ◌*◌, ◌≤◌}
use native.Mathlib.Omega.{arith}
use mathlib.Core.Path.{◌≡◌, refl, ap}
use mathlib.Core.Bool.{true}
use mathlib.Core.List.{List, [], ◌∷◌, map}
use lib.ListN.{length}
use lib.Dec.{leb→le}
use Rattle.layout.specs.General.Lists.{all, sum}
use Rattle.layout.specs.Problems.Patterns.{Pattern, Clique, block_size, clique_count}
use Rattle.layout.specs.Rows.Blocks.{Part, block_rows, overlap_rows}
use Rattle.layout.specs.Checks.{RightPattern}
use Rattle.layout.proofs.Lists.Tests.{passes}
use Rattle.supernode_tree.specs.Sizes.{block_at_most, dim_of, overlaps_of}
use Rattle.supernode_tree.proofs.Sizes.{triangle-small, blocks-small, all_cons}

blocks-few : (cs : List Clique) → all (block_at_most 256) cs ≡ true
    → (sum (map dim_of cs) ≤ length cs * 32896) × (sum (map overlaps_of cs) ≤ length cs * 32896)
blocks-few [] h = omega arith
blocks-few (q ∷ cs) h =
    let (here, later) = all_cons (block_at_most 256) q cs (q ∷ cs) refl h in
    let l = leb→le (block_size q) 256 (passes _ here) in
    omega (arith, blocks-few cs later, triangle-small (block_size q) l, triangle-small (length q.separator) (omega arith))

pub pattern_few : (p : Pattern) → RightPattern p → p.vertex_count ≤ 256
    → (block_rows p ≤ clique_count p * 32896) × (overlap_rows p ≤ clique_count p * 32896)
pattern_few p ok few = blocks-few p.cliques (blocks-small p 256 ok few)

-- a sum over the parts, after adding the next part: the remaining parts are left
pub counted : (f : Part → ℕ) (x : Part) (before later : List Part) (n r s : ℕ) → before ≡ x ∷ later → r ≡ f x
    → n + sum (map f before) ≡ s → n + r + sum (map f later) ≡ s
counted f x before later n r s e g h = omega (arith, ap (λ (l : List Part). sum (map f l)) e)
