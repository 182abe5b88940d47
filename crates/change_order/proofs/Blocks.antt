-- Moving the blocks of a pattern's cliques, from the first on, each before those already moved.
use Prim.Native.Nat.{ℕ, ◌+◌, ◌-◌, ◌≤◌}
use native.Mathlib.Nat.{le_of_eq}
use native.Mathlib.Omega.{arith}
use mathlib.Core.Path.{◌≡◌, sym, ap, ◌∙◌}
use mathlib.Core.Bool.{true}
use mathlib.Core.List.{List, [], ◌∷◌, ◌++◌, append-nil}
use lib.ListN.{length, take, drop, drop_of_length-le}
use lib.Ieee.{Float}
use lib.Dec.{leb→le}
use Rattle.layout.specs.General.Lists.{all}
use Rattle.layout.specs.Problems.Patterns.{Clique, block_size}
use Rattle.layout.specs.Rows.Orders.{last_first}
use Rattle.layout.proofs.Lists.Tests.{passes}
use Rattle.supernode_tree.specs.Sizes.{block_at_most}
use Rattle.supernode_tree.proofs.Sizes.{all_cons}
use Rattle.join_cones.specs.Parts.{written_at}
use Rattle.change_order.proofs.Laws.{block_more}

-- the side of the first of some cliques with sides of at most 256
pub first_few : (q : Clique) (cs qs : List Clique) (n : ℕ) → qs ≡ q ∷ cs → all (block_at_most 256) qs ≡ true → block_size q ≡ n → n ≤ 256
first_few q cs qs n e few f = omega (arith, leb→le (block_size q) 256 (passes _ (all_cons (block_at_most 256) q cs qs e few).0))

-- the blocks of vs still to be read, last block first, followed by the moved blocks in `out`, are all blocks in that order
abbrev pub Moved : List ℕ → List ℕ → List Float → List Float → ℕ → ℕ → Type 0
Moved ks all vs out from to = (length out ≡ length vs) × (last_first ks (drop from vs) ++ drop to out ≡ last_first all vs)

-- before any block is moved
pub begins : (ks : List ℕ) (vs out : List Float) (to : ℕ) → length out ≡ length vs → to ≡ length out → Moved ks ks vs out 0 to
begins ks vs out to e f =
    (e, ap (λ (r : List Float). last_first ks vs ++ r) (drop_of_length-le out (le_of_eq (sym f))) ∙ append-nil (last_first ks vs))

-- after moving one more block
pub moves : (k : ℕ) (ks js all-ks : List ℕ) (vs old new : List Float) (from to : ℕ) → js ≡ k ∷ ks → from + to ≡ length vs → k ≤ to
    → length new ≡ length old → new ≡ written_at (to - k) (take k (drop from vs)) old → Moved js all-ks vs old from to
    → Moved ks all-ks vs new (from + k) (to - k)
moves k ks js all-ks vs old new from to e l m kept put h =
    let back : to - k + k ≡ to = omega (arith, m) in (
      kept ∙ h.0,
      sym (block_more k ks vs old new from (to - k) (omega (arith, l, m)) (omega (arith, l, m, h.0)) put)
          ∙ ap (λ (j : ℕ). last_first (k ∷ ks) (drop from vs) ++ drop j old) back
          ∙ ap (λ (ls : List ℕ). last_first ls (drop from vs) ++ drop to old) (sym e) ∙ h.1,
    )

-- after moving all blocks
pub ends : (ks all-ks : List ℕ) (vs out : List Float) (from to : ℕ) → ks ≡ [] → to ≡ 0 → Moved ks all-ks vs out from to → out ≡ last_first all-ks vs
ends ks all-ks vs out from to none z h =
    ap (λ (n : ℕ). drop n out) (sym z) ∙ ap (λ (ls : List ℕ). last_first ls (drop from vs) ++ drop to out) (sym none) ∙ h.1
