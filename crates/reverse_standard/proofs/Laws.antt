-- A list rewritten element by element, and averages taken with a table of counts.
use Prim.Native.Nat.{ℕ, ◌+◌, ◌<◌}
use native.Mathlib.Decide.{ℕ_discrete}
use native.Mathlib.Omega.{arith}
use mathlib.Core.Path.{◌≡◌, ap, ◌∙◌}
use mathlib.Core.List.{List, map}
use lib.ListN.{length, get_or, drop, set}
use lib.Seq.{get_or-append-add, get_or-drop, get_or-set_same, get_or-set_other}
use lib.Ieee.{Float, nan}
use Rattle.layout.specs.General.Lists.{below, written}
use Rattle.layout.specs.Joinings.Reverse.{column_count, averaged}
use Rattle.layout.proofs.Lists.Members.{has-below}
use Rattle.layout.proofs.Lists.Joins.{map_same}
use Rattle.layout.proofs.Lists.Buffers.{length-mapped}
use Rattle.reverse_standard.specs.Averages.{averaged_by, shared, Clears}

-- a list whose elements are replaced in order, element i by f i
module _ {A : Type 0} (f : ℕ → A) (old : List A) where
  -- element i is still the old one after i replacements
  pub mapped_next : (i : ℕ) (d : A) → get_or (written (map f (below i)) old) i d ≡ get_or old i d
  mapped_next i d =
      ap (λ (k : ℕ). get_or (written (map f (below i)) old) k d) (omega (arith, length-mapped f i))
      ∙ get_or-append-add (map f (below i)) (drop (length (map f (below i))) old) 0 d
      ∙ get_or-drop (length (map f (below i))) old 0 d
      ∙ ap (λ (k : ℕ). get_or old k d) (omega (arith, length-mapped f i))

-- clearing the count at index i extends the cleared prefix by one
pub clears_more : (i : ℕ) (old new : List ℕ) → i < length new → Clears i old new → Clears (i + 1) old (set new i 0)
clears_more i old new h c o = elim (ℕ_discrete o i) [
  | yes e ↦ (λ l. ap (λ (k : ℕ). get_or (set new i 0) k 0) e ∙ get_or-set_same new i 0 0 h, λ g. absurd (omega arith))
  | no n ↦ let same = get_or-set_other new i o 0 0 n in (λ l. same ∙ (c o).0 (omega (arith, n)), λ g. same ∙ (c o).1 (omega arith))
]

-- averages by a table of counts equal those by the columns of H
pub averages : (os counts : List ℕ) (ws : List Float) → ((o : ℕ) → o < length ws → get_or counts o 0 ≡ column_count os o)
    → map (averaged_by counts ws) (below (length ws)) ≡ map (averaged os ws) (below (length ws))
averages os counts ws c =
    map_same (averaged_by counts ws) (averaged os ws) (below (length ws))
    (λ o k. ap (λ (n : ℕ). shared n (get_or ws o nan)) (c o ((has-below o (length ws)).0 k)))
