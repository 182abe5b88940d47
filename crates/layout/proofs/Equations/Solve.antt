-- The equations of the overlap rows have exactly one solution, whatever the slacks: from the last link to the first, each link fixes
-- its own unknown.
use mathlib.Core.Path.{◌≡◌, refl, sym, ◌∙◌, ap}
use mathlib.Core.List.{List, [], ◌∷◌}
use Prim.Native.Nat.{ℕ, suc, ◌<◌, ◌≤◌}
use native.Mathlib.Omega.{arith}
use lib.ListN.{length}
use lib.IntN.{ℤ, pos, neg_ℤ, ◌+ℤ◌, +ℤ_idl, +ℤ_idr}
use Rattle.layout.proofs.Numbers.Integers.{linear}
use Rattle.layout.proofs.Numbers.OnRow.{on_row, on_row_here, on_row_other}
use Rattle.layout.proofs.Equations.Links.{Link, All, all_map, all_both, Rising, rising-all}

-- what the added unknowns y contribute to row r: each has +1 in its own row and -1 in the row that it is tied to
abbrev pub pull : List Link → List ℤ → ℕ → ℤ
pull [] y r = pos 0
pull (l ∷ L) [] r = pos 0
pull (l ∷ L) (v ∷ y) r = (on_row l.own r v +ℤ on_row l.parent r (neg_ℤ v)) +ℤ pull L y r

-- the equations of the links' own rows: the unknowns' contribution and the slack s sum to 0
abbrev pub Balanced : (ℕ → ℤ) → List Link → List ℤ → Type 0
Balanced s L y = All (λ l. pull L y l.own +ℤ s l.own ≡ pos 0) L

unfoldable pub solve : (ℕ → ℤ) → List Link → List ℤ
solve s [] = []
solve s (l ∷ L) = neg_ℤ (pull L (solve s L) l.own +ℤ s l.own) ∷ solve s L

pub solve_length : (s : ℕ → ℤ) (L : List Link) → length (solve s L) ≡ length L
unfolding solve
solve_length s [] = refl
solve_length s (l ∷ L) = ap suc (solve_length s L)

-- an unknown contributes nothing to rows after its own row, and itself to its own row
pull_past : (l : Link) (L : List Link) (v : ℤ) (y : List ℤ) (r : ℕ) → l.parent < l.own → suc l.own ≤ r
    → pull (l ∷ L) (v ∷ y) r ≡ pull L y r
pull_past l L v y r h k =
    rw (on_row_other l.own r v (omega arith), on_row_other l.parent r (neg_ℤ v) (omega arith)) (+ℤ_idl (pull L y r))

pull-own : (l : Link) (L : List Link) (v : ℤ) (y : List ℤ) → l.parent < l.own
    → pull (l ∷ L) (v ∷ y) l.own ≡ v +ℤ pull L y l.own
pull-own l L v y h = rw (on_row_here l.own v, on_row_other l.parent l.own (neg_ℤ v) (omega arith), +ℤ_idr v)

-- the equations of the later rows are the same with the first link and without it
module _ (s : ℕ → ℤ) (i : ℕ) (l : Link) (L : List Link) (v : ℤ) (y : List ℤ) (c : Rising i (l ∷ L)) where
  later : All (λ k. suc l.own ≤ k.own) L
  later = rising-all (suc l.own) L c.2

  extend : Balanced s L y → All (λ k. pull (l ∷ L) (v ∷ y) k.own +ℤ s k.own ≡ pos 0) L
  extend b = all_map _ _ (λ k h. rw (pull_past l L v y k.own c.1 h.0) h.1) L (all_both _ _ L later b)

  restrict : All (λ k. pull (l ∷ L) (v ∷ y) k.own +ℤ s k.own ≡ pos 0) L → Balanced s L y
  restrict b = all_map _ _ (λ k h. rw (pull_past l L v y k.own c.1 h.0) at h.1) L (all_both _ _ L later b)

pub solve_balanced : (s : ℕ → ℤ) (i : ℕ) (L : List Link) → Rising i L → Balanced s L (solve s L)
unfolding solve
solve_balanced s i [] c = tt
solve_balanced s i (l ∷ L) c = (
  rw (pull-own l L (neg_ℤ (pull L (solve s L) l.own +ℤ s l.own)) (solve s L) c.1) (simp linear),
  extend s i l L _ (solve s L) c (solve_balanced s (suc l.own) L c.2),
)

-- v + a + b = 0 determines v
alone : (v a b : ℤ) → (v +ℤ a) +ℤ b ≡ pos 0 → v ≡ neg_ℤ (a +ℤ b)
alone v a b e = sym (back v) ∙ ap (λ x. x +ℤ neg_ℤ (a +ℤ b)) e ∙ +ℤ_idl (neg_ℤ (a +ℤ b))
  where
    back : (x : ℤ) → ((x +ℤ a) +ℤ b) +ℤ neg_ℤ (a +ℤ b) ≡ x
    back x = simp linear

pub solve_alone : (s : ℕ → ℤ) (i : ℕ) (L : List Link) (y : List ℤ) → Rising i L → length y ≡ length L
    → Balanced s L y → y ≡ solve s L
unfolding solve
solve_alone s i [] [] c e b = refl
solve_alone s i [] (v ∷ y) c e b = absurd (omega arith)
solve_alone s i (l ∷ L) [] c e b = absurd (omega arith)
solve_alone s i (l ∷ L) (v ∷ y) c e b =
    let h : v ≡ neg_ℤ (pull L y l.own +ℤ s l.own) =
    alone v (pull L y l.own) (s l.own) (rw (pull-own l L v y c.1) at b.0) in
    let tail : y ≡ solve s L = solve_alone s (suc l.own) L y c.2 (omega arith) (restrict s i l L v y c b.1) in
    rw (h, tail)
