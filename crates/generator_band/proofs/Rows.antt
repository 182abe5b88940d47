-- The covered rows of the triangle, column after column.
use Prim.Native.Nat.{ℕ, ◌+◌, ◌≤◌}
use native.Mathlib.Nat.{zero-add}
use native.Mathlib.Numerals.{add-one}
use native.Mathlib.Omega.{arith}
use mathlib.Core.Path.{◌≡◌, ap, ◌∙◌}
use mathlib.Core.Bool.{Bool, true, false}
use mathlib.Core.List.{List, [], ◌∷◌, ◌++◌, append-nil}
use lib.ListN.{length}
use Rattle.layout.specs.General.Lists.{keep, below, up_from}
use Rattle.layout.specs.General.Triangle.{triangle}
use Rattle.layout.proofs.Lists.Joins.{up_from_last, up_from-append}
use Rattle.layout.proofs.Lists.Keeps.{keep_append}
use Rattle.layout.proofs.Lists.Distinct.{length-keep}
use Rattle.layout.proofs.Lists.Members.{length-up_from}
use Rattle.layout.proofs.Numbers.Triangles.{triangle-suc}

pub up_from_more : (a i : ℕ) → up_from a (i + 1) ≡ up_from a i ++ ((a + i) ∷ [])
up_from_more a i = ap (up_from a) (add-one i) ∙ up_from_last a i

-- the covered rows, one row further
module _ (p : ℕ → Bool) (a i : ℕ) where
  split : keep p (up_from a (i + 1)) ≡ keep p (up_from a i) ++ keep p ((a + i) ∷ [])
  split = ap (keep p) (up_from_more a i) ∙ keep_append p (up_from a i) ((a + i) ∷ [])

  pub row_hit : p (a + i) ≡ true → keep p (up_from a (i + 1)) ≡ keep p (up_from a i) ++ ((a + i) ∷ [])
  row_hit e =
      let one : keep p ((a + i) ∷ []) ≡ (a + i) ∷ [] = rw e in
      split ∙ ap (λ (xs : List ℕ). keep p (up_from a i) ++ xs) one

  pub row_miss : p (a + i) ≡ false → keep p (up_from a (i + 1)) ≡ keep p (up_from a i)
  row_miss e =
      let none : keep p ((a + i) ∷ []) ≡ [] = rw e in
      split ∙ ap (λ (xs : List ℕ). keep p (up_from a i) ++ xs) none ∙ append-nil (keep p (up_from a i))

  pub rows_few : length (keep p (up_from a i)) ≤ i
  rows_few = omega (arith, length-keep p (up_from a i), length-up_from a i)

-- the covered rows, one column further
module _ (p : ℕ → Bool) (j : ℕ) where
  pub column-after : triangle (j + 1) ≡ triangle j + (j + 1)
  column-after = rw add-one (triangle-suc j)

  pub next-column : keep p (below (triangle (j + 1))) ≡ keep p (below (triangle j)) ++ keep p (up_from (triangle j) (j + 1))
  next-column =
      ap (λ (k : ℕ). keep p (below k)) column-after
      ∙ ap (keep p) (up_from-append 0 (triangle j) (j + 1) ∙ ap (λ (a : ℕ). below (triangle j) ++ up_from a (j + 1)) (zero-add (triangle j)))
      ∙ keep_append p (below (triangle j)) (up_from (triangle j) (j + 1))
