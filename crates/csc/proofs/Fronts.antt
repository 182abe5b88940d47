-- Tests of each element of a list against the next one, step by step from the front; tests of the columns of a matrix without rows.
use Prim.Native.Nat.{ℕ, zero, suc, ◌+◌, ◌-◌, ◌≤◌, ◌<◌}
use native.Mathlib.Omega.{arith}
use mathlib.Core.Path.{◌≡◌, refl, ap, ap₂, ◌∙◌}
use mathlib.Core.Bool.{Bool, true, false, ◌&&◌}
use mathlib.Core.List.{List, [], ◌∷◌}
use lib.ListN.{length, get_or, take, drop}
use lib.Seq.{drop-cons, take-nil, drop-nil}
use lib.Dec.{leb, ltb}
use Rattle.layout.specs.General.Lists.{all, below, rises, never_falls}
use Rattle.layout.specs.Checks.{column_rows}
use Rattle.layout.proofs.Lists.Members.{length-below}
use Rattle.layout.proofs.Lists.Walks.{all_done}
use Rattle.layout.proofs.Lists.Keeps.{drop-below}
use Rattle.csc.specs.Matrix.{table}

-- whether p holds of each number and the next one
abbrev pub chained : (ℕ → ℕ → Bool) → List ℕ → Bool
chained p [] = true
chained p (x ∷ []) = true
chained p (x ∷ y ∷ ys) = p x y && chained p (y ∷ ys)

pub falls_chained : (xs : List ℕ) → never_falls xs ≡ chained leb xs
falls_chained [] = refl
falls_chained (x ∷ []) = refl
falls_chained (x ∷ y ∷ ys) = ap (λ (b : Bool). leb x y && b) (falls_chained (y ∷ ys))

pub rises_chained : (xs : List ℕ) → rises xs ≡ chained ltb xs
rises_chained [] = refl
rises_chained (x ∷ []) = refl
rises_chained (x ∷ y ∷ ys) = ap (λ (b : Bool). ltb x y && b) (rises_chained (y ∷ ys))

module _ (p : ℕ → ℕ → Bool) where
  chain_at : (xs : List ℕ) (i : ℕ) → 1 ≤ i → i < length xs
      → chained p (drop (i - 1) xs) ≡ (p (get_or xs (i - 1) 0) (get_or xs i 0) && chained p (drop (i + 1 - 1) xs))
  chain_at xs i l h =
      let e : suc (i - 1) ≡ i = omega arith in
      let d : i + 1 - 1 ≡ i = omega arith in
      rw (d, drop-cons xs (i - 1) 0 (omega arith), e, drop-cons xs i 0 h)

  pub chain_step : (xs : List ℕ) (i : ℕ) → 1 ≤ i → i < length xs → p (get_or xs (i - 1) 0) (get_or xs i 0) ≡ true
      → chained p (drop (i - 1) xs) ≡ chained p (drop (i + 1 - 1) xs)
  chain_step xs i l h e = chain_at xs i l h ∙ rw e

  pub chain_fails : (xs : List ℕ) (i : ℕ) → 1 ≤ i → i < length xs → p (get_or xs (i - 1) 0) (get_or xs i 0) ≡ false
      → chained p (drop (i - 1) xs) ≡ false
  chain_fails xs i l h e = chain_at xs i l h ∙ rw e

  last_alone : (xs : List ℕ) (k : ℕ) → length xs ≤ suc k → chained p (drop k xs) ≡ true
  last_alone [] zero h = refl
  last_alone [] (suc k) h = refl
  last_alone (x ∷ []) zero h = refl
  last_alone (x ∷ []) (suc k) h = last_alone [] k (omega arith)
  last_alone (x ∷ y ∷ ys) zero h = absurd (omega arith)
  last_alone (x ∷ y ∷ ys) (suc k) h = last_alone (y ∷ ys) k (omega arith)

  pub chain_done : (xs : List ℕ) (i : ℕ) → length xs ≤ i → chained p (drop (i - 1) xs) ≡ true
  chain_done xs i h = last_alone xs (i - 1) (omega arith)

-- a test of every number below n, from k on
module _ (p : ℕ → Bool) where
  pub below_step : (n k : ℕ) → k < n → p k ≡ true → all p (drop k (below n)) ≡ all p (drop (k + 1) (below n))
  below_step n k h e = ap (all p) (drop-below n k h) ∙ rw e

  pub below_fails : (n k : ℕ) → k < n → p k ≡ false → all p (drop k (below n)) ≡ false
  below_fails n k h e = ap (all p) (drop-below n k h) ∙ rw e

  pub below-done : (n k : ℕ) → n ≤ k → all p (drop k (below n)) ≡ true
  below-done n k h = all_done p (below n) k (omega (arith, length-below n))

-- a matrix without rows passes check 3, whatever test p is made on the rows of each column
pub empty_passes : (p : List ℕ → Bool) → p [] ≡ true → (m n : ℕ) (starts rows : List ℕ) → length rows ≡ 0
    → (all (λ r. ltb r m) rows && all (λ c. p (column_rows (table starts rows) c)) (below n)) ≡ true
empty_passes p e m n starts (r ∷ rows) h = absurd (omega arith)
empty_passes p e m n starts [] h = go (below n)
  where
    none : (c : ℕ) → column_rows (table starts []) c ≡ []
    none c =
        let k = get_or starts (suc c) 0 - get_or starts c 0 in
        ap (λ (rows : List ℕ). take k rows) (drop-nil (get_or starts c 0)) ∙ take-nil k

    go : (cs : List ℕ) → all (λ c. p (column_rows (table starts []) c)) cs ≡ true
    go [] = refl
    go (c ∷ cs) = ap₂ (λ (a b : Bool). a && b) (ap p (none c) ∙ e) (go cs)
