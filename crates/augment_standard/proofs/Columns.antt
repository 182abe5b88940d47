-- The tables of H over -I extended by one column, and pairs of values.
use Prim.Native.Nat.{ℕ, zero, suc, ◌+◌, ◌*◌, ◌≤◌, ◌<◌}
use native.Mathlib.Numerals.{add-one}
use native.Mathlib.Omega.{arith}
use mathlib.Core.Path.{◌≡◌, refl, sym, ap, ◌∙◌}
use mathlib.Core.List.{List, [], ◌∷◌, ◌++◌}
use lib.ListN.{length, get_or, take, drop, set, length-drop}
use lib.Seq.{take-suc, take_all, length-take-le, get_or-take, get_or-drop}
use lib.Ieee.{Float}
use Rattle.layout.specs.General.Lists.{written}
use Rattle.layout.proofs.Lists.Starts.{written-rest}
use Rattle.augment_standard.specs.Beside.{h_starts, h_rows, pair_values}
use Rattle.layout.proofs.Lists.Buffers.{two_more}

pub length-h_starts : (a k : ℕ) → length (h_starts a k) ≡ k
length-h_starts a zero = refl
length-h_starts a (suc k) = ap suc (length-h_starts (a + 2) k)

pub length-h_rows : (r : ℕ) (os : List ℕ) → length (h_rows r os) ≡ 2 * length os
length-h_rows r [] = refl
length-h_rows r (o ∷ os) = omega (arith, length-h_rows (suc r) os)

pub length_pairs : (u v : Float) (k : ℕ) → length (pair_values u v k) ≡ 2 * k
length_pairs u v zero = refl
length_pairs u v (suc k) = omega (arith, length_pairs u v k)

starts_last : (a k : ℕ) → h_starts a (suc k) ≡ h_starts a k ++ ((a + 2 * suc k) ∷ [])
starts_last a zero = refl
starts_last a (suc k) =
    ap (λ (r : List ℕ). (a + 2) ∷ r)
    (starts_last (a + 2) k ∙ ap (λ (s : ℕ). h_starts (a + 2) k ++ (s ∷ [])) (omega arith))

pub starts_more : (a k end : ℕ) → end ≡ a + 2 * k → h_starts a (k + 1) ≡ h_starts a k ++ ((end + 2) ∷ [])
starts_more a k end e = rw add-one (starts_last a k ∙ ap (λ (s : ℕ). h_starts a k ++ (s ∷ [])) (omega arith))

rows_last : (r : ℕ) (os : List ℕ) (o : ℕ) → h_rows r (os ++ (o ∷ [])) ≡ h_rows r os ++ (o ∷ (r + length os) ∷ [])
rows_last r [] o = ap (λ (s : ℕ). o ∷ s ∷ []) (omega arith)
rows_last r (x ∷ os) o =
    ap (λ (l : List ℕ). x ∷ r ∷ l)
    (rows_last (suc r) os o ∙ ap (λ (s : ℕ). h_rows (suc r) os ++ (o ∷ s ∷ [])) (omega arith))

rows_more : (r : ℕ) (os : List ℕ) (i : ℕ) → i < length os
    → h_rows r (take (i + 1) os) ≡ h_rows r (take i os) ++ (get_or os i 0 ∷ (r + i) ∷ [])
rows_more r os i h =
    ap (h_rows r) (ap (λ (k : ℕ). take k os) (add-one i) ∙ take-suc os i 0 h)
    ∙ rows_last r (take i os) (get_or os i 0)
    ∙ ap (λ (k : ℕ). h_rows r (take i os) ++ (get_or os i 0 ∷ (r + k) ∷ [])) (length-take-le i os (omega arith))

-- the original rows of k columns are at index k on, and the first i columns are written from index 0 on
module _ (r k : ℕ) (old : List ℕ) (room : 2 * k ≤ length old) where
  abbrev os : List ℕ
  os = take k (drop k old)

  abbrev done : ℕ → List ℕ
  done i = h_rows r (take i os)

  size : length os ≡ k
  size = length-take-le k (drop k old) (omega (arith, length-drop k old))

  seam : (i : ℕ) → i ≤ k → length (done i) ≡ 2 * i
  seam i h = omega (arith, length-h_rows r (take i os), length-take-le i os (omega (arith, size)))

  -- the original row of column i is not yet overwritten
  unread : (i : ℕ) → i < k → get_or (written (done i) old) (k + i) 0 ≡ get_or os i 0
  unread i h =
      written-rest (done i) old (k + i) 0 (omega (arith, seam i (omega arith)))
      ∙ sym (get_or-take k (drop k old) i 0 h ∙ get_or-drop k old i 0)

  pub spread_more : (i t : ℕ) (out : List ℕ) → i < k → t ≡ 2 * i → out ≡ written (done i) old
      → set (set out t (get_or out (k + i) 0)) (t + 1) (r + i) ≡ written (done (i + 1)) old
  spread_more i t out h e f =
      rw (f, unread i h, rows_more r os i (omega (arith, size)))
      (two_more (done i) old (get_or os i 0) (r + i) t (omega (arith, seam i (omega arith))) (omega arith))

  pub spread_done : (i : ℕ) → k ≤ i → done i ≡ h_rows r os
  spread_done i h = ap (h_rows r) (take_all i os (omega (arith, size)))

pairs_last : (u v : Float) (k : ℕ) → pair_values u v (suc k) ≡ pair_values u v k ++ (u ∷ v ∷ [])
pairs_last u v zero = refl
pairs_last u v (suc k) = ap (λ (l : List Float). u ∷ v ∷ l) (pairs_last u v k)

pub pairs_more : (u v : Float) (k : ℕ) → pair_values u v (k + 1) ≡ pair_values u v k ++ (u ∷ v ∷ [])
pairs_more u v k = rw add-one (pairs_last u v k)
