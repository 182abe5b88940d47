-- The packed upper triangle: the pair (i, j) with i ≤ j has index triangle j + i, and no other such pair has it.
use Prim.Native.Nat.{ℕ, zero, suc, ◌+◌, ◌-◌, ◌≤◌, ◌<◌}
use native.Mathlib.Nat.{le_refl, add-sub_cancel_left}
use native.Mathlib.Omega.{arith}
use mathlib.Core.Path.{◌≡◌, refl, sym, ap, ap₂, subst₂, ◌∙◌}
use mathlib.Core.Logic.Iff
use mathlib.Core.Logic.{◌↔◌, inl, inr}
use mathlib.Core.Bool.{Bool}
use lib.ListN.{length}
use lib.Dec.{T, leb, leb→le, le→leb}
use Rattle.layout.specs.General.Lists.{keep, below}
use Rattle.layout.specs.General.Triangle.{triangle, pair_index, index_column, index_row}
use Rattle.layout.proofs.Lists.Tests.{leb_iff, lt_or_le, cond_passed, cond_failed}
use Rattle.layout.proofs.Lists.Members.{has-keep, has-below, length-up_from}
use Rattle.layout.proofs.Lists.Distinct.{distinct-keep, distinct-up_from, same_length}

pub triangle-suc : (k : ℕ) → triangle (suc k) ≡ triangle k + suc k
triangle-suc k = omega arith

pub triangle_mono : (a b : ℕ) → a ≤ b → triangle a ≤ triangle b
triangle_mono a zero l = let e : a ≡ 0 = omega arith in rw e (le_refl 0)
triangle_mono a (suc b) l = elim (lt_or_le a (suc b)) [
  | inl m ↦ let h : triangle a ≤ triangle b = triangle_mono a b (omega arith) in omega (arith, triangle-suc b)
  | inr m ↦ let e : a ≡ suc b = omega arith in rw e (le_refl (triangle (suc b)))
]

-- an index of a column before k is below triangle k
pub triangle-column : (i j k : ℕ) → i ≤ j → j < k → triangle j + i < triangle k
triangle-column i j k l m =
    let h : triangle (suc j) ≤ triangle k = triangle_mono (suc j) k m in
    omega (arith, triangle-suc j)

-- the index determines the pair
pub triangle_injective : (i j k l : ℕ) → i ≤ j → k ≤ l → triangle j + i ≡ triangle l + k → (i ≡ k) × (j ≡ l)
triangle_injective i j k l m n e = elim (lt_or_le j l) [
  | inl h ↦ absurd (omega (arith, triangle-column i j l m h))
  | inr h ↦ elim (lt_or_le l j) [
    | inl g ↦ absurd (omega (arith, triangle-column k l j n g))
    | inr g ↦
        let q : j ≡ l = omega arith in
        let t : triangle j ≡ triangle l = ap triangle q in
        (omega arith, q)
  ]
]

-- every index is the index of a pair
pair_from : (a k t : ℕ) → triangle a + t < triangle (a + k)
    → (i : ℕ) × (j : ℕ) × (i ≤ j) × (j < a + k) × (triangle a + t ≡ triangle j + i)
pair_from a zero t l = absurd (let e : triangle (a + 0) ≡ triangle a = ap triangle (omega arith) in omega arith)
pair_from a (suc k) t l = elim (lt_or_le t (suc a)) [
  | inl m ↦ (t, a, omega arith, omega arith, refl)
  | inr m ↦
      let e : triangle (a + suc k) ≡ triangle (suc a + k) = ap triangle (omega arith) in
      let (i, j, le, lt, q) = pair_from (suc a) k (t - suc a) (omega (arith, triangle-suc a)) in
      (i, j, le, omega arith, omega (arith, triangle-suc a))
]

pub triangle-pair : (n t : ℕ) → t < triangle n → (i : ℕ) × (j : ℕ) × (i ≤ j) × (j < n) × (t ≡ triangle j + i)
triangle-pair n t l =
    let e : triangle (0 + n) ≡ triangle n = ap triangle (omega arith) in
    let (i, j, le, lt, q) = pair_from 0 n t (omega arith) in
    (i, j, le, omega arith, omega arith)

-- ---- pair_index

pub pair_index-le : (i j : ℕ) → i ≤ j → pair_index i j ≡ triangle j + i
pair_index-le i j l = cond_passed (leb i j) _ _ (le→leb i j l)

pub pair_index_gt : (i j : ℕ) → j < i → pair_index i j ≡ triangle i + j
pair_index_gt i j l = cond_failed (leb i j) _ _ (omega (arith, leb→le))

-- ---- from the index back to the pair

-- the number of columns that end at or before an index is the number of its column
column-count : (n i j : ℕ) → i ≤ j → j < n → length (keep (λ k. leb (triangle (suc k)) (triangle j + i)) (below n)) ≡ j
column-count n i j l m =
    same_length (keep ends (below n)) (below j) (distinct-keep ends (below n) (distinct-up_from 0 n)) (distinct-up_from 0 j)
    (λ k. Iff.trans (has-keep ends k (below n)) (
      λ h. (has-below k j).1 (before k ((ends_iff k).0 h.1)),
      λ h.
          let q : k < j = (has-below k j).0 h in
          ((has-below k n).1 (omega arith), (ends_iff k).1 (omega (arith, triangle_mono (suc k) j q))),
    ))
    ∙ length-up_from 0 j
  where
    ends : ℕ → Bool
    ends k = leb (triangle (suc k)) (triangle j + i)

    ends_iff : (k : ℕ) → T (ends k) ↔ (triangle (suc k) ≤ triangle j + i)
    ends_iff k = leb_iff (triangle (suc k)) (triangle j + i)

    before : (k : ℕ) → triangle (suc k) ≤ triangle j + i → k < j
    before k h = elim (lt_or_le k j) [ inl q ↦ q | inr q ↦ absurd (omega (arith, triangle-column i j (suc k) l (omega arith))) ]

pub index_column_lem : (i j : ℕ) → i ≤ j → j < 256 → index_column (triangle j + i) ≡ j
index_column_lem i j l m = column-count 256 i j l m

pub index_row_lem : (i j : ℕ) → i ≤ j → j < 256 → index_row (triangle j + i) ≡ i
index_row_lem i j l m = ap (λ (c : ℕ). triangle j + i - triangle c) (index_column_lem i j l m) ∙ add-sub_cancel_left (triangle j) i

-- the row and the column of an index below triangle 256 are a pair with that index
pub pair_index-back : (t : ℕ) → t < triangle 256 → (index_row t ≤ index_column t) × (pair_index (index_row t) (index_column t) ≡ t)
pair_index-back t l =
    let (i, j, le, lt, e) = triangle-pair 256 t l in
    let c : index_column t ≡ j = ap index_column e ∙ index_column_lem i j le lt in
    let r : index_row t ≡ i = ap index_row e ∙ index_row_lem i j le lt in
    (subst₂ ◌≤◌ (sym r) (sym c) le, ap₂ pair_index r c ∙ pair_index-le i j le ∙ sym e)
