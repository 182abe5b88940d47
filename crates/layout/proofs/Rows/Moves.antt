-- The compact route's augmented rows, all parts together: each original row that occurs in them is moved to exactly one of them,
-- the first, and each overlap is tied to an earlier row with the same original row.
use Prim.Native.Nat.{ℕ, ◌+◌, ◌≤◌, ◌<◌}
use native.Mathlib.Nat.{le_refl, not-suc-le-zero}
use native.Mathlib.Omega.{arith}
use mathlib.Core.Path.{◌≡◌, refl, sym, ap, subst, ◌∙◌}
use mathlib.Core.Logic.{◌⊎◌, inl, inr}
use mathlib.Core.Bool.{Bool, true, false}
use mathlib.Core.List.{List, [], ◌++◌, map}
use lib.ListN.{length, get_or, length-map, get_or-append}
use lib.Seq.{get_or-append-add}
use lib.Dec.{T}
use Rattle.layout.specs.General.Lists.{up_from}
use Rattle.layout.specs.General.Triangle.{triangle}
use Rattle.layout.specs.Problems.Patterns.{Pattern}
use Rattle.layout.specs.Rows.Blocks.{Row, kept, owned, overlap, original_row, pattern_rows, block_rows}
use Rattle.layout.specs.Checks.{RightPattern}
use Rattle.layout.proofs.Lists.Members.{get_or_map, length-up_from, get_or-up_from}
use Rattle.layout.proofs.Lists.Joins.{append-place}
use Rattle.layout.proofs.Rows.Rows.{rows-count, row_inside, row-kind, owned-once, owned_before, overlap_tied}

abbrev pub row_at : List Row → ℕ → Row
row_at R r = get_or R r (kept 0)

-- whether A's and b's values of the original row are moved to this row
abbrev pub is_moved : Row → Bool
is_moved (kept o) = true
is_moved (owned o) = true
is_moved (overlap o r) = false

abbrev is_kept : Row → Bool
is_kept (kept o) = true
is_kept (owned o) = false
is_kept (overlap o r) = false

-- what holds of augmented rows numbered from `first` on, with original rows o in lo ≤ o < hi
pub record RightRows (first lo hi : ℕ) (R : List Row) : Type 0 where
  pub inside : (r : ℕ) → r < length R → (lo ≤ original_row (row_at R r)) × (original_row (row_at R r) < hi)
  -- no original row is moved twice
  pub once : (r s : ℕ) → r < length R → s < length R → T (is_moved (row_at R r)) → T (is_moved (row_at R s))
      → original_row (row_at R r) ≡ original_row (row_at R s) → r ≡ s
  -- the original row of each row is moved, to that row or an earlier one
  pub before : (r : ℕ) → r < length R
      → (s : ℕ) × (s ≤ r) × T (is_moved (row_at R s)) × (original_row (row_at R s) ≡ original_row (row_at R r))
  -- an overlap is tied to an earlier row with the same original row
  pub tied : (r o q : ℕ) → r < length R → row_at R r ≡ overlap o q
      → (s : ℕ) × (s < r) × (q ≡ first + s) × (original_row (row_at R s) ≡ o)
  -- a kept row is the only row with its original row
  pub alone : (r s o : ℕ) → r < length R → s < length R → row_at R r ≡ kept o → original_row (row_at R s) ≡ o → s ≡ r

pub nil-rows : (first lo : ℕ) → RightRows first lo lo []
nil-rows first lo = record {
  inside = λ r l. absurd (not-suc-le-zero l);
  once = λ r s l. absurd (not-suc-le-zero l);
  before = λ r l. absurd (not-suc-le-zero l);
  tied = λ r o q l. absurd (not-suc-le-zero l);
  alone = λ r s o l. absurd (not-suc-le-zero l);
}

pub kept-rows : (first row n : ℕ) → RightRows first row (row + n) (map kept (up_from row n))
kept-rows first row n = record {
  inside = λ r l. let e = original r l in (omega arith, omega (arith, size r l));
  once = λ r s l m _ _ q. omega (arith, original r l, original s m);
  before = λ r l. (r, le_refl r, subst (λ (x : Row). T (is_moved x)) (sym (keeps r l)) tt, refl);
  tied = λ r o q l e. absurd (subst (λ (x : Row). T (is_moved x)) (sym (keeps r l) ∙ e) tt);
  alone = λ r s o l m e q. omega (arith, original r l, original s m, ap original_row e);
}
  where
    R : List Row
    R = map kept (up_from row n)

    size : (r : ℕ) → r < length R → r < n
    size r l = omega (arith, length-map (up_from row n) kept, length-up_from row n)

    keeps : (r : ℕ) → r < length R → row_at R r ≡ kept (row + r)
    keeps r l =
        get_or_map kept (up_from row n) r 0 (kept 0) (omega (arith, size r l, length-up_from row n))
        ∙ ap kept (get_or-up_from row n r 0 (size r l))

    original : (r : ℕ) → r < length R → original_row (row_at R r) ≡ row + r
    original r l = ap original_row (keeps r l)

-- ---- two lists of rows appended

module _ (first lo mid hi : ℕ) (R S : List Row)
    (left : RightRows first lo mid R) (right : RightRows (first + length R) mid hi S) (low : lo ≤ mid) (high : mid ≤ hi) where
  -- row r of R ++ S is a row of R (`Left`) or of S (`Right`)
  abbrev Left : ℕ → Type 0
  Left r = (r < length R) × (row_at (R ++ S) r ≡ row_at R r)

  abbrev Right : ℕ → Type 0
  Right r = (s : ℕ) × (s < length S) × (r ≡ length R + s) × (row_at (R ++ S) r ≡ row_at S s)

  side : (r : ℕ) → r < length (R ++ S) → Left r ⊎ Right r
  side r l = append-place R S r (kept 0) l

  moves : {x y : Row} → x ≡ y → T (is_moved x) → T (is_moved y)
  moves e h = subst (λ (z : Row). T (is_moved z)) e h

  inside-left : (r : ℕ) → Left r → (lo ≤ original_row (row_at (R ++ S) r)) × (original_row (row_at (R ++ S) r) < mid)
  inside-left r v = omega (arith, left.inside r v.0, ap original_row v.1)

  inside-right : (r : ℕ) → Right r → (mid ≤ original_row (row_at (R ++ S) r)) × (original_row (row_at (R ++ S) r) < hi)
  inside-right r v = omega (arith, right.inside v.0 v.1, ap original_row v.3)

  both_once : (r s : ℕ) → r < length (R ++ S) → s < length (R ++ S)
      → T (is_moved (row_at (R ++ S) r)) → T (is_moved (row_at (R ++ S) s))
      → original_row (row_at (R ++ S) r) ≡ original_row (row_at (R ++ S) s) → r ≡ s
  both_once r s l m h k e = elim (side r l) [
    | inl v ↦ elim (side s m) [
      | inl w ↦
          left.once r s v.0 w.0 (moves v.1 h) (moves w.1 k)
          (sym (ap original_row v.1) ∙ e ∙ ap original_row w.1)
      | inr w ↦ absurd (omega (arith, inside-left r v, inside-right s w, e))
    ]
    | inr v ↦ elim (side s m) [
      | inl w ↦ absurd (omega (arith, inside-right r v, inside-left s w, e))
      | inr w ↦
          let q = right.once v.0 w.0 v.1 w.1 (moves v.3 h) (moves w.3 k)
          (sym (ap original_row v.3) ∙ e ∙ ap original_row w.3) in
          omega (arith, v.2, w.2, q)
    ]
  ]

  both_before : (r : ℕ) → r < length (R ++ S)
      → (s : ℕ) × (s ≤ r) × T (is_moved (row_at (R ++ S) s)) × (original_row (row_at (R ++ S) s) ≡ original_row (row_at (R ++ S) r))
  both_before r l = elim (side r l) [
    | inl v ↦
        let (s, le, h, e) = left.before r v.0 in
        let q : row_at (R ++ S) s ≡ row_at R s = get_or-append R S (kept 0) s (omega (arith, v.0)) in
        (s, le, moves (sym q) h, ap original_row q ∙ e ∙ sym (ap original_row v.1))
    | inr v ↦
        let (s, le, h, e) = right.before v.0 v.1 in
        let q : row_at (R ++ S) (length R + s) ≡ row_at S s = get_or-append-add R S s (kept 0) in
        (length R + s, omega (arith, v.2), moves (sym q) h, ap original_row q ∙ e ∙ sym (ap original_row v.3))
  ]

  both_tied : (r o q : ℕ) → r < length (R ++ S) → row_at (R ++ S) r ≡ overlap o q
      → (s : ℕ) × (s < r) × (q ≡ first + s) × (original_row (row_at (R ++ S) s) ≡ o)
  both_tied r o q l f = elim (side r l) [
    | inl v ↦
        let (s, lt, e, g) = left.tied r o q v.0 (sym v.1 ∙ f) in
        (s, lt, e, ap original_row (get_or-append R S (kept 0) s (omega (arith, v.0))) ∙ g)
    | inr v ↦
        let (s, lt, e, g) = right.tied v.0 o q v.1 (sym v.3 ∙ f) in
        (length R + s, omega (arith, v.2), omega arith, ap original_row (get_or-append-add R S s (kept 0)) ∙ g)
  ]

  both_alone : (r s o : ℕ) → r < length (R ++ S) → s < length (R ++ S) → row_at (R ++ S) r ≡ kept o
      → original_row (row_at (R ++ S) s) ≡ o → s ≡ r
  both_alone r s o l m f e = elim (side r l) [
    | inl v ↦ elim (side s m) [
      | inl w ↦ left.alone r s o v.0 w.0 (sym v.1 ∙ f) (sym (ap original_row w.1) ∙ e)
      | inr w ↦ absurd (omega (arith, inside-left r v, inside-right s w, e, ap original_row f))
    ]
    | inr v ↦ elim (side s m) [
      | inl w ↦ absurd (omega (arith, inside-right r v, inside-left s w, e, ap original_row f))
      | inr w ↦
          let q = right.alone v.0 w.0 o v.1 w.1 (sym v.3 ∙ f) (sym (ap original_row w.3) ∙ e) in
          omega (arith, v.2, w.2, q)
    ]
  ]

  pub append-rows : RightRows first lo hi (R ++ S)
  append-rows = record {
    inside = λ r l. elim (side r l) [ inl v ↦ omega (arith, inside-left r v) | inr v ↦ omega (arith, inside-right r v) ];
    once = both_once;
    before = both_before;
    tied = both_tied;
    alone = both_alone;
  }

-- ---- the rows of a pattern

module _ (p : Pattern) (h : RightPattern p) (base first : ℕ) where
  small : (r : ℕ) → r < length (pattern_rows p base first) → r < block_rows p
  small r l = omega (arith, rows-count p h base first)

  -- a pattern's row that is moved to is an owned row
  moved-owned : (r : ℕ) → r < length (pattern_rows p base first) → T (is_moved (row_at (pattern_rows p base first) r))
      → row_at (pattern_rows p base first) r ≡ owned (original_row (row_at (pattern_rows p base first) r))
  moved-owned r l m = elim (row-kind p h base first r (kept 0) (small r l)) [
    | inl e ↦ e
    | inr e ↦ absurd (subst (λ (x : Row). T (is_moved x)) e.1 m)
  ]

  pub never_kept : (r o : ℕ) → r < length (pattern_rows p base first) → row_at (pattern_rows p base first) r ≡ kept o → ⊥
  never_kept r o l e = elim (row-kind p h base first r (kept 0) (small r l)) [
    | inl k ↦ subst (λ (x : Row). T (is_kept x)) (sym e ∙ k) tt
    | inr k ↦ subst (λ (x : Row). T (is_kept x)) (sym e ∙ k.1) tt
  ]

  pub pattern_rows_lem : RightRows first base (base + triangle p.vertex_count) (pattern_rows p base first)
  pattern_rows_lem = record {
    inside = λ r l. row_inside p h base first r (kept 0) (small r l);
    once = λ r s l m j k e.
        owned-once p h base first r s (original_row (row_at (pattern_rows p base first) s)) (kept 0)
        (small r l) (small s m) (moved-owned r l j ∙ ap owned e) (moved-owned s m k);
    before = λ r l.
        let (s, le, e) = owned_before p h base first r (kept 0) (small r l) in
        (s, le, subst (λ (x : Row). T (is_moved x)) (sym e) tt, ap original_row e);
    tied = λ r o q l e. overlap_tied p h base first r o q (kept 0) (small r l) e;
    alone = λ r s o l m e q. absurd (never_kept r o l e);
  }
