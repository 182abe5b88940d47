-- Both routes state the same problem. The standard equations' block rows force the added unknowns to be the blocks; its first m rows are
-- then the original equations with the blocks' sums as slacks, to which the compact equations are equivalent by demand 3.
use Prim.Native.Nat.{ℕ, zero, suc, ◌+◌, ◌-◌, ◌<◌}
use native.Mathlib.Omega.{arith}
use mathlib.Core.Path.{◌≡◌, refl, sym, ap, ap₂, subst, ◌∙◌}
use mathlib.Core.Logic.{◌↔◌, inl, inr}
use mathlib.Core.Bool.{cond, ◌&&◌}
use mathlib.Core.List.{List, [], ◌∷◌, ◌++◌, map}
use lib.ListN.{length, get_or, replicate, length-map, length-replicate, get_or-replicate, get_or-append}
use lib.Seq.{get_or-append-add, ext_get_or}
use lib.Dec.{T, eqb, ltb}
use lib.IntN.{ℤ, pos, negsuc, neg_ℤ, ◌+ℤ◌, ◌*ℤ◌, ℤ_discrete, *ℤ-zero, +ℤ_idl, +ℤ_idr, +ℤ_invl}
use lib.Ieee.{Float, nan}
use Rattle.layout.specs.General.Lists.{has, all, below, up_from}
use Rattle.layout.specs.General.Floats.{zero64, finite, count, unit}
use Rattle.layout.specs.Problems.Problem.{Problem, Csc, Route, standard, compact}
use Rattle.layout.specs.Rows.Blocks.{standard_rows, block_row_count, overlap_count}
use Rattle.layout.specs.Checks.{layout, refusal}
use Rattle.layout.specs.Cuts.Compact.{Entry, column, summed_a}
use Rattle.layout.specs.Cuts.Standard.{block_column, block_columns, standard_a, standard_b}
use Rattle.layout.specs.Equations.Equations.{at, column_term, columns_term, MeetsOriginal, MeetsAugmented, slack_sums, AllFinite, ExactlyOne}
use Rattle.layout.specs.Rows.Orders.{compact_order, standard_order}
use Rattle.layout.specs.Equations.BothRoutes.{MeetsStandard, standard_slacks, StandardSolutions, without_repeats, StoredFinite, BothRoutes}
use Rattle.layout.proofs.Lists.Tests.{and_iff, ltb_iff, lt_or_le}
use Rattle.layout.proofs.Lists.Members.{get_or_map, all-has, has-below, has-up_from}
use Rattle.layout.proofs.Numbers.Integers.{one_*ℤ, minus_one_*ℤ, linear}
use Rattle.layout.proofs.Numbers.Sums.{swap_middle}
use Rattle.layout.proofs.Numbers.OnRow.{on_row, on_row_is}
use Rattle.layout.proofs.Checks.Accepted.{accepted_checked}
use Rattle.layout.proofs.Rows.Laid.{accepted-laid, accepted-rows}
use Rattle.layout.proofs.Columns.Columns.{column-all, right_A}
use Rattle.layout.proofs.Columns.Compressed.{csc_ruled, csc-later}
use Rattle.layout.proofs.Columns.Repeats.{A-alone}
use Rattle.layout.proofs.Equations.RowSums.{terms, columns_terms, terms_bare}
use Rattle.layout.proofs.Rows.Orders.{length_compact, length_standard, standard_compact, compact_standard}
use Rattle.layout.proofs.Equations.Totals.{row_total, total-none, total-up, h_inside, compact_total}
use Rattle.layout.proofs.Columns.Sizes.{standard_count, blocks-count}
use Rattle.layout.proofs.Theorems.Demand3.{demand3}

-- ---- columns of H over -I

block_at : (r : ℕ) (os : List ℕ) (k : ℕ) → k < length os → get_or (block_columns r os) k [] ≡ block_column (get_or os k 0) (r + k)
block_at r [] k l = absurd (omega arith)
block_at r (o ∷ os) zero l = ap (block_column o) (omega arith)
block_at r (o ∷ os) (suc k) l =
    let there : suc r + k ≡ r + suc k = omega arith in
    block_at (suc r) os k (omega arith) ∙ ap (block_column (get_or os k 0)) there

block_term : (o q r : ℕ) (u : ℤ) → column_term unit r u (block_column o q) ≡ on_row o r u +ℤ on_row q r (neg_ℤ u)
block_term o q r u =
    ap₂ ◌+ℤ◌
    (sym (on_row_is o r (pos 1 *ℤ u)) ∙ ap (on_row o r) (one_*ℤ u))
    (+ℤ_idr (cond (eqb q r) (negsuc 0 *ℤ u) (pos 0)) ∙ sym (on_row_is q r (negsuc 0 *ℤ u)) ∙ ap (on_row q r) (minus_one_*ℤ u))

-- the contribution to row r of these columns times y: y summed by the rows of H, and -y in the rows from q on
block_terms : (os : List ℕ) (q : ℕ) (g : ℕ → List Entry) (c : ℕ) (y : List ℤ) (r : ℕ) → length y ≡ length os
    → ((k : ℕ) → k < length os → g (c + k) ≡ block_column (get_or os k 0) (q + k))
    → terms unit r g c y ≡ row_total os y r +ℤ row_total (up_from q (length os)) (map neg_ℤ y) r
block_terms [] q g c [] r e h = refl
block_terms [] q g c (u ∷ y) r e h = absurd (omega arith)
block_terms (o ∷ os) q g c [] r e h = absurd (omega arith)
block_terms (o ∷ os) q g c (u ∷ y) r e h =
    let here : c ≡ c + 0 = omega arith in
    let first : q + 0 ≡ q = omega arith in
    ap₂ ◌+ℤ◌
    (ap (column_term unit r u) (ap g here ∙ h 0 (omega arith) ∙ ap (block_column o) first) ∙ block_term o q r u)
    (block_terms os (suc q) g (suc c) y r (omega arith) (λ k l. ap g (shift k) ∙ h (suc k) (omega arith) ∙ ap (block_column (get_or os k 0)) (sym (next k))))
    ∙ swap_middle (on_row o r u) (on_row q r (neg_ℤ u)) (row_total os y r) (row_total (up_from (suc q) (length os)) (map neg_ℤ y) r)
  where
    shift : (k : ℕ) → suc c + k ≡ c + suc k
    shift k = omega arith

    next : (k : ℕ) → suc q + k ≡ q + suc k
    next k = omega arith

-- ---- the standard equations of an accepted problem

module _ (p : Problem) (ok : refusal standard p ≡ 0) (once : T (without_repeats p)) where
  abbrev os : List ℕ
  os = standard_rows (layout p)

  abbrev blocks : ℕ
  blocks = block_row_count (layout p)

  columns_count : length os ≡ blocks
  columns_count = standard_count 0 (layout p) (accepted-laid standard p ok).0

  -- A's columns come first, then those of H over -I
  first_columns : (c : ℕ) → c < p.n → column (standard_a p) c ≡ column p.A c
  first_columns c l = csc_ruled (column p.A) p.n (block_columns p.m os) c l

  added_columns : (k : ℕ) → k < length os → column (standard_a p) (p.n + k) ≡ block_column (get_or os k 0) (p.m + k)
  added_columns k l =
      csc-later (column p.A) p.n (block_columns p.m os) k (omega (arith, blocks-count p.m os)) ∙ block_at p.m os k l

  -- ---- row sums

  first-sum : (x : List ℤ) (r : ℕ) → length x ≡ p.n → columns_term count r (standard_a p) 0 x ≡ columns_term count r p.A 0 x
  first-sum x r e =
      columns_terms count r (standard_a p) (column p.A) 0 x (λ i _ k. first_columns i (omega arith))
      ∙ sym (columns_terms count r p.A (column p.A) 0 x (λ i _ k. refl))

  -- without repeats the original equations have A itself
  original-sum : (x : List ℤ) (r : ℕ) → columns_term count r (summed_a p) 0 x ≡ columns_term count r p.A 0 x
  original-sum x r = ap (λ (M : Csc). columns_term count r M 0 x) (A-alone p standard ok once)

  added-sum : (y : List ℤ) (r : ℕ) → length y ≡ blocks
      → columns_term unit r (standard_a p) p.n y ≡ row_total os y r +ℤ row_total (up_from p.m (length os)) (map neg_ℤ y) r
  added-sum y r e =
      columns_terms unit r (standard_a p) (column (standard_a p)) p.n y (λ i _ k. refl)
      ∙ block_terms os p.m (column (standard_a p)) p.n y r (e ∙ sym columns_count) added_columns

  -- the stored entries of A are in the first m rows
  entries-inside : T (all (λ r. has r (below p.m)) p.A.rows)
  entries-inside = (all-has (λ r. has r (below p.m)) p.A.rows).1 (λ r h.
      (has-below r p.m).1 ((ltb_iff r p.m).0 ((all-has (λ r. ltb r p.m) p.A.rows).0 rows r h)))
    where
      rows : T (all (λ r. ltb r p.m) p.A.rows)
      rows = (simp and_iff at (accepted_checked standard p ok).rows_a).0

  below_A : (x : List ℤ) (k : ℕ) → length x ≡ p.n → columns_term count (p.m + k) p.A 0 x ≡ pos 0
  below_A x k e =
      columns_terms count (p.m + k) p.A (column p.A) 0 x (λ i _ l. refl)
      ∙ terms_bare count (below p.m) (p.m + k) (column p.A) 0 x
      (λ i _ l. column-all p.n p.A (right_A standard p ok) i (omega arith) (λ r. has r (below p.m)) entries-inside)
      (λ h. omega (arith, (has-below (p.m + k) p.m).0 h))

  h_above : (y : List ℤ) (k : ℕ) → row_total os y (p.m + k) ≡ pos 0
  h_above y k = total-none os y (p.m + k) (λ h.
      omega (arith, h_inside p.m (layout p) (accepted-laid standard p ok).0 (accepted-rows standard p ok) (p.m + k) h))

  identity_above : (y : List ℤ) (r : ℕ) → r < p.m → row_total (up_from p.m (length os)) y r ≡ pos 0
  identity_above y r l = total-none (up_from p.m (length os)) y r (λ h. omega (arith, (has-up_from r p.m (length os)).0 h))

  -- ---- the right side

  b_long : length p.b ≡ p.m
  b_long = (accepted_checked standard p ok).length_b

  first_b : (r : ℕ) → r < p.m → get_or (standard_b p) r nan ≡ get_or p.b r nan
  first_b r l = get_or-append p.b (replicate blocks zero64) nan r (omega (arith, b_long))

  later_b : (k : ℕ) → k < blocks → get_or (standard_b p) (p.m + k) nan ≡ zero64
  later_b k l =
      ap (λ (n : ℕ). get_or (standard_b p) (n + k) nan) (sym b_long)
      ∙ get_or-append-add p.b (replicate blocks zero64) k nan ∙ get_or-replicate blocks k zero64 nan l

  -- ---- for a denominator d, unknowns x and slacks t in compact order

  module _ (d : ℕ) (x t : List ℤ) (e : length x ≡ p.n) (g : length t ≡ blocks) where
    abbrev u : List ℤ
    u = standard_order (layout p) t

    u_long : length u ≡ blocks
    u_long = length_standard (layout p) t g

    zeros : length (replicate p.m (pos 0)) ≡ p.m
    zeros = length-replicate p.m (pos 0)

    first_slack : (r : ℕ) → r < p.m → at (standard_slacks p t) r ≡ pos 0
    first_slack r l =
        get_or-append (replicate p.m (pos 0)) u (pos 0) r (omega (arith, zeros)) ∙ get_or-replicate p.m r (pos 0) (pos 0) l

    later_slack : (k : ℕ) → at (standard_slacks p t) (p.m + k) ≡ at u k
    later_slack k =
        ap (λ (n : ℕ). at (standard_slacks p t) (n + k)) (sym zeros) ∙ get_or-append-add (replicate p.m (pos 0)) u k (pos 0)

    -- the blocks' sums by original row
    sums : (r : ℕ) → at (slack_sums p t) r ≡ row_total os u r
    sums r =
        ap (λ (s : List ℤ). at (slack_sums p s) r) (sym (compact_standard (layout p) t g))
        ∙ compact_total p.m (layout p) (accepted-laid standard p ok).0 (accepted-rows standard p ok) u r u_long

    abbrev left : List ℤ → ℕ → ℤ
    left y r =
        (columns_term count r (standard_a p) 0 x +ℤ columns_term unit r (standard_a p) p.n y) +ℤ at (standard_slacks p t) r

    module _ (y : List ℤ) (f : length y ≡ blocks) where
      -- row r below m: A times x, plus y summed by the rows of H
      upper : (r : ℕ) → r < p.m → left y r ≡ columns_term count r p.A 0 x +ℤ row_total os y r
      upper r l =
          ap₂ ◌+ℤ◌
          (ap₂ ◌+ℤ◌ (first-sum x r e) (added-sum y r f ∙ ap (λ (z : ℤ). row_total os y r +ℤ z) (identity_above (map neg_ℤ y) r l)))
          (first_slack r l)
          ∙ +ℤ_idr (columns_term count r p.A 0 x +ℤ (row_total os y r +ℤ pos 0))
          ∙ ap (λ (z : ℤ). columns_term count r p.A 0 x +ℤ z) (+ℤ_idr (row_total os y r))

      -- row m + k: the block's value less the unknown
      lower : (k : ℕ) → k < blocks → left y (p.m + k) ≡ neg_ℤ (at y k) +ℤ at u k
      lower k l =
          ap₂ ◌+ℤ◌
          (ap₂ ◌+ℤ◌ (first-sum x (p.m + k) e ∙ below_A x k e)
          (added-sum y (p.m + k) f
          ∙ ap₂ ◌+ℤ◌ (h_above y k)
          (total-up p.m (length os) k (map neg_ℤ y) (length-map y neg_ℤ ∙ f ∙ sym columns_count) (omega (arith, columns_count))
          ∙ get_or_map neg_ℤ y k (pos 0) (pos 0) (omega (arith, f)))))
          (later_slack k)
          ∙ ap (λ (z : ℤ). z +ℤ at u k) (+ℤ_idl (pos 0 +ℤ neg_ℤ (at y k)) ∙ +ℤ_idl (neg_ℤ (at y k)))

      -- the block rows force y to be the list of the blocks
      same_value : (a c : ℤ) → neg_ℤ a +ℤ c ≡ pos 0 → a ≡ c
      same_value a c h = sym (+ℤ_idr a) ∙ ap (λ (z : ℤ). a +ℤ z) (sym h) ∙ simp linear

      y_forced : MeetsStandard p d x y (standard_slacks p t) → y ≡ u
      y_forced h = ext_get_or (pos 0) y u (f ∙ sym u_long) (λ k l.
          let inside : k < blocks = omega (arith, f) in
          same_value (at y k) (at u k)
          (sym (lower k inside) ∙ h (p.m + k) (omega arith) ∙ ap (λ (v : Float). pos d *ℤ count v) (later_b k inside) ∙ *ℤ-zero (pos d)))

      -- the first m rows are the original equations
      to_original : MeetsStandard p d x y (standard_slacks p t) → MeetsOriginal p d x (slack_sums p t)
      to_original h r l =
          ap₂ ◌+ℤ◌ (original-sum x r) (sums r ∙ ap (λ (w : List ℤ). row_total os w r) (sym (y_forced h)))
          ∙ sym (upper r l) ∙ h r (omega arith) ∙ ap (λ (v : Float). pos d *ℤ count v) (first_b r l)

    from-original : MeetsOriginal p d x (slack_sums p t) → MeetsStandard p d x u (standard_slacks p t)
    from-original h r l = elim (lt_or_le r p.m) [
      | inl a ↦
          upper u u_long r a ∙ ap₂ ◌+ℤ◌ (sym (original-sum x r)) (sym (sums r)) ∙ h r a
          ∙ ap (λ (v : Float). pos d *ℤ count v) (sym (first_b r a))
      | inr a ↦
          let k : ℕ = r - p.m in
          let there : r ≡ p.m + k = omega arith in
          let inside : k < blocks = omega arith in
          ap (left u) there ∙ lower u u_long k inside ∙ +ℤ_invl (at u k) ∙ sym (*ℤ-zero (pos d))
          ∙ ap (λ (v : Float). pos d *ℤ count v) (sym (later_b k inside) ∙ ap (λ (n : ℕ). get_or (standard_b p) n nan) (sym there))
    ]

    one_choice : MeetsOriginal p d x (slack_sums p t) → ExactlyOne blocks (λ y. MeetsStandard p d x y (standard_slacks p t))
    one_choice h = (u, u_long, from-original h, λ z k n. y_forced z k n)

-- for a problem without repeated entries that the standard route accepts, the standard equations have the original equations' solutions
pub standard_solutions : (p : Problem) → refusal standard p ≡ 0 → T (without_repeats p) → StandardSolutions p
standard_solutions p ok once = record {
  forced = λ d _ x t e g y f h. y_forced p ok once d x t e g y f h;
  solved = λ d _ x t e g h. one_choice p ok once d x t e g h;
  unsolved = λ d _ x t e g n y f h. n (to_original p ok once d x t e g y f h);
}

-- the original equations hold where their failure is impossible
original_stable : (p : Problem) (d : ℕ) (x s : List ℤ) → ((MeetsOriginal p d x s → ⊥) → ⊥) → MeetsOriginal p d x s
original_stable p d x s n r l = go (ℤ_discrete (columns_term count r (summed_a p) 0 x +ℤ at s r) (pos d *ℤ count (get_or p.b r nan)))
  where
    go : Dec (columns_term count r (summed_a p) 0 x +ℤ at s r ≡ pos d *ℤ count (get_or p.b r nan))
        → columns_term count r (summed_a p) 0 x +ℤ at s r ≡ pos d *ℤ count (get_or p.b r nan)
    go (yes e) = e
    go (no k) = absurd (n (λ h. k (h r l)))

-- without repeats, A with its repeats added is A as stored
pub stored_finite : (p : Problem) (route : Route) → refusal route p ≡ 0 → T (without_repeats p) → StoredFinite p ↔ AllFinite p
stored_finite p route ok once =
    let e = A-alone p route ok once in
    let F : Csc → Type 0 = λ M. T (all finite M.values && all finite p.b) in
    (subst F (sym e), subst F e)

pub both_routes : BothRoutes
both_routes p standard-ok compact-ok once stored d z x t e g =
    let h = demand3 p compact-ok ((stored_finite p compact compact-ok once).0 stored) in (
      λ (y, f, m, _). h.solved d z x t e g (to_original p standard-ok once d x t e g y f m),
      λ (y, f, m, _). one_choice p standard-ok once d x t e g (original_stable p d x (slack_sums p t) (λ n. h.unsolved d z x t e g n y f m)),
    )

-- the same for blocks given in standard order
pub both_routes_given : (p : Problem) → refusal standard p ≡ 0 → refusal compact p ≡ 0 → T (without_repeats p) → StoredFinite p
    → (d : ℕ) → 0 < d → (x u : List ℤ) → length x ≡ p.n → length u ≡ block_row_count (layout p)
    → ExactlyOne (block_row_count (layout p)) (λ y. MeetsStandard p d x y (replicate p.m (pos 0) ++ u))
    ↔ ExactlyOne (overlap_count (layout p)) (λ y. MeetsAugmented p d x y (compact_order (layout p) u))
both_routes_given p standard-ok compact-ok once stored d z x u e g =
    subst (λ (v : List ℤ). ExactlyOne (block_row_count (layout p)) (λ y. MeetsStandard p d x y (replicate p.m (pos 0) ++ v))
    ↔ ExactlyOne (overlap_count (layout p)) (λ y. MeetsAugmented p d x y (compact_order (layout p) u)))
    (standard_compact (layout p) u g)
    (both_routes p standard-ok compact-ok once stored d z x (compact_order (layout p) u) e (length_compact (layout p) u g))
