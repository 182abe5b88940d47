-- Sums of values by row: their order does not matter, and both routes' exact totals are such sums.
use Prim.Native.Nat.{ℕ, zero, suc, ◌+◌, ◌≤◌, ◌<◌}
use native.Mathlib.Nat.{not-suc-le-zero, le_of_suc-le-suc}
use native.Mathlib.Omega.{arith}
use mathlib.Core.Path.{◌≡◌, refl, sym, ap, ap₂, subst, ◌∙◌}
use mathlib.Core.Logic.{◌⊎◌, inl, inr}
use mathlib.Core.List.{List, [], ◌∷◌, ◌++◌, map, reverse}
use lib.ListN.{length, take, drop, replicate, length-set, length-replicate, length-drop, take-append-drop}
use lib.Seq.{length-take-le, take-add, ext_get_or}
use lib.Dec.{T}
use lib.IntN.{ℤ, pos, ◌+ℤ◌, +ℤ_idl, +ℤ_idr, +ℤ_assoc, +ℤ_comm}
use Rattle.layout.specs.General.Lists.{has, up_from, sum, walk}
use Rattle.layout.specs.Rows.Blocks.{Part, Row, kept, original_row, compact_rows, standard_rows, block_row_count}
use Rattle.layout.specs.Checks.{Laid}
use Rattle.layout.specs.Equations.Equations.{at, compact_totals}
use Rattle.layout.specs.Rows.Orders.{block_lengths, last_first, groups_last_first, compact_order, standard_order}
use Rattle.layout.specs.Calls.ChangeRoute.{add_exact_at, standard_totals}
use Rattle.layout.proofs.Lists.Members.{has-cons, has-append, has-map, has-up_from}
use Rattle.layout.proofs.Numbers.OnRow.{on_row, on_row_here, on_row_other}
use Rattle.layout.proofs.Equations.Added.{added}
use Rattle.layout.proofs.Rows.Moves.{RightRows}
use Rattle.layout.proofs.Rows.Laid.{length-rows}
use Rattle.layout.proofs.Rows.Orders.{length_last, all-lengths, length_compact, standard_compact, rows_order}
use Rattle.layout.proofs.Equations.Slacks.{plus-at, at_zeros, totals-length, totals-at}
use Rattle.layout.proofs.Lists.Walks.{length-walk}
use Rattle.layout.proofs.Columns.Sizes.{standard_count}

-- the sum of the values whose row is o
abbrev pub row_total : List ℕ → List ℤ → ℕ → ℤ
row_total [] vs o = pos 0
row_total (q ∷ os) [] o = pos 0
row_total (q ∷ os) (v ∷ vs) o = on_row q o v +ℤ row_total os vs o

total-append : (os qs : List ℕ) (vs ws : List ℤ) (o : ℕ) → length os ≡ length vs
    → row_total (os ++ qs) (vs ++ ws) o ≡ row_total os vs o +ℤ row_total qs ws o
total-append [] qs [] ws o e = sym (+ℤ_idl (row_total qs ws o))
total-append [] qs (v ∷ vs) ws o e = absurd (omega arith)
total-append (q ∷ os) qs [] ws o e = absurd (omega arith)
total-append (q ∷ os) qs (v ∷ vs) ws o e =
    ap (λ (z : ℤ). on_row q o v +ℤ z) (total-append os qs vs ws o (omega arith))
    ∙ sym (+ℤ_assoc (on_row q o v) (row_total os vs o) (row_total qs ws o))

-- the sum at row o is 0 if no value has row o
pub total-none : (os : List ℕ) (vs : List ℤ) (o : ℕ) → (T (has o os) → ⊥) → row_total os vs o ≡ pos 0
total-none [] vs o n = refl
total-none (q ∷ os) [] o n = refl
total-none (q ∷ os) (v ∷ vs) o n =
    ap₂ ◌+ℤ◌ (on_row_other q o v (λ e. n ((has-cons o q os).1 (inl (sym e)))))
    (total-none os vs o (λ h. n ((has-cons o q os).1 (inr h))))

-- if the values have the rows a, a + 1, .., the sum at row a + k is value k
pub total-up : (a n k : ℕ) (vs : List ℤ) → length vs ≡ n → k < n → row_total (up_from a n) vs (a + k) ≡ at vs k
total-up a zero k vs e l = absurd (not-suc-le-zero l)
total-up a (suc n) k [] e l = absurd (omega arith)
total-up a (suc n) zero (v ∷ vs) e l =
    let here : a + 0 ≡ a = omega arith in
    ap (row_total (up_from a (suc n)) (v ∷ vs)) here
    ∙ ap₂ ◌+ℤ◌ (on_row_here a v) (total-none (up_from (suc a) n) vs a (λ h. omega (arith, (has-up_from a (suc a) n).0 h)))
    ∙ +ℤ_idr v
total-up a (suc n) (suc k) (v ∷ vs) e l =
    let there : a + suc k ≡ suc a + k = omega arith in
    ap (row_total (up_from a (suc n)) (v ∷ vs)) there
    ∙ ap₂ ◌+ℤ◌ (on_row_other a (suc a + k) v (omega arith)) (total-up (suc a) n k vs (omega arith) (le_of_suc-le-suc l))
    ∙ +ℤ_idl (at vs k)

-- ---- blocks in reversed order

total_last : (ks : List ℕ) (os : List ℕ) (vs : List ℤ) (o : ℕ) → length os ≡ length vs → sum ks ≤ length os
    → row_total (last_first ks os) (last_first ks vs) o ≡ row_total (take (sum ks) os) (take (sum ks) vs) o
total_last [] os vs o e l = refl
total_last (k ∷ ks) os vs o e l =
    let os' = drop k os in
    let vs' = drop k vs in
    let same : length os' ≡ length vs' = omega (arith, length-drop k os, length-drop k vs) in
    let fits : sum ks ≤ length os' = omega (arith, length-drop k os) in
    let front : length (take k os) ≡ length (take k vs) = length-take-le k os (omega arith) ∙ sym (length-take-le k vs (omega arith)) in
    total-append (last_first ks os') (take k os) (last_first ks vs') (take k vs) o
    (length_last ks os' fits ∙ sym (length_last ks vs' (omega arith)))
    ∙ ap (λ (z : ℤ). z +ℤ row_total (take k os) (take k vs) o) (total_last ks os' vs' o same fits)
    ∙ +ℤ_comm (row_total (take (sum ks) os') (take (sum ks) vs') o) (row_total (take k os) (take k vs) o)
    ∙ sym (total-append (take k os) (take (sum ks) os') (take k vs) (take (sum ks) vs') o front)
    ∙ ap₂ (λ (qs : List ℕ) (ws : List ℤ). row_total qs ws o) (sym (take-add k (sum ks) os)) (sym (take-add k (sum ks) vs))

total_groups : (kss : List (List ℕ)) (os : List ℕ) (vs : List ℤ) (o : ℕ) → length os ≡ length vs → length os ≡ sum (map sum kss)
    → row_total (groups_last_first kss os) (groups_last_first kss vs) o ≡ row_total os vs o
total_groups [] [] vs o e l = refl
total_groups [] (q ∷ os) vs o e l = absurd (omega arith)
total_groups (ks ∷ kss) os vs o e l =
    let os' = drop (sum ks) os in
    let vs' = drop (sum ks) vs in
    let same : length os' ≡ length vs' = omega (arith, length-drop (sum ks) os, length-drop (sum ks) vs) in
    total-append (last_first ks os) (groups_last_first kss os') (last_first ks vs) (groups_last_first kss vs') o
    (length_last ks os (omega arith) ∙ sym (length_last ks vs (omega arith)))
    ∙ ap₂ ◌+ℤ◌ (total_last ks os vs o e (omega arith)) (total_groups kss os' vs' o same (omega (arith, length-drop (sum ks) os)))
    ∙ sym (total-append (take (sum ks) os) os' (take (sum ks) vs) vs' o
    (length-take-le (sum ks) os (omega arith) ∙ sym (length-take-le (sum ks) vs (omega arith))))
    ∙ ap₂ (λ (qs : List ℕ) (ws : List ℤ). row_total qs ws o) (take-append-drop (sum ks) os) (take-append-drop (sum ks) vs)

-- rows and values in compact order have the same sum at each row as in standard order
total_order : (ps : List Part) (os : List ℕ) (vs : List ℤ) (o : ℕ) → length os ≡ block_row_count ps → length vs ≡ block_row_count ps
    → row_total (compact_order ps os) (compact_order ps vs) o ≡ row_total os vs o
total_order ps os vs o e f = total_groups (map block_lengths ps) os vs o (e ∙ sym f) (e ∙ sym (all-lengths ps))

-- ---- the totals that the joinings compute

total-added : (R : List Row) (vs : List ℤ) (o : ℕ) → length vs ≡ length R → added R (at vs) o ≡ row_total (map original_row R) vs o
total-added [] vs o e = refl
total-added (x ∷ R) [] o e = absurd (omega arith)
total-added (x ∷ R) (v ∷ vs) o e = ap (λ (z : ℤ). on_row (original_row x) o v +ℤ z) (total-added R vs o (omega arith))

walk_at : (os : List ℕ) (vs ws : List ℤ) (o : ℕ) → ((q : ℕ) → T (has q os) → q < length ws)
    → at (walk add_exact_at os vs ws) o ≡ at ws o +ℤ row_total os vs o
walk_at [] vs ws o h = sym (+ℤ_idr (at ws o))
walk_at (q ∷ os) [] ws o h = sym (+ℤ_idr (at ws o))
walk_at (q ∷ os) (v ∷ vs) ws o h =
    walk_at os vs (add_exact_at q v ws) o
    (λ r k. subst (λ (n : ℕ). r < n) (sym (length-set ws q (at ws q +ℤ v))) (h r ((has-cons r q os).1 (inr k))))
    ∙ ap (λ (z : ℤ). z +ℤ row_total os vs o) (plus-at ws q o v (h q ((has-cons q q os).1 (inl refl))))
    ∙ +ℤ_assoc (at ws o) (on_row q o v) (row_total os vs o)

walk-length : (os : List ℕ) (vs ws : List ℤ) → length (walk add_exact_at os vs ws) ≡ length ws
walk-length os vs ws = length-walk add_exact_at (λ q v us. length-set us q (at us q +ℤ v)) os vs ws

-- ---- both routes' totals for parts that are `Laid`

-- reordering blocks adds no members
has_part : (k q : ℕ) (vs : List ℕ) → T (has q (take k vs)) ⊎ T (has q (drop k vs)) → T (has q vs)
has_part k q vs h = subst (λ (ws : List ℕ). T (has q ws)) (take-append-drop k vs) ((has-append q (take k vs) (drop k vs)).1 h)

last_has : (ks vs : List ℕ) (q : ℕ) → T (has q (last_first ks vs)) → T (has q vs)
last_has [] vs q h = absurd h
last_has (k ∷ ks) vs q h = elim ((has-append q (last_first ks (drop k vs)) (take k vs)).0 h) [
  | inl g ↦ has_part k q vs (inr (last_has ks (drop k vs) q g))
  | inr g ↦ has_part k q vs (inl g)
]

groups_has : (kss : List (List ℕ)) (vs : List ℕ) (q : ℕ) → T (has q (groups_last_first kss vs)) → T (has q vs)
groups_has [] vs q h = absurd h
groups_has (ks ∷ kss) vs q h = elim ((has-append q (last_first ks vs) (groups_last_first kss (drop (sum ks) vs))).0 h) [
  | inl g ↦ last_has ks vs q g
  | inr g ↦ has_part (sum ks) q vs (inr (groups_has kss (drop (sum ks) vs) q g))
]

module _ (m : ℕ) (ps : List Part) (laid : Laid 0 ps) (right : RightRows 0 0 m (compact_rows ps)) where
  abbrev os : List ℕ
  os = standard_rows ps

  count_standard : length os ≡ block_row_count ps
  count_standard = standard_count 0 ps laid

  count_compact : length (compact_rows ps) ≡ block_row_count ps
  count_compact = length-rows 0 0 ps laid

  -- the row indices of H are below m
  pub h_inside : (q : ℕ) → T (has q (standard_rows ps)) → q < m
  h_inside q h =
      let back : standard_order ps (map original_row (compact_rows ps)) ≡ os =
      ap (standard_order ps) (rows_order 0 0 ps laid) ∙ standard_compact ps os count_standard in
      let moved = groups_has (map (λ x. reverse (block_lengths x)) ps) (map original_row (compact_rows ps)) q
      (subst (λ (qs : List ℕ). T (has q qs)) (sym back) h) in
      let (r, l, e) = (has-map (kept 0) original_row q (compact_rows ps)).0 moved in
      omega (arith, e, right.inside r l)

  -- the total at an original row on either route is the sum by row of the values for the columns of H
  standard_total : (vs : List ℤ) (o : ℕ) → at (standard_totals m ps vs) o ≡ row_total (standard_rows ps) vs o
  standard_total vs o =
      walk_at os vs (replicate m (pos 0)) o (λ q h. omega (arith, h_inside q h, length-replicate m (pos 0)))
      ∙ ap (λ (z : ℤ). z +ℤ row_total os vs o) (at_zeros m o) ∙ +ℤ_idl (row_total os vs o)

  pub compact_total : (vs : List ℤ) (o : ℕ) → length vs ≡ block_row_count ps
      → at (compact_totals m ps (compact_order ps vs)) o ≡ row_total (standard_rows ps) vs o
  compact_total vs o e =
      let long : length (compact_order ps vs) ≡ length (compact_rows ps) = length_compact ps vs e ∙ sym count_compact in
      totals-at m (compact_rows ps) right (compact_order ps vs) o long
      ∙ total-added (compact_rows ps) (compact_order ps vs) o long
      ∙ ap (λ (qs : List ℕ). row_total qs (compact_order ps vs) o) (rows_order 0 0 ps laid)
      ∙ total_order ps os vs o count_standard e

  -- both routes have the same totals
  pub same_totals : (vs : List ℤ) → length vs ≡ block_row_count ps → compact_totals m ps (compact_order ps vs) ≡ standard_totals m ps vs
  same_totals vs e =
      ext_get_or (pos 0) (compact_totals m ps (compact_order ps vs)) (standard_totals m ps vs)
      (totals-length m (compact_rows ps) right (compact_order ps vs)
      ∙ sym (walk-length os vs (replicate m (pos 0)) ∙ length-replicate m (pos 0)))
      (λ o l. compact_total vs o e ∙ sym (standard_total vs o))
