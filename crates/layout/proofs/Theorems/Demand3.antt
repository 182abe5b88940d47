-- Demand 3: the augmented equations of the compact route have exactly the original equations' solutions.
use Prim.Native.Nat.{ℕ, ◌<◌}
use native.Mathlib.Omega.{arith}
use mathlib.Core.Path.{◌≡◌, refl, sym, ap, ap₂, subst, ◌∙◌, fun_ext}
use mathlib.Core.Logic.{◌⊎◌, inl, inr, ⊎_elim}
use mathlib.Core.Bool.{◌||◌}
use mathlib.Core.List.{List, map}
use lib.ListN.{length, get_or, length-map}
use lib.Seq.{ext_get_or}
use lib.Dec.{T}
use lib.IntN.{ℤ, pos, ◌+ℤ◌, ◌-ℤ◌, ◌*ℤ◌, *ℤ-zero, +ℤ_idl, +ℤ_idr}
use lib.Ieee.{Float, nan, eq}
use Rattle.layout.specs.General.Lists.{has, below}
use Rattle.layout.specs.General.Floats.{zero64, count, unit}
use Rattle.layout.specs.Problems.Problem.{Problem, compact}
use Rattle.layout.specs.Rows.Blocks.{Row, kept, owned, overlap, original_row, compact_rows, block_row_count, overlap_count}
use Rattle.layout.specs.Checks.{layout, refusal, covered_rows}
use Rattle.layout.specs.Cuts.Compact.{Entry, column, summed_a, augmented_column, compact_a, row_value, compact_b}
use Rattle.layout.specs.Equations.Equations.{at, columns_term, MeetsOriginal, MeetsAugmented, slack_sums, ExactlyOne, Demand3}
use Rattle.layout.proofs.Lists.Tests.{or_iff, tested}
use Rattle.layout.proofs.Lists.Members.{get_or_map, has-map, has-below, all-has}
use Rattle.layout.proofs.Numbers.Integers.{take_over, take_back}
use Rattle.layout.proofs.Rows.Moves.{row_at, RightRows}
use Rattle.layout.proofs.Rows.Laid.{accepted-count}
use Rattle.layout.proofs.Columns.Columns.{column-all}
use Rattle.layout.proofs.Columns.Repeats.{summed-column, right-summed}
use Rattle.layout.proofs.Equations.Added.{added, added_same, added-zero}
use Rattle.layout.proofs.Equations.Links.{links}
use Rattle.layout.proofs.Equations.Solve.{pull, solve, solve_length}
use Rattle.layout.proofs.Equations.Elimination.{need, Meets, Covered, original_met, choice_meets, choice_alone, spread_adds}
use Rattle.layout.proofs.Equations.RowSums.{columns_terms, moved_terms, terms_bare, link_terms}
use Rattle.layout.proofs.Columns.Cut.{right-rows, link_count, covered_summed, covered_values, first_columns, added_columns}
use Rattle.layout.proofs.Floats.Counts.{count-zero, count-written}
use Rattle.layout.proofs.Equations.Slacks.{sums-length, sums_at}

-- b's value in an augmented row, read exactly, is what the row needs of b
value-count : (b : List Float) (x : Row) → count (row_value b x) ≡ need (λ o. count (get_or b o nan)) x
value-count b (kept o) = count-written (get_or b o nan)
value-count b (owned o) = count-written (get_or b o nan)
value-count b (overlap o q) = refl

module _ (p : Problem) (ok : refusal compact p ≡ 0) where
  abbrev R : List Row
  R = compact_rows (layout p)

  abbrev os : List ℕ
  os = covered_rows (layout p)

  right : RightRows 0 0 p.m R
  right = right-rows p ok

  row_count : length R ≡ block_row_count (layout p)
  row_count = accepted-count compact p ok

  -- ---- row sums

  -- A, with its repeats added, times x, in original row o
  abbrev sum : List ℤ → ℕ → ℤ
  sum x o = columns_term count o (summed_a p) 0 x

  moved-column : (c : ℕ) → c < p.n → column (compact_a p) c ≡ augmented_column (column (summed_a p) c) 0 R
  moved-column c l = first_columns p ok c l ∙ ap (λ (es : List Entry). augmented_column es 0 R) (sym (summed-column p c l))

  abbrev values : ℕ → ℤ
  values o = count (get_or p.b o nan)

  first-sum : (x : List ℤ) (r : ℕ) → length x ≡ p.n → r < length R
      → columns_term count r (compact_a p) 0 x ≡ need (sum x) (row_at R r)
  first-sum x r e l =
      columns_terms count r (compact_a p) (λ c. augmented_column (column (summed_a p) c) 0 R) 0 x (λ i _ k. moved-column i (omega arith))
      ∙ moved_terms count R (column (summed_a p)) 0 x r l
      ∙ ap (λ (f : ℕ → ℤ). need f (row_at R r))
      (fun_ext (λ o. sym (columns_terms count o (summed_a p) (column (summed_a p)) 0 x (λ i _ k. refl))))

  added-sum : (y : List ℤ) (r : ℕ) → length y ≡ overlap_count (layout p)
      → columns_term unit r (compact_a p) p.n y ≡ pull (links 0 R) y r
  added-sum y r e =
      columns_terms unit r (compact_a p) (column (compact_a p)) p.n y (λ i _ k. refl)
      ∙ link_terms (links 0 R) (column (compact_a p)) p.n y r (e ∙ sym (link_count p ok)) (added_columns p ok)

  written-value : (r : ℕ) → r < length R → count (get_or (compact_b p) r nan) ≡ need values (row_at R r)
  written-value r l = ap count (get_or_map (row_value p.b) R r (kept 0) nan l) ∙ value-count p.b (row_at R r)

  -- ---- rows that no block covers

  covered : (o : ℕ) → T (has o os) → Covered R o
  covered o h = let (r, l, e) = (has-map (kept 0) original_row o R).0 h in (r, l, sym e)

  uncovered : (o : ℕ) → (T (has o os) → ⊥) → Covered R o → ⊥
  uncovered o n (r, l, e) = n ((has-map (kept 0) original_row o R).1 (r, l, sym e))

  bare_sum : (x : List ℤ) (o : ℕ) → length x ≡ p.n → (T (has o os) → ⊥) → sum x o ≡ pos 0
  bare_sum x o e n =
      columns_terms count o (summed_a p) (column (summed_a p)) 0 x (λ i _ k. refl)
      ∙ terms_bare count os o (column (summed_a p)) 0 x
      (λ i _ k. column-all p.n (summed_a p) (right-summed p) i (omega arith) (λ r. has r os) (covered_summed p ok)) n

  bare_value : (o : ℕ) → o < p.m → (T (has o os) → ⊥) → values o ≡ pos 0
  bare_value o l n =
      let zero' = eq (get_or p.b o nan) zero64 in
      let h = (all-has (λ r. eq (get_or p.b r nan) zero64 || has r os) (below p.m)).0 (covered_values p ok) o ((has-below o p.m).1 l) in
      ⊎_elim (count-zero (get_or p.b o nan)) (λ k. absurd (n k)) ((or_iff zero' (has o os)).0 h)

  bare_added : (s : ℕ → ℤ) (o : ℕ) → (T (has o os) → ⊥) → added R s o ≡ pos 0
  bare_added s o n = added-zero R s o (λ r l e. absurd (uncovered o n (r, l, e)))

  -- ---- the equations, for a denominator d and unknowns x

  module _ (d : ℕ) (x : List ℤ) (e : length x ≡ p.n) where
    -- the slack that original row o needs: b less A times x
    abbrev rest : ℕ → ℤ
    rest o = pos d *ℤ values o -ℤ sum x o

    need_rest : (r : Row) → need rest r ≡ pos d *ℤ need values r -ℤ need (sum x) r
    need_rest (kept o) = refl
    need_rest (owned o) = refl
    need_rest (overlap o q) = sym (ap (λ (z : ℤ). z -ℤ pos 0) (*ℤ-zero (pos d)))

    bare_rest : (o : ℕ) → o < p.m → (T (has o os) → ⊥) → rest o ≡ pos 0
    bare_rest o l n = ap₂ ◌-ℤ◌ (ap (λ (z : ℤ). pos d *ℤ z) (bare_value o l n) ∙ *ℤ-zero (pos d)) (bare_sum x o e n)

    -- the original equations hold exactly where each slack is `rest`
    slack_is : (s : List ℤ) → MeetsOriginal p d x s → (o : ℕ) → o < p.m → at s o ≡ rest o
    slack_is s h o l =
        sym (+ℤ_idl (at s o))
        ∙ take_over (sum x o) (pos 0) (at s o) (pos d *ℤ values o) (ap (λ (z : ℤ). z +ℤ at s o) (+ℤ_idr (sum x o)) ∙ h o l)

    is_slack : (s : List ℤ) → ((o : ℕ) → o < p.m → at s o ≡ rest o) → MeetsOriginal p d x s
    is_slack s h o l =
        ap (λ (z : ℤ). z +ℤ at s o) (sym (+ℤ_idr (sum x o)))
        ∙ take_back (sum x o) (pos 0) (at s o) (pos d *ℤ values o) (+ℤ_idl (at s o) ∙ h o l)

    -- the augmented equations, with A times x moved to the right side
    module _ (y s : List ℤ) (f : length y ≡ overlap_count (layout p)) where
      left-sum : (r : ℕ) → r < length R
          → (columns_term count r (compact_a p) 0 x +ℤ columns_term unit r (compact_a p) p.n y) +ℤ at s r
          ≡ (need (sum x) (row_at R r) +ℤ pull (links 0 R) y r) +ℤ at s r
      left-sum r l = ap (λ (z : ℤ). z +ℤ at s r) (ap₂ ◌+ℤ◌ (first-sum x r e l) (added-sum y r f))

      over : MeetsAugmented p d x y s → Meets rest R (at s) y
      over h r l =
          take_over (need (sum x) (row_at R r)) (pull (links 0 R) y r) (at s r) (pos d *ℤ need values (row_at R r))
          (sym (left-sum r l) ∙ h r (omega (arith, row_count)) ∙ ap (λ (z : ℤ). pos d *ℤ z) (written-value r l))
          ∙ sym (need_rest (row_at R r))

      back : Meets rest R (at s) y → MeetsAugmented p d x y s
      back h r k =
          let l : r < length R = omega (arith, row_count) in
          left-sum r l
          ∙ take_back (need (sum x) (row_at R r)) (pull (links 0 R) y r) (at s r) (pos d *ℤ need values (row_at R r))
          (h r l ∙ need_rest (row_at R r))
          ∙ ap (λ (z : ℤ). pos d *ℤ z) (sym (written-value r l))

    module _ (s : List ℤ) (g : length s ≡ block_row_count (layout p)) where
      sums : (o : ℕ) → at (slack_sums p s) o ≡ added R (at s) o
      sums o = sums_at p right s o (g ∙ sym row_count)

      -- if x and the sums meet the original equations, exactly one choice of the added unknowns meets the augmented ones
      one_choice : MeetsOriginal p d x (slack_sums p s) → ExactlyOne (overlap_count (layout p)) (λ y. MeetsAugmented p d x y s)
      one_choice h = (
        y,
        long,
        back y s long (choice_meets p.m R right (at s) rest met),
        λ z k n. choice_alone p.m R right (at s) rest z (k ∙ sym (link_count p ok)) (over z s k n),
      )
        where
          y : List ℤ
          y = solve (at s) (links 0 R)

          long : length y ≡ overlap_count (layout p)
          long = solve_length (at s) (links 0 R) ∙ link_count p ok

          met : (o : ℕ) → Covered R o → added R (at s) o ≡ rest o
          met o (r, l, f) = sym (sums o) ∙ slack_is (slack_sums p s) h o (subst (λ (k : ℕ). k < p.m) f (right.inside r l).1)

      -- if some choice meets the augmented equations, x and the sums meet the original ones
      some_choice : (y : List ℤ) → length y ≡ overlap_count (layout p) → MeetsAugmented p d x y s
          → MeetsOriginal p d x (slack_sums p s)
      some_choice y f h = is_slack (slack_sums p s) (λ o l. sums o ∙ go o l (tested (has o os)))
        where
          go : (o : ℕ) → o < p.m → T (has o os) ⊎ (T (has o os) → ⊥) → added R (at s) o ≡ rest o
          go o l (inl c) = original_met p.m R right (at s) rest y (over y s f h) o (covered o c)
          go o l (inr n) = bare_added (at s) o n ∙ sym (bare_rest o l n)

    -- for any slacks that meet the original equations, some slacks of the augmented rows add up to them
    some-slacks : (s : List ℤ) → length s ≡ p.m → MeetsOriginal p d x s
        → (t : List ℤ) × (length t ≡ block_row_count (layout p)) × (slack_sums p t ≡ s)
    some-slacks s g h = (t, long ∙ row_count, ext_get_or (pos 0) (slack_sums p t) s (sums-length p right t ∙ sym g) same)
      where
        t : List ℤ
        t = map (need (at s)) R

        long : length t ≡ length R
        long = length-map R (need (at s))

        value : (r : ℕ) → r < length R → at t r ≡ need (at s) (row_at R r)
        value r l = get_or_map (need (at s)) R r (kept 0) (pos 0) l

        go : (o : ℕ) → o < p.m → T (has o os) ⊎ (T (has o os) → ⊥) → added R (λ r. need (at s) (row_at R r)) o ≡ at s o
        go o l (inl c) = spread_adds p.m R right (at s) o (covered o c)
        go o l (inr n) = bare_added (λ r. need (at s) (row_at R r)) o n ∙ sym (bare_rest o l n) ∙ sym (slack_is s h o l)

        same : (o : ℕ) → o < length (slack_sums p t) → at (slack_sums p t) o ≡ at s o
        same o l =
            sums_at p right t o long ∙ added_same R (at t) (λ r. need (at s) (row_at R r)) o value
            ∙ go o (omega (arith, sums-length p right t)) (tested (has o os))

pub demand3 : Demand3
demand3 p ok finite = record {
  solved = λ d _ x s e g h. one_choice p ok d x e s g h;
  unsolved = λ d _ x s e g n y f h. n (some_choice p ok d x e s g y f h);
  reached = λ d _ x s e g h. some-slacks p ok d x e s g h;
}
