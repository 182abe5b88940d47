-- The compact equations on the rows alone: the slacks' sums by original row meet the original equations exactly where some added
-- unknowns meet the augmented equations, and then exactly one choice does.
use mathlib.Core.Path.{◌≡◌, refl, sym, subst, ◌∙◌, ap}
use mathlib.Core.Logic.{◌≢◌}
use mathlib.Core.List.{List, [], ◌∷◌}
use Prim.Native.Nat.{ℕ, ◌<◌}
use native.Mathlib.Nat.{zero-add}
use native.Mathlib.Omega.{arith}
use lib.Dec.{T}
use lib.ListN.{length}
use lib.IntN.{ℤ, pos, neg_ℤ, ◌+ℤ◌, +ℤ_idl}
use Rattle.layout.specs.Rows.Blocks.{Row, kept, owned, overlap, original_row}
use Rattle.layout.proofs.Rows.Moves.{row_at, is_moved, RightRows}
use Rattle.layout.proofs.Numbers.OnRow.{on_row, on_row_cancel}
use Rattle.layout.proofs.Equations.Added.{added, added-add, added-at, added_single, added-zero}
use Rattle.layout.proofs.Equations.Links.{Link, links, All, all_links, each_link, Rising, links_rising}
use Rattle.layout.proofs.Equations.Solve.{pull, Balanced, solve, solve_balanced, solve_alone}

-- the right side of an augmented row, where t is b less A times x, by original row
abbrev pub need : (ℕ → ℤ) → Row → ℤ
need t (kept o) = t o
need t (owned o) = t o
need t (overlap o q) = pos 0

need_moved : (t : ℕ → ℤ) (x : Row) → T (is_moved x) → need t x ≡ t (original_row x)
need_moved t (kept o) h = refl
need_moved t (owned o) h = refl
need_moved t (overlap o q) h = absurd h

-- the augmented equations: in each row the added unknowns plus the slack equal the right side
abbrev pub Meets : (ℕ → ℤ) → List Row → (ℕ → ℤ) → List ℤ → Type 0
Meets t R s y = (r : ℕ) → r < length R → pull (links 0 R) y r +ℤ s r ≡ need t (row_at R r)

-- some augmented row represents original row o
abbrev pub Covered : List Row → ℕ → Type 0
Covered R o = (r : ℕ) × (r < length R) × (original_row (row_at R r) ≡ o)

-- the original equations, for the original rows that some augmented row represents
abbrev OriginalMet : (ℕ → ℤ) → List Row → (ℕ → ℤ) → Type 0
OriginalMet t R s = (o : ℕ) → Covered R o → added R s o ≡ t o

-- the augmented row that original row o is moved to
record Owner (R : List Row) (o : ℕ) : Type 0 where
  row : ℕ
  inside : row < length R
  moved : T (is_moved (row_at R row))
  stands : original_row (row_at R row) ≡ o

-- a link connects two rows that represent the same original row
abbrev Joins : List Row → Link → Type 0
Joins R l = (l.own < length R) × (l.parent < length R) × (original_row (row_at R l.parent) ≡ original_row (row_at R l.own))

-- so the added unknowns cancel in the sums by original row
cancels : (R : List Row) (L : List Link) (y : List ℤ) (o : ℕ) → All (Joins R) L → added R (pull L y) o ≡ pos 0
cancels R [] y o a = added-zero R (λ r. pos 0) o (λ r i e. refl)
cancels R (l ∷ L) [] o a = added-zero R (λ r. pos 0) o (λ r i e. refl)
cancels R (l ∷ L) (v ∷ y) o a =
    let j = a.0 in
    rw (
      added-add R (λ r. on_row l.own r v +ℤ on_row l.parent r (neg_ℤ v)) (pull L y) o,
      added-add R (λ r. on_row l.own r v) (λ r. on_row l.parent r (neg_ℤ v)) o,
      added-at R l.own o v j.0,
      added-at R l.parent o (neg_ℤ v) j.1,
      j.2,
      on_row_cancel (original_row (row_at R l.own)) o v,
      cancels R L y o a.1,
    )

module _ (m : ℕ) (R : List Row) (w : RightRows 0 0 m R) where
  owner : (o : ℕ) → Covered R o → Owner R o
  owner o c =
      let (s, le, h, e) = w.before c.0 c.1 in
      record { row = s; inside = omega (arith, c.1); moved = h; stands = e ∙ c.2 }

  -- a row that represents o and is not its owner is an overlap
  beside : (o : ℕ) (q : Owner R o) (r : ℕ) → r < length R → r ≢ q.row → original_row (row_at R r) ≡ o
      → (a b : ℕ) × (row_at R r ≡ overlap a b)
  beside o q r i ne e = go (row_at R r) refl
    where
      twice : T (is_moved (row_at R r)) → ⊥
      twice h = ne (w.once r q.row i q.inside h q.moved (e ∙ sym q.stands))

      go : (x : Row) → row_at R r ≡ x → (a b : ℕ) × (row_at R r ≡ overlap a b)
      go (kept a) f = absurd (twice (subst (λ (x : Row). T (is_moved x)) (sym f) tt))
      go (owned a) f = absurd (twice (subst (λ (x : Row). T (is_moved x)) (sym f) tt))
      go (overlap a b) f = (a, b, f)

  -- an overlap is tied to an earlier row, which represents the same original row
  pub tied_before : (r o q : ℕ) → r < length R → row_at R r ≡ overlap o q → (q < r) × (original_row (row_at R q) ≡ o)
  tied_before r o q i e =
      let (s, lt, f, g) = w.tied r o q i e in
      let h : q ≡ s = omega arith in
      (omega arith, ap (λ (k : ℕ). original_row (row_at R k)) h ∙ g)

  joins : All (Joins R) (links 0 R)
  joins = all_links (Joins R) 0 R (λ k o q i e.
      let (b, f) = tied_before k o q i e in
      rw zero-add (i, omega arith, f ∙ sym (ap original_row e)))

  rising : Rising 0 (links 0 R)
  rising = links_rising 0 R (λ k o q i e. omega (arith, (tied_before k o q i e).0))

  module _ (s : ℕ → ℤ) where
    -- where the overlap rows' equations hold, the left side of a moved row is the whole sum of its original row
    module _ (y : List ℤ) (b : Balanced s (links 0 R) y) where
      overlap_holds : (r o q : ℕ) → r < length R → row_at R r ≡ overlap o q → pull (links 0 R) y r +ℤ s r ≡ pos 0
      overlap_holds r o q i e =
          rw zero-add at (each_link (λ l. pull (links 0 R) y l.own +ℤ s l.own ≡ pos 0) 0 R b r o q i e)

      owner_holds : (o : ℕ) (q : Owner R o) → pull (links 0 R) y q.row +ℤ s q.row ≡ added R s o
      owner_holds o q =
          sym (added_single R (λ r. pull (links 0 R) y r +ℤ s r) o q.row q.inside q.stands
          (λ r i ne e. let h = beside o q r i ne e in overlap_holds r h.0 h.1 i h.2))
          ∙ added-add R (pull (links 0 R) y) s o ∙ rw (cancels R (links 0 R) y o joins) (+ℤ_idl (added R s o))

    module _ (t : ℕ → ℤ) where
      balanced : (y : List ℤ) → Meets t R s y → Balanced s (links 0 R) y
      balanced y h =
          all_links (λ l. pull (links 0 R) y l.own +ℤ s l.own ≡ pos 0) 0 R
          (λ k o q i e. rw zero-add (h k i ∙ ap (need t) e))

      -- if some choice meets the augmented equations, the sums meet the original ones
      pub original_met : (y : List ℤ) → Meets t R s y → OriginalMet t R s
      original_met y h o c =
          let q = owner o c in
          sym (owner_holds y (balanced y h) o q) ∙ h q.row q.inside
          ∙ need_moved t (row_at R q.row) q.moved ∙ ap t q.stands

      -- if the sums meet the original equations, this choice meets the augmented ones
      pub choice_meets : OriginalMet t R s → Meets t R s (solve s (links 0 R))
      choice_meets h r i = go (row_at R r) refl
        where
          y : List ℤ
          y = solve s (links 0 R)

          b : Balanced s (links 0 R) y
          b = solve_balanced s 0 (links 0 R) rising

          owns : (o : ℕ) → T (is_moved (row_at R r)) → original_row (row_at R r) ≡ o → pull (links 0 R) y r +ℤ s r ≡ t o
          owns o k e = owner_holds y b o (record { row = r; inside = i; moved = k; stands = e }) ∙ h o (r, i, e)

          go : (x : Row) → row_at R r ≡ x → pull (links 0 R) y r +ℤ s r ≡ need t (row_at R r)
          go (kept o) e = owns o (subst (λ (x : Row). T (is_moved x)) (sym e) tt) (ap original_row e) ∙ sym (ap (need t) e)
          go (owned o) e = owns o (subst (λ (x : Row). T (is_moved x)) (sym e) tt) (ap original_row e) ∙ sym (ap (need t) e)
          go (overlap o q) e = overlap_holds y b r o q i e ∙ sym (ap (need t) e)

      -- and no other choice does
      pub choice_alone : (y : List ℤ) → length y ≡ length (links 0 R) → Meets t R s y → y ≡ solve s (links 0 R)
      choice_alone y e h = solve_alone s 0 (links 0 R) y rising e (balanced y h)

  -- slacks that add up to given sums in the covered rows: the whole sum in the moved row, 0 in the overlaps
  pub spread_adds : (g : ℕ → ℤ) (o : ℕ) → Covered R o → added R (λ r. need g (row_at R r)) o ≡ g o
  spread_adds g o c =
      let q = owner o c in
      added_single R (λ r. need g (row_at R r)) o q.row q.inside q.stands
      (λ r i ne e. ap (need g) (beside o q r i ne e).2)
      ∙ need_moved g (row_at R q.row) q.moved ∙ ap g q.stands
