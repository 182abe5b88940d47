-- A table indexed by original row: marking rows step by step, and which rows are marked then.
use Prim.Native.Nat.{ℕ, suc, ◌+◌, ◌-◌, ◌≤◌, ◌<◌}
use native.Mathlib.Omega.{arith}
use mathlib.Core.Path.{◌≡◌, refl, sym, ap, ◌∙◌}
use mathlib.Core.Logic.{inl, inr}
use mathlib.Core.Bool.{Bool, true, false, ◌||◌, or-true, or-false, or_assoc}
use mathlib.Core.List.{List, [], ◌∷◌}
use borrow.Author.Tests.{eq-eqb}
use lib.ListN.{length, get_or, set, replicate, length-set, length-replicate, get_or-replicate}
use lib.Seq.{get_or-set_same, get_or-set_other}
use lib.Dec.{T, eqb, eqb→eq}
use lib.Ieee.{Float, nan, eq}
use Rattle.layout.specs.General.Lists.{has, all, up_from, below, Below}
use Rattle.layout.specs.General.Floats.{zero64}
use Rattle.layout.specs.Checks.{values_on}
use Rattle.layout.proofs.Lists.Members.{has-cons, has-at, has-below}
use Rattle.layout.proofs.Lists.Tests.{passes, differ}
use Rattle.rows_blocks.specs.Vertices.{marked}
use Rattle.check_covered.specs.Covered.{rows_marked, values_marked}

-- ---- rows left to mark

pub range_start : (first count : ℕ) (marks : List Bool) → marked true (up_from (first + 0) (count - 0)) marks ≡ marked true (up_from first count) marks
range_start first count marks =
    let e : first + 0 ≡ first = omega arith in
    let f : count - 0 ≡ count = omega arith in
    rw (e, f)

pub range_step : (first count i : ℕ) (marks : List Bool) → i < count
    → marked true (up_from (first + i) (count - i)) marks ≡ marked true (up_from (first + (i + 1)) (count - (i + 1))) (set marks (first + i) true)
unfolding marked
range_step first count i marks h =
    let e : count - i ≡ suc (count - (i + 1)) = omega arith in
    let f : first + (i + 1) ≡ suc (first + i) = omega arith in
    rw (e, f)

pub range_done : (first count i : ℕ) (marks : List Bool) → count ≤ i → marked true (up_from (first + i) (count - i)) marks ≡ marks
unfolding marked
range_done first count i marks h = let e : count - i ≡ 0 = omega arith in rw e

-- ---- a row is marked if it was marked before or is among the rows

mark_one : (marks : List Bool) (o r : ℕ) → r < length marks → get_or (set marks o true) r false ≡ (get_or marks r false || eqb r o)
mark_one marks o r h = go (eqb r o) refl
  where
    go : (b : Bool) → eqb r o ≡ b → get_or (set marks o true) r false ≡ (get_or marks r false || eqb r o)
    go true e =
        let same : r ≡ o = eqb→eq r o (passes (eqb r o) e) in
        ap (λ (k : ℕ). get_or (set marks o true) k false) same ∙ get_or-set_same marks o true false (omega arith)
        ∙ sym (ap (λ (b : Bool). get_or marks r false || b) e ∙ or-true (get_or marks r false))
    go false e =
        get_or-set_other marks o r true false (λ same. differ (eqb r o) (eq-eqb r o same) e)
        ∙ sym (ap (λ (b : Bool). get_or marks r false || b) e ∙ or-false (get_or marks r false))

marked-at : (os : List ℕ) (marks : List Bool) (r : ℕ) → r < length marks
    → get_or (marked true os marks) r false ≡ (get_or marks r false || has r os)
unfolding marked
marked-at [] marks r h = sym (or-false (get_or marks r false))
marked-at (o ∷ os) marks r h =
    marked-at os (set marks o true) r (omega (arith, length-set marks o true))
    ∙ rw (mark_one marks o r h) (or_assoc (get_or marks r false) (eqb r o) (has r os))

-- in a table that was all false, the marked rows are exactly the given rows
cleared_at : (n : ℕ) (os : List ℕ) (r : ℕ) → r < n → get_or (marked true os (replicate n false)) r false ≡ has r os
cleared_at n os r h =
    marked-at os (replicate n false) r (omega (arith, length-replicate {A = Bool} n false))
    ∙ ap (λ (b : Bool). b || has r os) (get_or-replicate n r false false h)

pub all_same : (p q : ℕ → Bool) (xs : List ℕ) → ((x : ℕ) → T (has x xs) → p x ≡ q x) → all p xs ≡ all q xs
all_same p q [] h = refl
all_same p q (x ∷ xs) h =
    rw (h x ((has-cons x x xs).1 (inl refl)), all_same p q xs (λ y k. h y ((has-cons y x xs).1 (inr k))))

pub cleared_rows : (n : ℕ) (os rows : List ℕ) → Below n rows → rows_marked (marked true os (replicate n false)) rows ≡ all (λ r. has r os) rows
cleared_rows n os rows h = all_same _ _ rows (λ r k.
    let (i, l, e) = (has-at 0 r rows).0 k in cleared_at n os r (omega (arith, h i l)))

pub cleared_values : (n : ℕ) (os : List ℕ) (b : List Float) → length b ≤ n
    → values_marked (marked true os (replicate n false)) b ≡ values_on os (length b) b
cleared_values n os b h =
    let zero : ℕ → Bool = λ r. eq (get_or b r nan) zero64 in
    all_same (λ r. zero r || get_or (marked true os (replicate n false)) r false) (λ r. zero r || has r os) (below (length b)) (λ r k.
    ap (λ (t : Bool). zero r || t) (cleared_at n os r (omega (arith, (has-below r (length b)).0 k))))
