-- The order of the checks with several right sides, check 11 with another b, and a list of a single right side.
use Prim.Native.Nat.{ℕ, zero, suc, ◌+◌, ◌-◌, ◌*◌, ◌≤◌}
use native.Mathlib.Nat.{le_of_suc-le-suc, zero-mul}
use native.Mathlib.Omega.{arith}
use mathlib.Core.Path.{◌≡◌, refl, ap, ◌∙◌}
use mathlib.Core.Bool.{Bool, true, false, cond, ◌&&◌}
use mathlib.Core.List.{List, [], ◌∷◌, ◌++◌}
use lib.ListN.{length, take, drop}
use lib.Seq.{take_all}
use lib.Dec.{T, leb, eqb}
use lib.Ieee.{Float}
use borrow.Author.Tests.{eq-eqb, ne_eqb}
use Rattle.layout.specs.General.Lists.{part}
use Rattle.layout.specs.Calls.Answers.{or_else, roomy}
use Rattle.layout.specs.Calls.CutBetween.{at_most}
use Rattle.layout.proofs.Lists.Tests.{eqb_iff}
use Rattle.check_problem.proofs.Order.{both_zero}
use Rattle.side_numbers.specs.Order.{with_another, limits_order, sides_order}

pub told : (t : Bool) (k : ℕ) → cond t 0 (suc k) ≡ 0 → T t
told true k e = tt
told false k e = absurd (omega arith)

-- ---- checks 1 to 7 and 16 with limits

module _ (r m : ℕ) (low high : List Float) where
  pub limits-length : cond (leb r 4) r 0 ≡ 0 → ¬ (length high ≡ m) → limits_order r m low high ≡ 4
  limits-length e n = rw (e, ne_eqb (length high) m n)

  pub limits_late : cond (leb r 4) r 0 ≡ 0 → length high ≡ m → limits_order r m low high ≡ or_else (cond (at_most low high) 0 16) r
  limits_late e h = rw (e, eq-eqb (length high) m h)

  -- what holds where none of them fails
  pub limits_passed : limits_order r m low high ≡ 0 → (r ≡ 0) × (length high ≡ m)
  limits_passed e =
      let (a, b) = both_zero (cond (leb r 4) r 0) (or_else (cond (eqb (length high) m) 0 4) (or_else (cond (at_most low high) 0 16) r)) e in
      let (c, d) = both_zero (cond (eqb (length high) m) 0 4) (or_else (cond (at_most low high) 0 16) r) b in
      ((both_zero (cond (at_most low high) 0 16) r d).1, (eqb_iff (length high) m).0 (told (eqb (length high) m) 3 c))

-- ---- checks 1 to 7 of several right sides

module _ (r m count size : ℕ) where
  pub sides_length : cond (leb r 3) r 0 ≡ 0 → ¬ (size ≡ count * m) → sides_order r m count size ≡ 4
  sides_length e n = rw (e, ne_eqb size (count * m) n)

  pub sides_late : cond (leb r 3) r 0 ≡ 0 → size ≡ count * m → sides_order r m count size ≡ r
  sides_late e h = rw (e, eq-eqb size (count * m) h)

  -- what holds where none of them fails
  pub sides_passed : sides_order r m count size ≡ 0 → (r ≡ 0) × (size ≡ count * m)
  sides_passed e =
      let (a, b) = both_zero (cond (leb r 3) r 0) (or_else (cond (eqb size (count * m)) 0 4) r) e in
      let (c, d) = both_zero (cond (eqb size (count * m)) 0 4) r b in
      (d, (eqb_iff size (count * m)).0 (told (eqb size (count * m)) 3 c))

-- ---- check 11 with another b

swap : (a b c : Bool) → (a && (b && c)) ≡ (b && (a && c))
swap true b c = refl
swap false true c = refl
swap false false c = refl

another : (i k room : ℕ) (ks rooms : List ℕ) → i ≤ length ks → i ≤ length rooms
    → roomy (take i ks ++ (k ∷ drop i ks)) (take i rooms ++ (room ∷ drop i rooms)) ≡ (leb k room && roomy ks rooms)
another zero k room [] [] h l = refl
another zero k room [] (r ∷ rs) h l = refl
another zero k room (x ∷ ks) [] h l = refl
another zero k room (x ∷ ks) (r ∷ rs) h l = refl
another (suc i) k room [] rs h l = absurd (omega arith)
another (suc i) k room (x ∷ ks) [] h l = absurd (omega arith)
another (suc i) k room (x ∷ ks) (r ∷ rs) h l =
    ap (λ (t : Bool). leb x r && t) (another i k room ks rs (le_of_suc-le-suc h) (le_of_suc-le-suc l)) ∙ swap (leb x r) (leb k room) (roomy ks rs)

pub another_room : (k room : ℕ) (ks rooms : List ℕ) → 8 ≤ length ks → 8 ≤ length rooms
    → roomy (with_another k ks) (with_another room rooms) ≡ (leb k room && roomy ks rooms)
another_room k room ks rooms h l = another 8 k room ks rooms h l

-- ---- a list of a single right side

pub only-side : (m : ℕ) (b : List Float) → length b ≡ m → part (0 * m) (0 * m + m) b ≡ b
only-side m b e =
    let h : 0 * m + m - 0 * m ≡ m = omega arith in
    ap (λ (k : ℕ). take k (drop (0 * m) b)) h ∙ ap (λ (k : ℕ). take m (drop k b)) (zero-mul m) ∙ take_all m b (omega (arith, e))
