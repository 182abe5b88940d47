-- The refusal number of the cut with many right sides: checks 1 to 7 with the first side, the length of the list, 9 and 10 on the first side,
-- 9 on the further sides, and 11.
use Prim.Native.Nat.{ℕ, zero, suc, ◌+◌, ◌-◌, ◌*◌, ◌≤◌, ◌<◌}
use native.Mathlib.Nat.{mul-le-mul}
use native.Mathlib.Omega.{arith}
use mathlib.Core.Path.{◌≡◌, refl, sym, ap, ap₂, ◌∙◌}
use mathlib.Core.Logic.{inl, inr}
use mathlib.Core.Bool.{Bool, true, false, cond, ◌&&◌}
use mathlib.Core.List.{List, [], ◌∷◌}
use lib.ListN.{length, get_or, set, take}
use lib.Seq.{take_all}
use lib.Dec.{T, leb, eqb}
use lib.Ieee.{Float}
use borrow.Author.Tests.{le-leb, lt-leb}
use Rattle.layout.specs.General.Lists.{all, up_from, part}
use Rattle.layout.specs.Problems.Problem.{Problem, compact}
use Rattle.layout.specs.Checks.{layout, covered_rows, values_on, route_checks, refusal, check, first_failing}
use Rattle.layout.specs.Calls.Answers.{or_else, roomy, problem_refusal}
use Rattle.layout.specs.Calls.Cut.{sizes}
use Rattle.layout.proofs.Lists.Tests.{and_iff, leb_iff, lt_or_le}
use Rattle.layout.specs.Calls.CutMany.{side, with_side, first_side_checks, sides_refusal}
use Rattle.layout.proofs.Columns.OtherSide.{covers}
use Rattle.layout.proofs.Theorems.Sides.{side-first, side-part, first_in_order, first_count, first_passed, sides_whole}
use Rattle.check_problem.proofs.Order.{problem_then_route}
use Rattle.check_covered.specs.Covered.{sides_on}
use Rattle.check_covered.proofs.Marks.{all_same}
use Rattle.chordal_info.specs.Sizes.{rows_fit}
use Rattle.side_numbers.specs.Order.{sides_order}
use Rattle.side_numbers.proofs.Laws.{told}
use Rattle.side_refusals.proofs.Limits.{given-first}

-- ---- refusal numbers in order

regroup : (a b c d : ℕ) → or_else a (or_else b (or_else c d)) ≡ or_else (or_else a (or_else b c)) d
regroup zero zero c d = refl
regroup zero (suc b) c d = refl
regroup (suc a) b c d = refl

-- the first of four numbers, where it is not 0
given_of_four : (a b c d x : ℕ) → x ≡ a → (x ≡ 0 → ⊥) → x ≡ or_else (or_else (or_else a b) c) d
given_of_four zero b c d x e n = absurd (n e)
given_of_four (suc a) b c d x e n = e

-- check 1 on the count of sides
one : (t : Bool) (r : ℕ) → r ≡ cond t 0 1 → (r ≡ 0 → ⊥) → r ≡ 1
one true r e n = absurd (n e)
one false r e n = e

pub count-right : (count r : ℕ) → r ≡ cond (leb 1 count && leb count 64) 0 1 → r ≡ 0 → (1 ≤ count) × (count ≤ 64)
count-right count r e z =
    let (some, few) = (and_iff (leb 1 count) (leb count 64)).0 (told (leb 1 count && leb count 64) 0 (sym e ∙ z)) in
    ((leb_iff 1 count).0 some, (leb_iff count 64).0 few)

-- checks 9 and 10 on the first side
pub nine_ten : (a c : Bool) → or_else (cond a 0 9) (cond c 0 10) ≡ first_failing (check 9 a ∷ check 10 c ∷ [])
nine_ten true c = refl
nine_ten false c = refl

-- ---- the right sides

-- the first side is a prefix of the list
pub first_front : (m : ℕ) (sides : List Float) (k : ℕ) → k ≡ cond (leb m (length sides)) m (length sides)
    → (k ≤ length sides) × (take k sides ≡ side m 0 sides)
first_front m sides k e = elim (lt_or_le (length sides) m) [
  | inl short ↦
      let f : k ≡ length sides = e ∙ rw (lt-leb m (length sides) short) in
      (omega (arith, f), ap (λ (j : ℕ). take j sides) f ∙ take_all (length sides) sides (omega arith) ∙ sym (take_all m sides (omega (arith, short))) ∙ sym (side-first m sides))
  | inr long ↦
      let f : k ≡ m = e ∙ rw (le-leb m (length sides) long) in
      (omega (arith, f, long), ap (λ (j : ℕ). take j sides) f ∙ sym (side-first m sides))
]

-- check 9 on the values of the sides after the first
pub further_covers : (p : Problem) (count : ℕ) (sides : List Float)
    → sides_on (covered_rows (layout p)) p.m 1 count sides ≡ all (λ k. covers p (side p.m k sides)) (up_from 1 (count - 1))
further_covers p count sides =
    all_same (λ k. values_on (covered_rows (layout p)) p.m (part (k * p.m) (k * p.m + p.m) sides)) (λ k. covers p (side p.m k sides)) (up_from 1 (count - 1))
    (λ k h. ap (values_on (covered_rows (layout p)) p.m) (sym (side-part p.m k sides)))

-- at most 64 sides with augmented rows within check 10 have fewer than 2^32 values in all
pub sides_few : (m count rows overlaps : ℕ) → count ≤ 64 → T (rows_fit compact m rows overlaps) → count * rows < 4294967296
sides_few m count rows overlaps few fit =
    let h : count * rows ≤ 64 * 262144 = mul-le-mul {n₂ = 64} {m₂ = 262144} few ((leb_iff rows 262144).0 ((and_iff (leb rows 262144) (leb overlaps 131072)).0 fit).0) in
    omega (arith, h)

-- ---- the whole call

module _ (p : Problem) (count : ℕ) (sides : List Float) where
  -- refused for the count of sides
  pub stopped_count : (r : ℕ) → r ≡ cond (leb 1 count && leb count 64) 0 1 → (r ≡ 0 → ⊥) → (rooms : List ℕ) → r ≡ sides_refusal p count sides rooms
  stopped_count r e n rooms =
      one (leb 1 count && leb count 64) r e n
      ∙ sym (sides_whole p count sides rooms
      ∙ ap (λ (k : ℕ). or_else (or_else k (cond (all (λ k. covers p (side p.m k sides)) (up_from 1 (count - 1))) 0 9)) (cond (roomy (set (sizes compact (with_side p sides 0)) 7 (count * get_or (sizes compact (with_side p sides 0)) 7 0)) rooms) 0 11))
      (first_count p count sides (λ h. n (e ∙ ap (λ (t : Bool). cond t 0 1) (ap₂ {C = Bool} (λ a b. a && b) (le-leb 1 count h.0) (le-leb count 64 h.1))))))

  module _ (some : 1 ≤ count) (few : count ≤ 64) where
    abbrev early : ℕ
    early = sides_order (problem_refusal (with_side p sides 0)) p.m count (length sides)

    abbrev later : ℕ
    later = first_failing (route_checks compact (with_side p sides 0))

    abbrev others : ℕ
    others = cond (all (λ k. covers p (side p.m k sides)) (up_from 1 (count - 1))) 0 9

    abbrev room : List ℕ → ℕ
    room rooms = cond (roomy (set (sizes compact (with_side p sides 0)) 7 (count * get_or (sizes compact (with_side p sides 0)) 7 0)) rooms) 0 11

    firsts : first_failing (first_side_checks p count sides) ≡ or_else early later
    firsts =
        let r = problem_refusal (with_side p sides 0) in
        first_in_order p count sides
        ∙ ap (λ (b : Bool). or_else (cond b 0 1) (or_else (cond (leb r 3) r 0) (or_else (cond (eqb (length sides) (count * p.m)) 0 4) (refusal compact (with_side p sides 0)))))
        (ap₂ {C = Bool} (λ a b. a && b) (le-leb 1 count some) (le-leb count 64 few))
        ∙ ap (λ (k : ℕ). or_else (cond (leb r 3) r 0) (or_else (cond (eqb (length sides) (count * p.m)) 0 4) k)) (problem_then_route compact (with_side p sides 0))
        ∙ regroup (cond (leb r 3) r 0) (cond (eqb (length sides) (count * p.m)) 0 4) r later

    in_order : (rooms : List ℕ) → or_else (or_else (or_else early later) others) (room rooms) ≡ sides_refusal p count sides rooms
    in_order rooms = sym (sides_whole p count sides rooms ∙ ap (λ (k : ℕ). or_else (or_else k others) (room rooms)) firsts)

    -- refused by one of checks 1 to 7
    pub stopped_early : (rooms : List ℕ) (t : ℕ) → t ≡ sides_order (problem_refusal (with_side p sides 0)) p.m count (length sides) → (t ≡ 0 → ⊥)
        → t ≡ sides_refusal p count sides rooms
    stopped_early rooms t e n = given_of_four early later others (room rooms) t e n ∙ in_order rooms

    module _ (passed : sides_order (problem_refusal (with_side p sides 0)) p.m count (length sides) ≡ 0) where
      then_later : (rooms : List ℕ) → or_else (or_else later others) (room rooms) ≡ sides_refusal p count sides rooms
      then_later rooms = ap (λ (k : ℕ). or_else (or_else (or_else k later) others) (room rooms)) (sym passed) ∙ in_order rooms

      -- refused by check 9 or 10 on the first side
      pub stopped_late : (rooms : List ℕ) (t : ℕ) → t ≡ first_failing (route_checks compact (with_side p sides 0)) → (t ≡ 0 → ⊥)
          → t ≡ sides_refusal p count sides rooms
      stopped_late rooms t e n = given-first later others (room rooms) t e n ∙ then_later rooms

      -- the first side is accepted
      pub accepted-first : (t : ℕ) → t ≡ first_failing (route_checks compact (with_side p sides 0)) → t ≡ 0 → refusal compact (with_side p sides 0) ≡ 0
      accepted-first t e z = (first_passed p count sides (firsts ∙ ap₂ or_else passed (sym e ∙ z))).1

      -- refused by check 9 on a further side, by check 11, or not at all
      pub by-others : (t : ℕ) → t ≡ first_failing (route_checks compact (with_side p sides 0)) → t ≡ 0 → (needs rooms : List ℕ) → needs ≡ sizes compact (with_side p sides 0)
          → or_else (cond (all (λ k. covers p (side p.m k sides)) (up_from 1 (count - 1))) 0 9) (cond (roomy (set needs 7 (count * get_or needs 7 0)) rooms) 0 11)
          ≡ sides_refusal p count sides rooms
      by-others t e z needs rooms f =
          ap (λ (ks : List ℕ). or_else others (cond (roomy (set ks 7 (count * get_or ks 7 0)) rooms) 0 11)) f
          ∙ ap (λ (k : ℕ). or_else (or_else k others) (room rooms)) (sym z ∙ e) ∙ then_later rooms
