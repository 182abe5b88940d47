-- The cut of many right sides gives what the compact cuts of the sides give one by one; if a side is refused, it returns the refusal number
-- of the first such side.
use Prim.Native.Nat.{ℕ, suc, ◌+◌, ◌-◌, ◌*◌, ◌≤◌, ◌<◌}
use native.Mathlib.Nat.{zero-mul, mul-le-mul_right}
use native.Mathlib.Omega.{arith}
use mathlib.Core.Path.{◌≡◌, refl, sym, ap, ap₂, ◌∙◌}
use mathlib.Core.Logic.{◌↔◌}
use mathlib.Core.Bool.{Bool, true, false, cond, ◌&&◌}
use mathlib.Core.List.{List, [], ◌∷◌}
use lib.ListN.{length, get_or, set, take, drop, length-map, length-drop}
use lib.Seq.{length-take-le}
use lib.Dec.{T, leb, eqb}
use borrow.Author.Tests.{le-leb, eq-eqb, ne_eqb}
use lib.Ieee.{Float}
use Rattle.layout.specs.General.Lists.{all, part, below, up_from, join}
use Rattle.layout.specs.Problems.Problem.{Problem, compact}
use Rattle.layout.specs.Problems.Patterns.{patterns}
use Rattle.layout.specs.Rows.Blocks.{compact_rows}
use Rattle.layout.specs.Checks.{Check, check, layout, check1, check2, check3, check4, patterns_read, tree_right, cliques_right, problem_checks, route_checks, checks, refusal, first_failing}
use Rattle.layout.specs.Cuts.Compact.{compact_b, row_value}
use Rattle.layout.specs.Calls.Answers.{or_else, roomy, problem_refusal}
use Rattle.layout.specs.Calls.Cut.{augmented_with_b, lengths, sizes}
use Rattle.layout.specs.Calls.CutMany.{side, with_side, OneByOne, first_side_checks, sides_failing, sides_b, augmented_sides, sides_refusal}
use Rattle.layout.proofs.Lists.Tests.{and_iff, leb_iff, eqb_iff, failed}
use Rattle.layout.proofs.Lists.Members.{has-up_from, has-below}
use Rattle.layout.proofs.Lists.Joins.{length_runs, run_at}
use Rattle.layout.proofs.Checks.Order.{or_else-zero, or_else_same, passing, passed as check-passed, failing_append, failing_each, failing_first, failing_tests}
use Rattle.layout.proofs.Columns.OtherSide.{covers, other_results, other_refusal}

-- ---- the refusals

-- what checks 1 and 4 require of the right sides: 1 to 64 sides of m values each
pub record SidesFit (m count : ℕ) (sides : List Float) : Type 0 where
  pub some : 1 ≤ count
  pub few : count ≤ 64
  pub filled : length sides ≡ count * m

-- Let checks 1 to 7 together give r. With a further test `long` in check 4: r if it is at most 3, else 4 if `long` fails, else r.
in_order : (one two three long four five six seven : Bool) (cs : List Check)
    → let r = first_failing (check 1 one ∷ check 2 two ∷ check 3 three ∷ check 4 four ∷ check 5 five ∷ check 6 six ∷ check 7 seven ∷ []) in
    first_failing (check 1 one ∷ check 2 two ∷ check 3 three ∷ check 4 (long && four) ∷ check 5 five ∷ check 6 six ∷ check 7 seven ∷ cs)
    ≡ or_else (cond (leb r 3) r 0) (or_else (cond long 0 4) (or_else r (first_failing cs)))
in_order false two three long four five six seven cs = refl
in_order true false three long four five six seven cs = refl
in_order true true false long four five six seven cs = refl
in_order true true true true true true true true cs = refl
in_order true true true true true true true false cs = refl
in_order true true true true true true false seven cs = refl
in_order true true true true true false six seven cs = refl
in_order true true true true false five six seven cs = refl
in_order true true true false true true true true cs = refl
in_order true true true false true true true false cs = refl
in_order true true true false true true false seven cs = refl
in_order true true true false true false six seven cs = refl
in_order true true true false false five six seven cs = refl

-- side 0 is the first m values, and any side is a part of the list
pub side-first : (m : ℕ) (sides : List Float) → side m 0 sides ≡ take m sides
side-first m sides = ap (λ (t : ℕ). take m (drop t sides)) (zero-mul m)

pub side-part : (m k : ℕ) (sides : List Float) → side m k sides ≡ part (k * m) (k * m + m) sides
side-part m k sides =
    let e : m ≡ k * m + m - k * m = omega arith in
    ap (λ (t : ℕ). take t (drop (k * m) sides)) e

-- a side has m values
side-length : (m count : ℕ) (sides : List Float) → length sides ≡ count * m → (k : ℕ) → k < count → length (side m k sides) ≡ m
side-length m count sides e k l =
    length-take-le m (drop (k * m) sides) (omega (arith, length-drop (k * m) sides, mul-le-mul_right m l))

module _ (p : Problem) (count : ℕ) (sides : List Float) where
  abbrev first : Problem
  first = with_side p sides 0

  abbrev each : ℕ → List Check
  each k = checks compact (with_side p sides k)

  abbrev counted : Bool
  counted = leb 1 count && leb count 64

  abbrev further : List Check
  further = join each (up_from 1 (count - 1))

  -- the first side's checks in the order in which code makes them: the count, checks 1 to 3, the length of the list, then checks 4 to 10
  pub first_in_order : let r = problem_refusal (with_side p sides 0) in
      first_failing (first_side_checks p count sides) ≡
      or_else (cond (leb 1 count && leb count 64) 0 1)
      (or_else (cond (leb r 3) r 0)
      (or_else (cond (eqb (length sides) (count * p.m)) 0 4)
      (refusal compact (with_side p sides 0))))
  first_in_order =
      let ps = patterns p.pattern_count p.pattern_words in
      let named : Bool = patterns_read p.cones p.pattern_count p.pattern_words in
      let long : Bool = eqb (length sides) (count * p.m) in
      go counted (check1 first) (check2 first) (check3 first) long (check4 first) named (all tree_right ps) (all cliques_right ps)
      ∙ ap (λ (t : ℕ). or_else (cond counted 0 1) (or_else (cond (leb (problem_refusal first) 3) (problem_refusal first) 0) (or_else (cond long 0 4) t)))
      (sym (failing_append (problem_checks first) (route_checks compact first) tt))
    where
      go : (counted one two three long four five six seven : Bool)
          → let r = first_failing (check 1 one ∷ check 2 two ∷ check 3 three ∷ check 4 four ∷ check 5 five ∷ check 6 six ∷ check 7 seven ∷ []) in
          first_failing (check 1 counted ∷ check 1 one ∷ check 2 two ∷ check 3 three ∷ check 4 (long && four)
          ∷ check 5 five ∷ check 6 six ∷ check 7 seven ∷ route_checks compact first)
          ≡ or_else (cond counted 0 1) (or_else (cond (leb r 3) r 0) (or_else (cond long 0 4) (or_else r (first_failing (route_checks compact first)))))
      go true one two three long four five six seven = in_order one two three long four five six seven (route_checks compact first)
      go false one two three long four five six seven = refl

  -- with a right count and a right length, the first side's checks are those of the compact route for that side
  first-right : SidesFit p.m count sides → first_failing (first_side_checks p count sides) ≡ refusal compact (with_side p sides 0)
  first-right h = rw (le-leb 1 count h.some, le-leb count 64 h.few, eq-eqb (length sides) (count * p.m) h.filled)

  -- what holds if none of the first side's checks fails
  pub first_passed : first_failing (first_side_checks p count sides) ≡ 0
      → SidesFit p.m count sides × (refusal compact (with_side p sides 0) ≡ 0)
  first_passed e = (right, sym (first-right right) ∙ e)
    where
      test : (k : ℕ) → T (passing k (first_side_checks p count sides))
      test k = check-passed k (first_side_checks p count sides) tt e

      right : SidesFit p.m count sides
      right =
          let h = (and_iff (leb 1 count) (leb count 64)).0 (test 1) in
          record {
            some = (leb_iff 1 count).0 h.0;
            few = (leb_iff count 64).0 h.1;
            filled = (eqb_iff (length sides) (count * p.m)).0 ((and_iff (eqb (length sides) (count * p.m)) (check4 first)).0 (test 4)).0;
          }

  -- a wrong count is refused under number 1
  pub first_count : ¬ ((1 ≤ count) × (count ≤ 64)) → first_failing (first_side_checks p count sides) ≡ 1
  first_count n =
      first_in_order
      ∙ rw (failed counted (λ t. let h = (and_iff (leb 1 count) (leb count 64)).0 t in n ((leb_iff 1 count).0 h.0, (leb_iff count 64).0 h.1)))

  -- a wrong length is refused under number 4, unless one of checks 1 to 3 fails
  pub first-length : 1 ≤ count → count ≤ 64 → ¬ (length sides ≡ count * p.m)
      → let r = problem_refusal (with_side p sides 0) in first_failing (first_side_checks p count sides) ≡ or_else (cond (leb r 3) r 0) 4
  first-length some few n = first_in_order ∙ rw (le-leb 1 count some, le-leb count 64 few, ne_eqb (length sides) (count * p.m) n)

  -- the first side's checks come first, then those of the further sides
  groups : sides_failing p count sides ≡ or_else (first_failing (first_side_checks p count sides)) (first_failing further)
  groups = failing_append (first_side_checks p count sides) further tt

  -- a further side's refusal number, if the first side is accepted
  further_refusal : first_failing (first_side_checks p count sides) ≡ 0 → (k : ℕ) → k < count
      → refusal compact (with_side p sides k) ≡ cond (covers p (side p.m k sides)) 0 9
  further_refusal e k l =
      let (right, ok) = first_passed e in
      other_refusal first ok (side p.m k sides) (side-length p.m count sides right.filled k l)

  -- If count and length are right, the checks are those of each side, all of them before those of the next side.
  pub sides_in_order : SidesFit p.m count sides
      → sides_failing p count sides ≡ first_failing (join (λ k. checks compact (with_side p sides k)) (below count))
  sides_in_order h =
      let e : count ≡ suc (count - 1) = omega (arith, h.some) in
      groups ∙ ap (λ (r : ℕ). or_else r (first_failing further)) (first-right h)
      ∙ sym (failing_append (each 0) further tt) ∙ ap (λ (c : ℕ). first_failing (join each (below c))) (sym e)

  -- If count and length are right, a number other than 0 is that of a refused side, and all sides before it are accepted.
  pub sides_first : SidesFit p.m count sides → ¬ (sides_failing p count sides ≡ 0)
      → (k : ℕ) × (k < count) × (refusal compact (with_side p sides k) ≡ sides_failing p count sides)
      × ((j : ℕ) → j < k → refusal compact (with_side p sides j) ≡ 0)
  sides_first h n =
      let order = sides_in_order h in
      let (k, l, e, before) = failing_first each (λ k. tt) 0 count (λ z. n (order ∙ z)) in
      (k, l, at k ∙ e ∙ sym order, λ j m. at j ∙ before j m)
    where
      at : (k : ℕ) → refusal compact (with_side p sides k) ≡ first_failing (each (0 + k))
      at k = ap (λ (i : ℕ). first_failing (each i)) (omega arith)

  -- Of a further side only the values matter, in check 9.
  pub sides_by-values : sides_failing p count sides ≡
      or_else (first_failing (first_side_checks p count sides)) (cond (all (λ k. covers p (side p.m k sides)) (up_from 1 (count - 1))) 0 9)
  sides_by-values =
      groups ∙ or_else_same (first_failing (first_side_checks p count sides)) (first_failing further)
      (cond (all (λ k. covers p (side p.m k sides)) (up_from 1 (count - 1))) 0 9)
      (λ e. failing_tests each (λ k. tt) 8 (λ k. covers p (side p.m k sides)) (up_from 1 (count - 1))
      (λ k h. further_refusal e k (omega (arith, (has-up_from k 1 (count - 1)).0 h))))

  -- Nothing is refused exactly when count and length are right and every side is accepted.
  pub sides_iff : (sides_failing p count sides ≡ 0) ↔ (SidesFit p.m count sides × ((k : ℕ) → k < count → refusal compact (with_side p sides k) ≡ 0))
  sides_iff = (
    λ e.
        let right = (first_passed ((or_else-zero (first_failing (first_side_checks p count sides)) (first_failing further)).0 (sym groups ∙ e)).0).0 in
        let accepted = (failing_each each (λ k. tt) (below count)).0 (sym (sides_in_order right) ∙ e) in
        (right, λ k l. accepted k ((has-below k count).1 l)),
    λ h. sides_in_order h.0 ∙ (failing_each each (λ k. tt) (below count)).1 (λ k l. h.1 k ((has-below k count).0 l)),
  )

  -- ---- the results

  -- the number of augmented rows, which is the same for every side
  abbrev rows : ℕ
  rows = length (compact_rows (layout p))

  even : (k : ℕ) → length (compact_b (with_side p sides k)) ≡ length (compact_rows (layout p))
  even k = length-map (compact_rows (layout p)) (row_value (side p.m k sides))

  -- the written b is `count` times as long as for one side
  length-sides_b : length (sides_b p count sides) ≡ count * length (compact_rows (layout p))
  length-sides_b = length_runs (λ k. compact_b (with_side p sides k)) rows even 0 count

  -- the k-th run of the written b is the k-th side's augmented b
  sides_b-run : (k : ℕ) → k < count → side (length (compact_rows (layout p))) k (sides_b p count sides) ≡ compact_b (with_side p sides k)
  sides_b-run k l =
      run_at (λ k. compact_b (with_side p sides k)) rows even 0 count k l ∙ ap (λ (j : ℕ). compact_b (with_side p sides j)) (omega arith)

  -- The call gives what the cuts of the sides give one by one.
  pub one_by_one : sides_failing p count sides ≡ 0 → (k : ℕ) → k < count → OneByOne p count sides k
  one_by_one e k l = record {
    accepted = (sides_iff.0 e).1 k l;
    given =
        ap (augmented_with_b (augmented_sides p count sides)) (ap (λ (r : ℕ). side r k (sides_b p count sides)) (even k) ∙ sides_b-run k l)
        ∙ sym (other_results (with_side p sides 0) (side p.m k sides));
  }

  -- the output lengths needed: those of the first side's cut, with `count` times the length of its b
  pub sides_sizes : let ks = sizes compact (with_side p sides 0) in lengths (augmented_sides p count sides) ≡ set ks 7 (count * get_or ks 7 0)
  sides_sizes =
      ap (λ (j : ℕ). set (sizes compact (with_side p sides 0)) 7 j) (length-sides_b ∙ ap (λ (j : ℕ). count * j) (sym (even 0)))

  -- The whole call's number, in the order in which code makes the checks: all of the first side, the values of each further side, check 11.
  pub sides_whole : (rooms : List ℕ) → let ks = sizes compact (with_side p sides 0) in
      sides_refusal p count sides rooms ≡
      or_else (or_else (first_failing (first_side_checks p count sides)) (cond (all (λ k. covers p (side p.m k sides)) (up_from 1 (count - 1))) 0 9))
      (cond (roomy (set ks 7 (count * get_or ks 7 0)) rooms) 0 11)
  sides_whole rooms = ap₂ (λ (r : ℕ) (ks : List ℕ). or_else r (cond (roomy ks rooms) 0 11)) sides_by-values sides_sizes
