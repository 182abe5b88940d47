-- The refusals in order, and what holds where nothing is refused.
use Prim.Native.Nat.{ℕ, ◌+◌, ◌≤◌}
use native.Mathlib.Omega.{arith}
use mathlib.Core.Path.{◌≡◌, sym, ap, ◌∙◌}
use mathlib.Core.Bool.{Bool, true, false, cond, ◌&&◌}
use mathlib.Core.List.{List, [], ◌∷◌}
use lib.ListN.{length}
use lib.Dec.{leb}
use Rattle.layout.specs.Problems.Problem.{standard, compact, Solution}
use Rattle.layout.specs.Rows.Blocks.{Part, block_row_count, overlap_count}
use Rattle.layout.specs.Checks.{Sound, Check, check, first_failing, cones_bounded, check10}
use Rattle.layout.specs.Calls.Answers.{or_else, roomy}
use Rattle.layout.specs.Calls.Join.{joined_parts, join_checks, solution_fits}
use Rattle.layout.specs.Calls.ChangeRoute.{changed_sizes, change_refusal}
use Rattle.layout.proofs.Lists.Tests.{and_iff, leb_iff, eqb_iff}
use Rattle.layout.proofs.Checks.Order.{passed, failing_append}
use Rattle.layout.proofs.Theorems.ChangeRoute.{change_checked, change_sound}
use Rattle.check_problem.specs.Order.{joined_checks, joined_refusal}
use Rattle.check_problem.proofs.Order.{joined_then_route, first-given}
use Rattle.chordal_info.specs.Routes.{Counted}
use Rattle.change_route.specs.Counted.{counted_refusal}

-- the number that each of the last four checks gives where it is the first to fail
pub in_order : (a b c d : Bool) →
    let x = first_failing (check 10 a ∷ check 10 b ∷ check 11 c ∷ check 12 d ∷ []) in
    (a ≡ false → x ≡ 10) × (a ≡ true → b ≡ false → x ≡ 10) × (a ≡ true → b ≡ true → c ≡ false → x ≡ 11)
    × (a ≡ true → b ≡ true → c ≡ true → d ≡ false → x ≡ 12) × (a ≡ true → b ≡ true → c ≡ true → d ≡ true → x ≡ 0)
in_order a b c d = (λ e. rw e, λ e f. rw (e, f), λ e f g. rw (e, f, g), λ e f g h. rw (e, f, g, h), λ e f g h. rw (e, f, g, h))

-- n is at most 65536 where checks 1 to 7 refuse nothing
pub columns_few : (n m : ℕ) (cones : List ℕ) (count : ℕ) (words : List ℕ) → joined_refusal n m cones count words ≡ 0 → n ≤ 65536
columns_few n m cones count words e =
    let bounded = passed 1 (joined_checks n m cones count words) tt e in
    (simp (and_iff, leb_iff) at ((and_iff (leb n 65536 && leb m 65536) (cones_bounded cones)).0 bounded).0).0

module _ (n m : ℕ) (cones : List ℕ) (count : ℕ) (words : List ℕ) (sol : Solution) (rooms : List ℕ) where
  abbrev ps : List Part
  ps = joined_parts cones count words

  -- the checks after those of a standard joining
  abbrev later : List Check
  later = check 10 (check10 compact m ps) ∷ check 11 (roomy (changed_sizes n m ps) rooms) ∷ check 12 (solution_fits standard n m ps sol) ∷ []

  abbrev tenth : ℕ
  tenth = cond (check10 standard m ps) 0 10

  -- one of checks 1 to 7 fails
  pub refused_early : (r : ℕ) → r ≡ joined_refusal n m cones count words → (r ≡ 0 → ⊥) → r ≡ change_refusal n m cones count words sol rooms
  refused_early r e h =
      let f : join_checks standard n m cones count words ≡ joined_refusal n m cones count words =
      joined_then_route standard n m cones count words ∙ first-given (joined_refusal n m cones count words) tenth (λ y. h (e ∙ y)) in
      e ∙ sym f ∙ sym (first-given (join_checks standard n m cones count words) (first_failing later) (λ y. h (e ∙ sym f ∙ y)))

  -- none of checks 1 to 7 fails
  pub refused_late : (rows overlaps : ℕ) → Counted (joined_parts cones count words) rows overlaps → joined_refusal n m cones count words ≡ 0
      → counted_refusal n m rows overlaps (length sol.x) (length sol.s) (length sol.z) rooms ≡ change_refusal n m cones count words sol rooms
  unfolding counted_refusal
  refused_late rows overlaps h e =
      rw (h.0, h.1)
      (failing_append (check 10 (check10 standard m ps) ∷ []) later tt
      ∙ ap (λ (a : ℕ). or_else a (first_failing later))
      (sym (joined_then_route standard n m cones count words ∙ ap (λ (a : ℕ). or_else a tenth) e)))

-- what holds where nothing is refused: a standard solution is given, and the outputs are long enough for a compact one
pub record Accepted (n m : ℕ) (cones : List ℕ) (count : ℕ) (words : List ℕ) (sol : Solution) (x s z k : ℕ) : Type 0 where
  pub sound : Sound m cones count words
  pub columns : n ≤ length sol.x
  pub slacks : m + block_row_count (joined_parts cones count words) ≤ length sol.s
  pub duals : m + block_row_count (joined_parts cones count words) ≤ length sol.z
  pub room_x : n + overlap_count (joined_parts cones count words) ≤ x
  pub room_s : block_row_count (joined_parts cones count words) ≤ s
  pub room_z : block_row_count (joined_parts cones count words) ≤ z
  pub room_scalars : 2 ≤ k

pub change_accepted : (n m : ℕ) (cones : List ℕ) (count : ℕ) (words : List ℕ) (sol : Solution) (x s z k : ℕ)
    → change_refusal n m cones count words sol (x ∷ s ∷ z ∷ k ∷ []) ≡ 0 → Accepted n m cones count words sol x s z k
change_accepted n m cones count words sol x s z k ok =
    let checked = change_checked n m cones count words sol (x ∷ s ∷ z ∷ k ∷ []) ok in
    let rooms = simp (and_iff, leb_iff) at checked.2 in
    let lengths = simp (and_iff, eqb_iff) at checked.3 in
    record {
      sound = change_sound n m cones count words sol (x ∷ s ∷ z ∷ k ∷ []) ok;
      columns = omega (arith, lengths.0.0);
      slacks = omega (arith, lengths.0.1);
      duals = omega (arith, lengths.1);
      room_x = rooms.0;
      room_s = rooms.1.0;
      room_z = rooms.1.1.0;
      room_scalars = rooms.1.1.1.0;
    }
