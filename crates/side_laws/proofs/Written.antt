-- The cuts with several right sides where nothing is refused: the preconditions of their writers, and what these write.
use Prim.Native.Nat.{ℕ, zero, suc, ◌*◌, ◌≤◌, ◌<◌}
use native.Mathlib.Nat.{le_of_eq, mul-le-mul_right}
use native.Mathlib.Omega.{arith}
use mathlib.Core.Path.{◌≡◌, sym, ap, subst, ◌∙◌}
use mathlib.Core.Bool.{cond, ◌&&◌}
use mathlib.Core.List.{List, [], ◌∷◌}
use lib.ListN.{length, get_or, set}
use lib.Dec.{T, leb, lit<}
use lib.Ieee.{Float}
use Rattle.layout.specs.Problems.Problem.{Problem, with_b, compact}
use Rattle.layout.specs.Rows.Blocks.{block_row_count}
use Rattle.layout.specs.Checks.{layout, refusal}
use Rattle.layout.specs.Cuts.Compact.{compact_b}
use Rattle.layout.specs.Calls.Cut.{Augmented, lengths, sizes}
use Rattle.layout.specs.Calls.Answers.{roomy}
use Rattle.layout.specs.Calls.CutBetween.{limits_failing, limits_sizes, limits_refusal, Limits, limits_rooms, CutBetween}
use Rattle.layout.specs.Calls.CutMany.{with_side, sides_failing, sides_b, augmented_sides, sides_refusal, CutMany}
use Rattle.layout.proofs.Lists.Tests.{and_iff, leb_iff}
use Rattle.layout.proofs.Checks.Accepted.{accepted_checked}
use Rattle.layout.proofs.Checks.Order.{or_else-zero}
use Rattle.layout.proofs.Checks.Rooms.{room_fits}
use Rattle.layout.proofs.Columns.Sizes.{compact_b_lem}
use Rattle.layout.proofs.Promises.{objective-kept, constrained-kept, Taken, output-kept}
use Rattle.layout.proofs.Theorems.Between.{limits_iff, limits-sizes}
use Rattle.layout.proofs.Theorems.Sides.{SidesFit, sides_iff, sides_sizes}
use Rattle.sparsevector.proofs.Sides.{one_side}
use Rattle.cut_compact.specs.System.{MovableSides}
use Rattle.side_numbers.proofs.Laws.{told, another_room}

-- ---- limits

pub between-refused : (r : ℕ) → (r ≡ 0 → ⊥) → (p : Problem) (low high : List Float) (before : Limits)
    → r ≡ limits_refusal p low high (limits_rooms before) → CutBetween p low high before before r
between-refused r n p low high before e = record {
  number = e;
  tables = record { objective = objective-kept r n _ _; constrained = constrained-kept r n _ _; map = output-kept r _ _ n };
  b_high = output-kept r _ _ n;
}

module _ (p : Problem) (low high : List Float) (out : Limits) (done : limits_refusal p low high (limits_rooms out) ≡ 0) where
  abbrev room : ℕ
  room = cond (roomy (limits_sizes p low high) (limits_rooms out)) 0 11

  split : (limits_failing p low high ≡ 0) × (room ≡ 0)
  split = (or_else-zero (limits_failing p low high) (cond (roomy (limits_sizes p low high) (limits_rooms out)) 0 11)).0 done

  low-accepted : refusal compact (with_b p low) ≡ 0
  low-accepted = ((limits_iff p low high).0 split.0).0

  high-accepted : refusal compact (with_b p high) ≡ 0
  high-accepted = ((limits_iff p low high).0 split.0).1

  rooms : T (leb (length (compact_b (with_b p low))) (length out.high)) × T (roomy (sizes compact (with_b p low)) (lengths out.cut))
  rooms =
      let ks = sizes compact (with_b p low) in
      (and_iff (leb (length (compact_b (with_b p low))) (length out.high)) (roomy ks (lengths out.cut))).0
      (subst T (ap (λ (js : List ℕ). roomy js (limits_rooms out)) (limits-sizes p low high) ∙ another_room (get_or ks 7 0) (length out.high) ks (lengths out.cut) (omega arith) (omega arith))
      (told (roomy (limits_sizes p low high) (limits_rooms out)) 10 split.1))

  pub low_taken : Taken compact (with_b p low) (lengths out.cut)
  low_taken = (low-accepted, rooms.1)

  length-low : length low ≡ p.m
  length-low = (accepted_checked compact (with_b p low) low-accepted).length_b

  length_high : length high ≡ p.m
  length_high = (accepted_checked compact (with_b p high) high-accepted).length_b

  -- the preconditions of the writer of low and high, over k rows
  pub both_fit : (k : ℕ) → k ≡ block_row_count (layout p) → MovableSides p.m k low 1 out.cut.b × MovableSides p.m k high 1 out.high
  both_fit k e =
      let rows = compact_b_lem (with_b p low) low-accepted in (
        (omega (arith, e, rows, room_fits (sizes compact (with_b p low)) (lengths out.cut) 7 rooms.1 (lit< tt)), omega (arith, length-low)),
        (omega (arith, e, rows, (leb_iff (length (compact_b (with_b p low))) (length out.high)).0 rooms.0), omega (arith, length_high)),
      )

  -- what it writes
  pub low-written : sides_b p 1 low ≡ compact_b (with_b p low)
  low-written = one_side p low length-low

  pub high-written : sides_b p 1 high ≡ compact_b (with_b p high)
  high-written = one_side p high length_high

-- ---- many right sides

pub many-refused : (r : ℕ) → (r ≡ 0 → ⊥) → (count : ℕ) (p : Problem) (before : Augmented)
    → r ≡ sides_refusal p count p.b (lengths before) → CutMany count p before before r
many-refused r n count p before e = record {
  number = e;
  tables = record { objective = objective-kept r n _ _; constrained = constrained-kept r n _ _; map = output-kept r _ _ n };
}

-- outputs that are long enough stay so where one needed length is smaller
less_room : (i more : ℕ) (ks rs : List ℕ) → get_or ks i 0 ≤ more → T (roomy (set ks i more) rs) → T (roomy ks rs)
less_room i more [] rs h t = tt
less_room zero more (k ∷ ks) [] h t = t
less_room zero more (k ∷ ks) (r ∷ rs) h t =
    let (here, rest) = (and_iff (leb more r) (roomy ks rs)).0 t in
    (and_iff (leb k r) (roomy ks rs)).1 ((leb_iff k r).1 (omega (arith, h, (leb_iff more r).0 here)), rest)
less_room (suc i) more (k ∷ ks) [] h t = t
less_room (suc i) more (k ∷ ks) (r ∷ rs) h t =
    let (here, rest) = (and_iff (leb k r) (roomy (set ks i more) rs)).0 t in
    (and_iff (leb k r) (roomy ks rs)).1 (here, less_room i more ks rs h rest)

module _ (count : ℕ) (p : Problem) (out : Augmented) (done : sides_refusal p count p.b (lengths out) ≡ 0) where
  abbrev first : Problem
  first = with_side p p.b 0

  abbrev sides_room : ℕ
  sides_room = cond (roomy (lengths (augmented_sides p count p.b)) (lengths out)) 0 11

  both : (sides_failing p count p.b ≡ 0) × (sides_room ≡ 0)
  both = (or_else-zero (sides_failing p count p.b) sides_room).0 done

  fit : SidesFit p.m count p.b
  fit = ((sides_iff p count p.b).0 both.0).0

  each : (k : ℕ) → k < count → refusal compact (with_side p p.b k) ≡ 0
  each = ((sides_iff p count p.b).0 both.0).1

  first-accepted : refusal compact (with_side p p.b 0) ≡ 0
  first-accepted = each 0 fit.some

  sides_room_lem : T (roomy (set (sizes compact first) 7 (count * length (compact_b first))) (lengths out))
  sides_room_lem =
      subst (λ (ks : List ℕ). T (roomy ks (lengths out))) (sides_sizes p count p.b)
      (told (roomy (lengths (augmented_sides p count p.b)) (lengths out)) 10 both.1)

  pub first_taken : Taken compact (with_side p p.b 0) (lengths out)
  first_taken =
      let x = length (compact_b first) in
      let more : 1 * x ≤ count * x = mul-le-mul_right x fit.some in
      (first-accepted, less_room 7 (count * x) (sizes compact first) (lengths out) (omega (arith, more)) sides_room_lem)

  -- the precondition of the writer of the right sides, over k rows
  pub sides_fit : (k : ℕ) → k ≡ block_row_count (layout p) → MovableSides p.m k p.b count out.b
  sides_fit k e =
      let x = length (compact_b first) in
      let room : count * x ≤ length out.b = room_fits (set (sizes compact first) 7 (count * x)) (lengths out) 7 sides_room_lem (lit< tt) in
      let same : k ≡ x = e ∙ sym (compact_b_lem first first-accepted) in
      (subst (λ (j : ℕ). count * j ≤ length out.b) (sym same) room, le_of_eq (sym fit.filled))
