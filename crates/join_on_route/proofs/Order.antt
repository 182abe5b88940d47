-- A joining's refusals in order, and what holds if nothing is refused.
use Prim.Native.Nat.{ℕ, zero, suc, ◌≤◌}
use native.Mathlib.Omega.{arith}
use mathlib.Core.Path.{◌≡◌, refl, sym, ap, subst, ◌∙◌}
use mathlib.Core.Bool.{Bool, true, false, cond, ◌&&◌}
use mathlib.Core.List.{List, [], ◌∷◌}
use lib.ListN.{length, take}
use lib.Dec.{T, eqb}
use lib.Ieee.{Float}
use borrow.Author.Tests.{ne_eqb}
use Rattle.layout.specs.General.Floats.{one64}
use Rattle.layout.specs.Problems.Problem.{Route, standard, compact, Solution, solution}
use Rattle.layout.specs.Rows.Blocks.{Part, block_row_count, overlap_count}
use Rattle.layout.specs.Checks.{Sound, check10, check}
use Rattle.layout.specs.Calls.Answers.{or_else, roomy, route_of}
use Rattle.layout.specs.Calls.Join.{joined_parts, join_checks, join_refusal, joined, solution_fits, map_right, scalars}
use Rattle.layout.proofs.Lists.Tests.{and_iff, leb_iff, eqb_iff}
use Rattle.layout.proofs.Checks.Order.{passed}
use Rattle.layout.proofs.Checks.Accepted.{join_tests}
use Rattle.check_problem.specs.Order.{joined_refusal}
use Rattle.check_problem.proofs.Order.{joined_then_route, first-given, both_zero}
use Rattle.check_problem.proofs.Checked.{joined-sound}
use Rattle.chordal_info.specs.Sizes.{rows_fit}
use Rattle.chordal_info.specs.Routes.{Counted}
use Rattle.chordal_info.proofs.Sizes.{rows_fit_lem, rows_few}
use Rattle.chordal_info.proofs.Counts.{overlaps-few}
use Rattle.chordal_info.proofs.Routes.{counted_rows}
use Rattle.layout.specs.Cuts.Compact.{cone_map, map_words}
use Rattle.layout.proofs.Lists.Walks.{numbers_equal}
use Rattle.reverse_standard.specs.Routes.{Starts}
use Rattle.join_rows.specs.Joined.{Joinable, joined_of, first_of, block_sizes, route_if}
use Rattle.join_rows.proofs.Sizes.{map_tells}
use Rattle.join_on_route.specs.Fits.{lengths_fit, fits_by, counted_refusal, refusal_by}

-- the refusal number, decided by checks 1 to 10, then 11, then 12
pub join_order : (a : ℕ) (room fit : Bool) →
    let x = or_else a (or_else (cond room 0 11) (cond fit 0 12)) in
    ((a ≡ 0 → ⊥) → x ≡ a) × (a ≡ 0 → room ≡ false → x ≡ 11) × (a ≡ 0 → room ≡ true → fit ≡ false → x ≡ 12)
    × (a ≡ 0 → room ≡ true → fit ≡ true → x ≡ 0)
join_order a room fit = (
  λ h. first-given a (or_else (cond room 0 11) (cond fit 0 12)) h,
  λ e f. rw (e, f),
  λ e f g. rw (e, f, g),
  λ e f g. rw (e, f, g),
)

-- what passed checks 1 to 10 establish
pub checks_passed : (route : Route) (n m : ℕ) (cones : List ℕ) (count : ℕ) (words : List ℕ) → join_checks route n m cones count words ≡ 0
    → Sound m cones count words × (block_row_count (joined_parts cones count words) ≤ 262144)
checks_passed route n m cones count words e =
    let ps = joined_parts cones count words in
    let (seven, _) = both_zero (joined_refusal n m cones count words) (cond (check10 route m ps) 0 10) (sym (joined_then_route route n m cones count words) ∙ e) in (
      joined-sound n m cones count words seven,
      rows_few route m (block_row_count ps) (overlap_count ps) (subst T (sym (rows_fit_lem route m ps)) (passed 10 (join_tests route n m cones count words) tt e)),
    )

-- if checks 1 to 7 refuse, theirs is the number; otherwise check 10 decides
module _ (route : Route) (n m : ℕ) (cones : List ℕ) (count : ℕ) (words : List ℕ) where
  abbrev later : ℕ
  later = cond (check10 route m (joined_parts cones count words)) 0 10

  seven-refused : (joined_refusal n m cones count words ≡ 0 → ⊥) → joined_refusal n m cones count words ≡ join_checks route n m cones count words
  seven-refused h = sym (joined_then_route route n m cones count words ∙ first-given (joined_refusal n m cones count words) later h)

  seven_passed : joined_refusal n m cones count words ≡ 0 → later ≡ join_checks route n m cones count words
  seven_passed e = sym (joined_then_route route n m cones count words ∙ ap (λ (k : ℕ). or_else k later) e)

-- ---- from counts and lengths

module _ (route : Route) (n m rows overlaps : ℕ) (ps : List Part) (h : Counted ps rows overlaps) where
  counted_fits : (x s z : ℕ) → lengths_fit route n m rows overlaps x s z ≡ fits_by route n m ps x s z
  counted_fits x s z = rw (h.0, h.1) (on route)
    where
      on : (rt : Route) → lengths_fit rt n m (block_row_count ps) (overlap_count ps) x s z ≡ fits_by rt n m ps x s z
      on standard = refl
      on compact = refl

  pub counted_few : overlaps ≤ rows
  counted_few = rw (h.0, h.1) (overlaps-few ps)

-- the refusal number without the comparison of the map
before_map : (a : ℕ) (room fits : Bool) → ℕ
before_map a room fits = or_else a (or_else (cond room 0 11) (cond fits 0 12))

-- the map is compared last: it changes nothing if there is a refusal before it, and decides otherwise
map_last : (a : ℕ) (room fits right : Bool) →
    let x = before_map a room fits in
    let y = before_map a room (fits && right) in
    ((x ≡ 0 → ⊥) → x ≡ y) × (x ≡ 0 → y ≡ cond right 0 12)
unfolding before_map
map_last (suc a) room fits right = (λ h. refl, λ e. absurd (omega arith))
map_last zero false fits right = (λ h. refl, λ e. absurd (omega arith))
map_last zero true false right = (λ h. refl, λ e. absurd (omega arith))
map_last zero true true right = (λ h. absurd (h refl), λ e. refl)

-- the refusal number of the joining, from the lengths
module _ (route : Route) (n m : ℕ) (cones : List ℕ) (count : ℕ) (words : List ℕ) (x s z : ℕ) (entries rooms : List ℕ) where
  abbrev ps : List Part
  ps = joined_parts cones count words

  abbrev ten : ℕ
  ten = join_checks route n m cones count words

  abbrev room : Bool
  room = roomy (n ∷ m ∷ m ∷ 2 ∷ []) rooms

  -- if one of checks 1 to 7 fails, it gives the number
  pub refused_early : (r : ℕ) → r ≡ joined_refusal n m cones count words → (r ≡ 0 → ⊥) → r ≡ refusal_by route n m cones count words x s z entries rooms
  unfolding refusal_by
  refused_early r e h =
      let f : r ≡ ten = e ∙ seven-refused route n m cones count words (λ y. h (e ∙ y)) in
      f ∙ sym (first-given ten (or_else (cond room 0 11) (cond (fits_by route n m ps x s z && map_right route ps entries) 0 12)) (λ y. h (f ∙ y)))

  module _ (rows overlaps : ℕ) (c : Counted ps rows overlaps) (e : joined_refusal n m cones count words ≡ 0) where
    same : counted_refusal route n m rows overlaps x s z rooms ≡ before_map ten room (fits_by route n m ps x s z)
    unfolding counted_refusal before_map
    same =
        ap (λ (a : ℕ). or_else a (or_else (cond room 0 11) (cond (lengths_fit route n m rows overlaps x s z) 0 12)))
        (counted_rows route m ps rows overlaps c ∙ seven_passed route n m cones count words e)
        ∙ ap (λ (t : Bool). or_else ten (or_else (cond room 0 11) (cond t 0 12))) (counted_fits route n m rows overlaps ps c x s z)

    -- if no check fails, the blocks have at most 262144 rows
    pub counted_rows-few : (r : ℕ) → r ≡ counted_refusal route n m rows overlaps x s z rooms → r ≡ 0 → block_row_count ps ≤ 262144
    unfolding counted_refusal
    counted_rows-few r f y =
        let ten = (both_zero (cond (rows_fit route m rows overlaps) 0 10) (or_else (cond room 0 11) (cond (lengths_fit route n m rows overlaps x s z) 0 12)) (sym f ∙ y)).0 in
        subst (λ (k : ℕ). k ≤ 262144) c.0 (rows_few route m rows overlaps (passed 10 (check 10 (rows_fit route m rows overlaps) ∷ []) tt ten))

    -- if one of checks 10 to 12 fails, apart from the map, it gives the number
    pub refused_counted : (r : ℕ) → r ≡ counted_refusal route n m rows overlaps x s z rooms → (r ≡ 0 → ⊥) → r ≡ refusal_by route n m cones count words x s z entries rooms
    unfolding refusal_by before_map
    refused_counted r f h =
        f ∙ same ∙ (map_last ten room (fits_by route n m ps x s z) (map_right route ps entries)).0 (λ y. h (f ∙ same ∙ y))

    -- if none of them fails, the map decides
    pub by_map_lem : (r : ℕ) → r ≡ counted_refusal route n m rows overlaps x s z rooms → r ≡ 0
        → refusal_by route n m cones count words x s z entries rooms ≡ cond (map_right route ps entries) 0 12
    unfolding refusal_by before_map
    by_map_lem r f y = (map_last ten room (fits_by route n m ps x s z) (map_right route ps entries)).1 (sym same ∙ sym f ∙ y)

pub as_layout : (route : Route) (n m : ℕ) (cones : List ℕ) (count : ℕ) (words : List ℕ) (sol : Solution) (entries rooms : List ℕ)
    → refusal_by route n m cones count words (length sol.x) (length sol.s) (length sol.z) entries rooms
    ≡ join_refusal route n m cones count words sol entries rooms
unfolding refusal_by
as_layout route n m cones count words sol entries rooms = refl

-- ---- nothing is refused

-- what holds if nothing is refused: the solution can be joined, and the outputs have room
pub record Accepted (route : Route) (n m : ℕ) (cones : List ℕ) (count : ℕ) (words : List ℕ) (sol : Solution) (entries : List ℕ) (x s z k : ℕ) : Type 0 where
  pub joinable : Joinable route m cones count words sol.s sol.z
  pub columns : n ≤ length sol.x
  pub room_x : n ≤ x
  pub room_s : m ≤ s
  pub room_z : m ≤ z
  pub room_scalars : 2 ≤ k
  pub map_is : T (map_right route (joined_parts cones count words) entries)

pub join-accepted : (route : Route) (n m : ℕ) (cones : List ℕ) (count : ℕ) (words : List ℕ) (sol : Solution) (entries : List ℕ) (x s z k : ℕ)
    → join_refusal route n m cones count words sol entries (x ∷ s ∷ z ∷ k ∷ []) ≡ 0
    → Accepted route n m cones count words sol entries x s z k
join-accepted route n m cones count words sol entries x s z k e =
    let ps = joined_parts cones count words in
    let room : Bool = roomy (n ∷ m ∷ m ∷ 2 ∷ []) (x ∷ s ∷ z ∷ k ∷ []) in
    let fits : Bool = solution_fits route n m ps sol in
    let fit : Bool = fits && map_right route ps entries in
    let (ten, rest) = both_zero (join_checks route n m cones count words) (or_else (cond room 0 11) (cond fit 0 12)) e in
    let (eleven, twelve) = both_zero (cond room 0 11) (cond fit 0 12) rest in
    let rooms = simp (and_iff, leb_iff) at (passed 11 (check 11 room ∷ []) tt eleven) in
    let (lengths-right, map_is) = (and_iff fits (map_right route ps entries)).0 (passed 12 (check 12 fit ∷ []) tt twelve) in
    let lengths = simp (and_iff, eqb_iff) at lengths-right in
    let (sound, few) = checks_passed route n m cones count words ten in
    record {
      joinable = record { sound = sound; few = few; slacks = lengths.0.1; duals = lengths.1 };
      columns = omega (arith, lengths.0.0);
      room_x = rooms.0;
      room_s = rooms.1.0;
      room_z = rooms.1.1.0;
      room_scalars = rooms.1.1.1.0;
      map_is = map_is;
    }

-- ---- what is joined

module _ (n m : ℕ) (cones : List ℕ) (count : ℕ) (words : List ℕ) (x s z : List Float) (tau kappa : Float) where
  abbrev whole : Route → Solution
  whole route = joined route n m (joined_parts cones count words) (solution x s z tau kappa)

  -- x, τ and κ do not affect s and z
  pub joined-parts : (route : Route)
      → (take n x ≡ (whole route).x) × ((joined_of route m cones count words s z).s ≡ (whole route).s)
      × ((joined_of route m cones count words s z).z ≡ (whole route).z)
  joined-parts standard = (refl, refl, refl)
  joined-parts compact = (refl, refl, refl)

  pub joined-scalars : (route : Route) (t k : Float) → t ≡ one64 → k ≡ one64 → (t ∷ k ∷ []) ≡ scalars (whole route)
  joined-scalars standard t k e f = rw (e, f)
  joined-scalars compact t k e f = rw (e, f)

-- the route is standard exactly if its number is 0
pub by_number : (route : ℕ) → route_if (eqb route 0) ≡ route_of route
by_number zero = refl
by_number (suc k) = ap route_if (ne_eqb (suc k) 0 (λ e. omega arith))

-- a map that passes check 12 has the first row of each block
pub tells : (route m : ℕ) (cones : List ℕ) (count : ℕ) (words entries : List ℕ) → T (map_right (route_of route) (joined_parts cones count words) entries)
    → Starts (eqb route 0) entries 0 (first_of (eqb route 0) m) (block_sizes (joined_parts cones count words))
tells zero m cones count words entries h = tt
tells (suc k) m cones count words entries h =
    let ps = joined_parts cones count words in
    subst (λ (b : Bool). Starts b entries 0 (first_of b m) (block_sizes ps)) (sym (ne_eqb (suc k) 0 (λ e. omega arith)))
    (subst (λ (ws : List ℕ). Starts false ws 0 0 (block_sizes ps)) (sym (numbers_equal entries (map_words (cone_map ps)) h)) (map_tells false ps))
