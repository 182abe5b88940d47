-- The change of route: the result is a compact solution of the same problem, and s has the same exact totals by original row.
use Prim.Native.Nat.{ℕ, zero, suc, ◌+◌, ◌<◌}
use native.Mathlib.Omega.{arith}
use mathlib.Core.Path.{◌≡◌, refl, sym, ap, ap₂, subst, ◌∙◌}
use mathlib.Core.Bool.{Bool, true, false, cond, ◌&&◌}
use mathlib.Core.List.{List, [], ◌∷◌, ◌++◌}
use lib.ListN.{length, get_or, take, drop, replicate, length-append, length-map, length-drop, length-replicate}
use lib.Seq.{length-take-le, drop-drop}
use lib.Dec.{T}
use lib.Ieee.{Float, nan}
use Rattle.layout.specs.General.Lists.{all, sum, written}
use Rattle.layout.specs.General.Floats.{zero64, finite, count as count₆₄}
use Rattle.layout.specs.Problems.Problem.{standard, compact, Solution}
use Rattle.layout.specs.Rows.Blocks.{Part, block_row_count}
use Rattle.layout.specs.Checks.{Sound, Check, check, first_failing, check10}
use Rattle.layout.specs.Equations.Equations.{compact_totals}
use Rattle.layout.specs.Calls.ChangeRoute.{changed, changed_sizes, change_refusal, counts, standard_totals, RouteChanged, ChangeRoute, held}
use Rattle.layout.specs.Rows.Orders.{block_lengths, compact_order}
use Rattle.layout.specs.Calls.Answers.{or_else, roomy}
use Rattle.layout.specs.Calls.Join.{joined_parts, added_count, slack_count, solution_fits, map_right, join_checks, join_refusal, scalars, Rejoined, rejoined_rooms}
use Rattle.layout.proofs.Lists.Tests.{and_iff, eqb_iff}
use Rattle.layout.proofs.Checks.Accepted.{join_tests, join-sound}
use Rattle.layout.proofs.Checks.Order.{passing, passed, none_fails, or_else-zero}
use Rattle.layout.proofs.Rows.Laid.{sound-laid, sound-rows}
use Rattle.layout.proofs.Lists.Buffers.{take-written}
use Rattle.layout.proofs.Rows.Orders.{length_compact, compact_map, all_compact, block-moved}
use Rattle.layout.proofs.Equations.Totals.{same_totals}

-- where checks 11 and 12 pass, the number is that of the checks before them
last : (a : ℕ) (room fit : Bool) → T room → T fit → or_else a (or_else (cond room 0 11) (cond fit 0 12)) ≡ a
last zero true true r f = refl
last zero true false r f = absurd f
last zero false fit r f = absurd r
last (suc a) room fit r f = refl

-- ---- a change that is not refused

module _ (n m : ℕ) (cones : List ℕ) (count : ℕ) (words : List ℕ) (sol : Solution) (rooms : List ℕ)
    (ok : change_refusal n m cones count words sol rooms ≡ 0) where
  abbrev ps : List Part
  ps = joined_parts cones count words

  abbrev overlaps_few : Bool
  overlaps_few = check10 compact m ps

  abbrev room_enough : Bool
  room_enough = roomy (changed_sizes n m ps) rooms

  abbrev fits : Bool
  fits = solution_fits standard n m ps sol

  -- each check passes
  pub change_checked : (join_checks standard n m cones count words ≡ 0) × T (check10 compact m (joined_parts cones count words))
      × T (roomy (changed_sizes n m (joined_parts cones count words)) rooms) × T (solution_fits standard n m (joined_parts cones count words) sol)
  change_checked =
      let later : List Check = check 10 overlaps_few ∷ check 11 room_enough ∷ check 12 fits ∷ [] in
      let (joins, rest) = (or_else-zero (join_checks standard n m cones count words) (first_failing later)).0 ok in
      (joins, passed 10 later tt rest, passed 11 later tt rest, passed 12 later tt rest)

  pub change_sound : Sound m cones count words
  change_sound = join-sound standard n m cones count words change_checked.0

  -- the standard solution's lengths
  lengths : (length sol.x ≡ n + block_row_count ps) × (length sol.s ≡ m + block_row_count ps) × (length sol.z ≡ m + block_row_count ps)
  lengths = let k = simp (and_iff, eqb_iff) at change_checked.3 in (k.0.0, k.0.1, k.1)

  after_s : length (drop m sol.s) ≡ block_row_count ps
  after_s = omega (arith, length-drop m sol.s, lengths.1)

  after_z : length (drop m sol.z) ≡ block_row_count ps
  after_z = omega (arith, length-drop m sol.z, lengths.2)

  x_long : length (changed n m ps sol).x ≡ n + added_count compact ps
  x_long =
      length-append (take n sol.x) (replicate (added_count compact ps) zero64)
      ∙ ap₂ ◌+◌ (length-take-le n sol.x (omega (arith, lengths.0))) (length-replicate (added_count compact ps) zero64)

  s_long : length (changed n m ps sol).s ≡ slack_count compact m ps
  s_long = length_compact ps (drop m sol.s) after_s

  z_long : length (changed n m ps sol).z ≡ slack_count compact m ps
  z_long = length_compact ps (drop m sol.z) after_z

  -- the result's lengths are those that check 11 asks for
  pub changed-sizes : let a = changed n m (joined_parts cones count words) sol in
      length a.x ∷ length a.s ∷ length a.z ∷ length (scalars a) ∷ [] ≡ changed_sizes n m (joined_parts cones count words)
  changed-sizes = λ i. x_long i ∷ s_long i ∷ z_long i ∷ 2 ∷ []

  -- and those that a compact joining of the same problem asks for
  changed-fits : T (solution_fits compact n m (joined_parts cones count words) (changed n m (joined_parts cones count words) sol))
  changed-fits = simp (and_iff, eqb_iff) ((x_long, s_long), z_long)

  -- checks 1 to 10 of a compact joining pass
  changed_taken : join_checks compact n m cones count words ≡ 0
  changed_taken =
      none_fails (join_tests compact n m cones count words) (test 1, (test 4, (test 5, (test 6, (test 7, (change_checked.1, tt))))))
    where
      test : (k : ℕ) → T (passing k (join_tests standard n m cones count words))
      test k = passed k (join_tests standard n m cones count words) tt change_checked.0

  -- a compact joining of the result is accepted, given the right cone map and long enough outputs
  changed-joined : (entries rooms' : List ℕ) → T (map_right compact (joined_parts cones count words) entries)
      → T (roomy (n ∷ m ∷ m ∷ 2 ∷ []) rooms')
      → join_refusal compact n m cones count words (changed n m (joined_parts cones count words) sol) entries rooms' ≡ 0
  changed-joined entries rooms' map' room =
      last (join_checks compact n m cones count words) (roomy (n ∷ m ∷ m ∷ 2 ∷ []) rooms')
      (solution_fits compact n m ps (changed n m ps sol) && map_right compact ps entries) room
      ((and_iff (solution_fits compact n m ps (changed n m ps sol)) (map_right compact ps entries)).1 (changed-fits, map'))
      ∙ changed_taken

  -- a block of s or of z is moved unchanged
  block-changed : (vs : List Float) → length (drop m vs) ≡ block_row_count ps
      → (qs : List Part) (x : Part) (rs : List Part) (c : ℕ) → ps ≡ qs ++ (x ∷ rs) → c < length (block_lengths x)
      → let ks = block_lengths x in
      take (get_or ks c 0) (drop (block_row_count qs + sum (drop (suc c) ks)) (compact_order ps (drop m vs)))
      ≡ take (get_or ks c 0) (drop (m + (block_row_count qs + sum (take c ks))) vs)
  block-changed vs long qs x rs c e l =
      let ks = block_lengths x in
      ap (λ (qq : List Part). take (get_or ks c 0) (drop (block_row_count qs + sum (drop (suc c) ks)) (compact_order qq (drop m vs)))) e
      ∙ block-moved qs x rs (drop m vs) c (long ∙ ap block_row_count e) l
      ∙ ap (take (get_or ks c 0)) (drop-drop (block_row_count qs + sum (take c ks)) m vs)

  -- finite values stay finite, and the exact total of s at each original row is the same
  pub changed-finite : T (all finite (drop m sol.s)) → T (all finite (changed n m (joined_parts cones count words) sol).s)
  changed-finite h = all_compact finite ps (drop m sol.s) h

  pub changed-totals : T (all finite (drop m sol.s))
      → compact_totals m (joined_parts cones count words) (counts (changed n m (joined_parts cones count words) sol).s)
      ≡ standard_totals m (joined_parts cones count words) (counts (drop m sol.s))
  changed-totals h =
      ap (compact_totals m ps) (sym (compact_map count₆₄ ps (drop m sol.s)))
      ∙ same_totals m ps (sound-laid change_sound).0 (sound-rows change_sound) (counts (drop m sol.s))
      (length-map (drop m sol.s) count₆₄ ∙ after_s)

  -- what Q-12 asks to be proved
  route_changed : RouteChanged n m (joined_parts cones count words) sol (changed n m (joined_parts cones count words) sol)
  route_changed = record {
    fits = changed-fits;
    unknowns = refl;
    scalars = (refl, refl);
    blocks = λ qs x rs c e l. (block-changed sol.s after_s qs x rs c e l, block-changed sol.z after_z qs x rs c e l);
    totals = changed-totals;
  }

-- ---- on the call's outputs

-- From the contract of the call, where it returns 0: its outputs contain a compact solution with the properties above, which a compact
-- joining accepts.
module _ (n m : ℕ) (cones : List ℕ) (count : ℕ) (words : List ℕ) (sol : Solution) (before after : Rejoined)
    (given : ChangeRoute n m cones count words sol before after 0) where
  abbrev answer : Solution
  answer = changed n m (joined_parts cones count words) sol

  ok : change_refusal n m cones count words sol (rejoined_rooms before) ≡ 0
  ok = sym given.number

  front : (xs old new : List Float) (k : ℕ) → k ≡ length xs → new ≡ written xs old → take k new ≡ xs
  front xs old new k e w = ap₂ take e w ∙ take-written xs old

  held-changed : held n m (joined_parts cones count words) after ≡ changed n m (joined_parts cones count words) sol
  held-changed =
      let ps = joined_parts cones count words in
      let x-front = front answer.x before.x after.x (n + added_count compact ps) (sym (x_long n m cones count words sol (rejoined_rooms before) ok)) given.tables.x in
      let s-front = front answer.s before.s after.s (slack_count compact m ps) (sym (s_long n m cones count words sol (rejoined_rooms before) ok)) given.tables.s in
      let z-front = front answer.z before.z after.z (slack_count compact m ps) (sym (z_long n m cones count words sol (rejoined_rooms before) ok)) given.tables.z in
      λ i. record {
        x = x-front i;
        s = s-front i;
        z = z-front i;
        tau = get_or (given.tables.scalars i) 0 nan;
        kappa = get_or (given.tables.scalars i) 1 nan;
      }

  pub changed-written : RouteChanged n m (joined_parts cones count words) sol (held n m (joined_parts cones count words) after)
      × ((entries rooms' : List ℕ) → T (map_right compact (joined_parts cones count words) entries) → T (roomy (n ∷ m ∷ m ∷ 2 ∷ []) rooms')
      → join_refusal compact n m cones count words (held n m (joined_parts cones count words) after) entries rooms' ≡ 0)
  changed-written = (
    subst (RouteChanged n m (joined_parts cones count words) sol) (sym held-changed) (route_changed n m cones count words sol (rejoined_rooms before) ok),
    λ entries rooms' map' room. ap (λ (a : Solution). join_refusal compact n m cones count words a entries rooms') held-changed
        ∙ changed-joined n m cones count words sol (rejoined_rooms before) ok entries rooms' map' room,
  )
