-- The s that the compact joining returns, row by row: the recursive sum of its blocks' values, or a copy. Its errors are those of the sum,
-- and it depends only on the values of its own augmented rows.
use Prim.Native.Nat.{ℕ, zero, suc, ◌+◌, ◌*◌, ◌^◌, ◌≤◌, ◌<◌, zero-le, suc-le-suc}
use native.Mathlib.Nat.{le_trans, le_of_suc-le-suc, not-suc-le-zero, mul-le-mul_right}
use native.Mathlib.Omega.{arith}
use mathlib.Core.Path.{◌≡◌, refl, sym, ap, subst, ◌∙◌}
use mathlib.Core.Logic.{◌⊎◌, inl, inr}
use mathlib.Core.Bool.{Bool, true, false, not, cond, ◌&&◌}
use mathlib.Core.List.{List, [], ◌∷◌}
use lib.ListN.{length, get_or, set, drop, replicate, length-set, length-replicate, get_or-replicate, get_or-eq_default, get_or-append}
use lib.Dec.{T, T_not, not_T, eqb}
use lib.IntN.{ℤ, neg_ℤ, ◌+ℤ◌, ◌-ℤ◌}
use lib.Ieee.{Float, nan, add, fits, binary64}
use Rattle.layout.specs.General.Lists.{all, walk}
use Rattle.layout.specs.General.Floats.{zero64, finite, Doubles, count, magnitude, left_sum, exact_sum, magnitudes}
use Rattle.layout.specs.Problems.Problem.{compact, Solution}
use Rattle.layout.specs.Rows.Blocks.{Part, parts, Row, kept, owned, overlap, original_row, compact_rows, block_row_count}
use Rattle.layout.specs.Problems.Cones.{records}
use Rattle.layout.specs.Problems.Patterns.{patterns}
use Rattle.layout.specs.Checks.{Sound, check}
use Rattle.layout.specs.Joinings.Reverse.{add_at, add_row, add_rows}
use Rattle.layout.specs.Calls.Answers.{output, or_else, roomy}
use Rattle.layout.specs.Calls.Join.{joined_parts, solution_fits, map_right, join_checks, joined, Rejoined, rejoined_rooms, Join}
use Rattle.layout.specs.Equations.Rounding.{adds, copies, decomposed, terms_at, error_bound, returned, RoundingErrors, OneMoved}
use Rattle.layout.proofs.Lists.Tests.{and_iff, eqb_iff, lt_or_le, cond_passed, cond_failed}
use Rattle.layout.proofs.Checks.Order.{or_else-zero, passed}
use Rattle.layout.proofs.Checks.Accepted.{join-sound}
use Rattle.layout.proofs.Lists.Members.{all-at, set-read, all_set}
use Rattle.layout.proofs.Lists.Walks.{length-walk}
use Rattle.layout.proofs.Numbers.Integers.{linear}
use Rattle.layout.proofs.Floats.Magnitudes.{magnitude-neg, magnitude-add}
use Rattle.layout.proofs.Rows.Moves.{row_at, RightRows}
use Rattle.layout.proofs.Equations.RowTerms.{adds_there, copies_there, terms_few, terms_fit, sum-moves}
use Rattle.layout.proofs.Rows.Laid.{sound-rows, sound-count}
use Rattle.layout.proofs.Rows.BlockCounts.{blocks_counted}
use Rattle.layout.proofs.Floats.Summation.{finite_terms, summation_error}

-- ---- one original row

-- the value at original row o, before it a, after an augmented row x with value v
abbrev at_row : ℕ → Row → Float → Float → Float
at_row o x v a = cond (copies o x) v (cond (adds o x) (add binary64 a v) a)

elsewhere : (o : ℕ) (x : Row) (v a : Float) → (original_row x ≡ o → ⊥) → at_row o x v a ≡ a
elsewhere o x v a h =
    cond_failed (copies o x) v (cond (adds o x) (add binary64 a v) a) (λ c. h (ap original_row (copies_there o x c)))
    ∙ cond_failed (adds o x) (add binary64 a v) a (λ c. h (adds_there o x c))

added-at : (o q : ℕ) (v : Float) (ws : List Float) → o < length ws
    → get_or (add_at q v ws) o nan ≡ cond (eqb q o) (add binary64 (get_or ws o nan) v) (get_or ws o nan)
added-at o q v ws l =
    let sum : ℕ → Float = λ k. add binary64 (get_or ws k nan) v in
    set-read ws q o (sum q) (sum o) nan l (λ e. ap sum e)

row-at : (o : ℕ) (x : Row) (v : Float) (ws : List Float) → o < length ws → get_or (add_row x v ws) o nan ≡ at_row o x v (get_or ws o nan)
row-at o (kept q) v ws l = set-read ws q o v v nan l (λ e. refl)
row-at o (owned q) v ws l = added-at o q v ws l
row-at o (overlap q r) v ws l = added-at o q v ws l

row-length : (x : Row) (v : Float) (ws : List Float) → length (add_row x v ws) ≡ length ws
row-length (kept q) v ws = length-set ws q v
row-length (owned q) v ws = length-set ws q (add binary64 (get_or ws q nan) v)
row-length (overlap q r) v ws = length-set ws q (add binary64 (get_or ws q nan) v)

rows_at : (o : ℕ) (R : List Row) (s ws : List Float) → o < length ws → get_or (add_rows R s ws) o nan ≡ walk (at_row o) R s (get_or ws o nan)
rows_at o [] s ws l = refl
rows_at o (x ∷ R) [] ws l = refl
rows_at o (x ∷ R) (v ∷ s) ws l =
    rows_at o R s (add_row x v ws) (omega (arith, row-length x v ws)) ∙ ap (walk (at_row o) R s) (row-at o x v ws l)

-- ---- a row that is not in an undecomposed cone is summed

terms_summed : (o : ℕ) (R : List Row) (s : List Float) (a : Float) → T (decomposed o R) → walk (at_row o) R s a ≡ left_sum a (terms_at o R s)
terms_summed o [] s a h = refl
terms_summed o (x ∷ R) [] a h = refl
terms_summed o (x ∷ R) (v ∷ s) a h =
    let (here, later) = (and_iff (not (copies o x)) (decomposed o R)).0 h in
    ap (walk (at_row o) R s) (cond_failed (copies o x) v (cond (adds o x) (add binary64 a v) a) (T_not (copies o x) here))
    ∙ terms_summed o R s (cond (adds o x) (add binary64 a v) a) later
    ∙ pick (adds o x)
  where
    pick : (b : Bool) → left_sum (cond b (add binary64 a v) a) (terms_at o R s)
        ≡ left_sum a (cond b (v ∷ terms_at o R s) (terms_at o R s))
    pick true = refl
    pick false = refl

-- ---- one value of s becomes v

-- at an augmented row that represents another original row
walk_other : (o : ℕ) (R : List Row) (s : List Float) (r : ℕ) (v a : Float) → (original_row (row_at R r) ≡ o → ⊥)
    → walk (at_row o) R (set s r v) a ≡ walk (at_row o) R s a
walk_other o [] s r v a h = refl
walk_other o (x ∷ R) [] r v a h = refl
walk_other o (x ∷ R) (u ∷ s) zero v a h = ap (walk (at_row o) R s) (elsewhere o x v a h ∙ sym (elsewhere o x u a h))
walk_other o (x ∷ R) (u ∷ s) (suc r) v a h = walk_other o R s r v (at_row o x u a) h

-- ---- a kept row is copied

idle : (o : ℕ) (R : List Row) (s : List Float) (a : Float) → ((q : ℕ) → q < length R → original_row (row_at R q) ≡ o → ⊥)
    → walk (at_row o) R s a ≡ a
idle o [] s a h = refl
idle o (x ∷ R) [] a h = refl
idle o (x ∷ R) (v ∷ s) a h =
    idle o R s (at_row o x v a) (λ q l. h (suc q) (suc-le-suc l)) ∙ elsewhere o x v a (h 0 (suc-le-suc zero-le))

walk-copied : (o : ℕ) (R : List Row) (s : List Float) (r : ℕ) (a : Float) → r < length R → r < length s → T (copies o (row_at R r))
    → ((q : ℕ) → q < length R → original_row (row_at R q) ≡ o → q ≡ r) → walk (at_row o) R s a ≡ get_or s r nan
walk-copied o [] s r a l m h alone = absurd (not-suc-le-zero l)
walk-copied o (x ∷ R) [] r a l m h alone = absurd (not-suc-le-zero m)
walk-copied o (x ∷ R) (v ∷ s) zero a l m h alone =
    ap (walk (at_row o) R s) (cond_passed (copies o x) v (cond (adds o x) (add binary64 a v) a) h)
    ∙ idle o R s v (λ q i e. let same = alone (suc q) (suc-le-suc i) e in absurd (omega arith))
walk-copied o (x ∷ R) (v ∷ s) (suc r) a l m h alone =
    walk-copied o R s r (at_row o x v a) (le_of_suc-le-suc l) (le_of_suc-le-suc m) h
    (λ q i e. let same = alone (suc q) (suc-le-suc i) e in omega arith)

-- ---- the s that is returned

returned-length : (m : ℕ) (ps : List Part) (s : List Float) → length (add_rows (compact_rows ps) s (replicate m zero64)) ≡ m
returned-length m ps s = length-walk add_row row-length (compact_rows ps) s (replicate m zero64) ∙ length-replicate m zero64

-- it is in the output of a joining that refuses nothing
returned-written : (n m : ℕ) (ps : List Part) (sol : Solution) (out old : List Float) (r o : ℕ) → r ≡ 0
    → out ≡ output r (joined compact n m ps sol).s old → o < m → get_or out o nan ≡ returned m ps sol.s o
returned-written n m ps sol out old r o e w l =
    let new : List Float = (joined compact n m ps sol).s in
    ap (λ (ws : List Float). get_or ws o nan) (w ∙ ap (λ (k : ℕ). output k new old) e)
    ∙ get_or-append new (drop (length new) old) nan o (omega (arith, returned-length m ps sol.s))

module _ (m : ℕ) (ps : List Part) where
  abbrev R : List Row
  R = compact_rows ps

  returned-inside : (s : List Float) (o : ℕ) → o < m → returned m ps s o ≡ walk (at_row o) R s zero64
  returned-inside s o l =
      rows_at o R s (replicate m zero64) (omega (arith, length-replicate m zero64))
      ∙ ap (walk (at_row o) R s) (get_or-replicate m o zero64 nan l)

  returned_outside : (s : List Float) (o : ℕ) → m ≤ o → returned m ps s o ≡ nan
  returned_outside s o l =
      get_or-eq_default (add_rows R s (replicate m zero64)) nan (omega (arith, returned-length m ps s))

  -- a finite result at a row that is not in an undecomposed cone is a sum
  returned-sum : (s : List Float) (o : ℕ) → T (decomposed o R) → T (finite (returned m ps s o))
      → returned m ps s o ≡ left_sum zero64 (terms_at o R s)
  returned-sum s o whole fin = elim (lt_or_le o m) [
    | inl l ↦ returned-inside s o l ∙ terms_summed o R s zero64 whole
    | inr l ↦ absurd (subst (λ (x : Float). T (finite x)) (returned_outside s o l) fin)
  ]

  pub returned-finite : (s : List Float) (o : ℕ) → T (decomposed o (compact_rows ps)) → T (finite (returned m ps s o))
      → T (all finite (terms_at o (compact_rows ps) s))
  returned-finite s o whole fin =
      finite_terms zero64 (terms_at o R s) (subst (λ (x : Float). T (finite x)) (returned-sum s o whole fin) fin)

  returned_error : (s : List Float) → Doubles s → (o : ℕ) → T (decomposed o R) → T (finite (returned m ps s o))
      → 2 ^ 53 * magnitude (count (returned m ps s o) -ℤ exact_sum (terms_at o R s)) ≤ error_bound o R s
  returned_error s doubles o whole fin =
      let same = returned-sum s o whole fin in
      subst (λ (x : Float). 2 ^ 53 * magnitude (count x -ℤ exact_sum (terms_at o R s)) ≤ error_bound o R s) (sym same)
      (le_trans (summation_error (terms_at o R s) (terms_fit o R s doubles) (subst (λ (x : Float). T (finite x)) same fin))
      (mul-le-mul_right (magnitudes (terms_at o R s)) (terms_few o R s)))

  module _ (right : RightRows 0 0 m (compact_rows ps)) where
    -- where a block adds to an original row, no row is copied to it
    added-decomposed : (r o : ℕ) → r < length (compact_rows ps) → T (adds o (row_at (compact_rows ps) r)) → T (decomposed o (compact_rows ps))
    added-decomposed r o l h = (all-at (kept 0) (λ x. not (copies o x)) R).1 (λ q i. not_T (copies o (row_at R q)) (λ c.
        let e = copies_there o (row_at R q) c in
        let same = right.alone q r o i l e (adds_there o (row_at R r) h) in
        subst (λ (x : Row). T (adds o x)) (ap (row_at R) same ∙ e) h))

    rounding_errors : (s : List Float) → length s ≡ length (compact_rows ps) → Doubles s → RoundingErrors m ps s
    rounding_errors s long doubles = record {
      blocks = λ o. blocks_counted o ps;
      bounded = returned_error s doubles;
      moved = λ r o v l h fit before after.
          let t : List Float = set s r v in
          let dec = added-decomposed r o l h in
          far (count (returned m ps t o)) (count (returned m ps s o)) (exact_sum (terms_at o R t)) (exact_sum (terms_at o R s))
          (count v -ℤ count (get_or s r nan)) (error_bound o R s) (error_bound o R t) (sum-moves o R s r v l (omega arith) h)
          (returned_error s doubles o dec before) (returned_error t (all_set (fits binary64) s r v doubles fit) o dec after);
      others = λ r o v h. other r o v h (lt_or_le o m);
      copied = λ r o l h.
          let e = copies_there o (row_at R r) h in
          returned-inside s o (subst (λ (k : ℕ). k < m) (ap original_row e) (right.inside r l).1)
          ∙ walk-copied o R s r zero64 l (omega arith) h (λ q i same. right.alone r q o l i e same);
    }
      where
        far : (a b f e d : ℤ) (x y : ℕ) → f -ℤ e ≡ d → 2 ^ 53 * magnitude (b -ℤ e) ≤ x → 2 ^ 53 * magnitude (a -ℤ f) ≤ y
            → 2 ^ 53 * magnitude (a -ℤ b) ≤ 2 ^ 53 * magnitude d + (x + y)
        far a b f e d x y moves before after =
            let split : a -ℤ b ≡ (a -ℤ f) +ℤ (d -ℤ (b -ℤ e)) = parts a b f e ∙ ap (λ (z : ℤ). (a -ℤ f) +ℤ (z -ℤ (b -ℤ e))) moves in
            subst (λ (z : ℤ). 2 ^ 53 * magnitude z ≤ 2 ^ 53 * magnitude d + (x + y)) (sym split)
            (omega (arith, magnitude-add (a -ℤ f) (d -ℤ (b -ℤ e)), magnitude-add d (neg_ℤ (b -ℤ e)), magnitude-neg (b -ℤ e)))
          where
            parts : (a b f e : ℤ) → a -ℤ b ≡ (a -ℤ f) +ℤ ((f -ℤ e) -ℤ (b -ℤ e))
            parts a b f e = simp linear

        other : (r o : ℕ) (v : Float) → (original_row (row_at R r) ≡ o → ⊥) → (o < m) ⊎ (m ≤ o)
            → returned m ps (set s r v) o ≡ returned m ps s o
        other r o v h (inl l) = returned-inside (set s r v) o l ∙ walk_other o R s r v zero64 h ∙ sym (returned-inside s o l)
        other r o v h (inr l) = returned_outside (set s r v) o l ∙ sym (returned_outside s o l)

-- the checks of a joining are enough for the rounding bounds
pub sound_rounding : {m : ℕ} {cones : List ℕ} {count : ℕ} {words : List ℕ} → Sound m cones count words
    → let ps = parts (records cones) (patterns count words) in
    (s : List Float) → length s ≡ block_row_count ps → Doubles s → RoundingErrors m ps s
sound_rounding {m} {cones} {count} {words} sound s long doubles =
    rounding_errors m (parts (records cones) (patterns count words)) (sound-rows sound) s (long ∙ sym (sound-count sound)) doubles

-- ---- on the outputs of a joining

-- What holds for the outputs of a compact joining of one solution that is not refused.
record SummedRows (m : ℕ) (ps : List Part) (sol : Solution) (out : Rejoined) : Type 0 where
  rows : RightRows 0 0 m (compact_rows ps)
  long : length sol.s ≡ length (compact_rows ps)
  errors : RoundingErrors m ps sol.s
  written : (o : ℕ) → o < m → get_or out.s o nan ≡ returned m ps sol.s o

rounding_written : (n m : ℕ) (cones : List ℕ) (count : ℕ) (words : List ℕ) (sol : Solution) (map : List ℕ) (before after : Rejoined)
    → Join 1 n m cones count words sol map before after 0 → SummedRows m (joined_parts cones count words) sol after
rounding_written n m cones count words sol map before after call =
    let ps = joined_parts cones count words in
    let fits : Bool = solution_fits compact n m ps sol in
    let eleven : ℕ = cond (roomy (n ∷ m ∷ m ∷ 2 ∷ []) (rejoined_rooms before)) 0 11 in
    let twelve : ℕ = cond (fits && map_right compact ps map) 0 12 in
    let (joins, rest) = (or_else-zero (join_checks compact n m cones count words) (or_else eleven twelve)).0 (sym call.number) in
    let map-fits = passed 12 (check 12 (fits && map_right compact ps map) ∷ []) tt ((or_else-zero eleven twelve).0 rest).1 in
    let lengths = simp (and_iff, eqb_iff) at ((and_iff fits (map_right compact ps map)).0 map-fits).0 in
    let sound = join-sound compact n m cones count words joins in record {
      rows = sound-rows sound;
      long = lengths.0.1 ∙ sym (sound-count sound);
      errors = sound_rounding sound sol.s lengths.0.1 call.doubles;
      written = λ o l. returned-written n m ps sol after.s before.s 0 o refl call.tables.s l;
    }

-- the bound of Q-9, with equal values and lists substituted
near : (o r : ℕ) (rows : List Row) (s t u : List Float) (x x' y y' : Float) → x ≡ x' → y ≡ y' → u ≡ t
    → 2 ^ 53 * magnitude (count x -ℤ count y) ≤ 2 ^ 53 * magnitude (count (get_or t r nan) -ℤ count (get_or s r nan)) + (error_bound o rows s + error_bound o rows u)
    → 2 ^ 53 * magnitude (count x' -ℤ count y') ≤ 2 ^ 53 * magnitude (count (get_or t r nan) -ℤ count (get_or s r nan)) + (error_bound o rows s + error_bound o rows t)
near o r rows s t u x x' y y' e f g h =
    let bound : List Float → ℕ = λ w. 2 ^ 53 * magnitude (count (get_or t r nan) -ℤ count (get_or s r nan)) + (error_bound o rows s + error_bound o rows w) in
    subst (λ (w : List Float). 2 ^ 53 * magnitude (count x' -ℤ count y') ≤ bound w) g
    (subst (λ (b : Float). 2 ^ 53 * magnitude (count x' -ℤ count b) ≤ bound u) f
    (subst (λ (a : Float). 2 ^ 53 * magnitude (count a -ℤ count y) ≤ bound u) e h))

-- Q-9 on the outputs of two compact joinings of solutions that differ in the block value at augmented row r: the premises are the call's contract.
pub moved-written : (n m : ℕ) (cones : List ℕ) (k : ℕ) (words : List ℕ) (sol other : Solution) (map map' : List ℕ)
    (before after before' after' : Rejoined) (r : ℕ)
    → Join 1 n m cones k words sol map before after 0 → Join 1 n m cones k words other map' before' after' 0
    → r < length sol.s → other.s ≡ set sol.s r (get_or other.s r nan)
    → OneMoved m (joined_parts cones k words) r sol.s other.s after.s after'.s
moved-written n m cones k words sol other map map' before after before' after' r call call' l same =
    let ps = joined_parts cones k words in
    let v = get_or other.s r nan in
    let a = rounding_written n m cones k words sol map before after call in
    let b = rounding_written n m cones k words other map' before' after' call' in
    let moved_at : (o : ℕ) → o < m → get_or after'.s o nan ≡ returned m ps (set sol.s r v) o =
    λ o i. b.written o i ∙ ap (λ (s : List Float). returned m ps s o) same in
    let inside : (q o : ℕ) → q < length (compact_rows ps) → original_row (row_at (compact_rows ps) q) ≡ o → o < m =
    λ q o i e. subst (λ (j : ℕ). j < m) e (a.rows.inside q i).1 in record {
      bounded = λ o i whole fin.
          subst (λ (x : Float). 2 ^ 53 * magnitude (count x -ℤ exact_sum (terms_at o (compact_rows ps) sol.s)) ≤ error_bound o (compact_rows ps) sol.s)
          (sym (a.written o i)) (a.errors.bounded o whole (subst (λ (x : Float). T (finite x)) (a.written o i) fin));
      moves = λ o h fin fin'.
          let rr = subst (λ (j : ℕ). r < j) a.long l in
          let at = inside r o rr (adds_there o (row_at (compact_rows ps) r) h) in
          let long' : length other.s ≡ length sol.s = ap length same ∙ length-set sol.s r v in
          let whole = a.errors.moved r o v rr h ((all-at nan (fits binary64) other.s).0 call'.doubles r (omega (arith, l, long')))
          (subst (λ (x : Float). T (finite x)) (a.written o at) fin) (subst (λ (x : Float). T (finite x)) (moved_at o at) fin') in
          near o r (compact_rows ps) sol.s other.s (set sol.s r v) _ _ _ _ (sym (moved_at o at)) (sym (a.written o at)) (sym same) whole;
      others = λ o i h. moved_at o i ∙ a.errors.others r o v h ∙ sym (a.written o i);
      copied = λ q o i h. a.written o (inside q o i (ap original_row (copies_there o (row_at (compact_rows ps) q) h))) ∙ a.errors.copied q o i h;
    }
