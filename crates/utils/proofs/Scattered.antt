-- Consecutive numbers written at the indices that a list gives: for a duplicate-free list the number at index w is the position of w
-- in the list, so a permutation gives its inverse.
use Prim.Native.Nat.{ℕ, suc, ◌+◌, ◌≤◌, ◌<◌}
use native.Mathlib.Numerals.{add-one}
use native.Mathlib.Omega.{arith}
use mathlib.Core.Path.{◌≡◌, refl, sym, ap, subst, ◌∙◌}
use mathlib.Core.Logic.{inl, inr}
use mathlib.Core.Bool.{Bool, true, false, cond}
use mathlib.Core.List.{List, [], ◌∷◌}
use lib.ListN.{length, get_or, drop, set, length-set, length-map, drop_of_length-le}
use lib.Seq.{drop-cons, get_or-set_same, get_or-set_other, ext_get_or}
use lib.Dec.{T, eqb}
use borrow.Author.Tests.{eqb-true, eqb-false}
use Rattle.layout.specs.General.Lists.{has, distinct, below, written, Below, place_of, is_permutation}
use Rattle.layout.specs.Calls.Inverse.{inverse}
use Rattle.layout.proofs.Lists.Tests.{lt_or_le}
use Rattle.layout.proofs.Lists.Members.{place_found, has-cons, has-at, has_get_or, has-below, length-below, get_or-below, get_or_map}
use Rattle.layout.proofs.Lists.Distinct.{distinct_cons, distinct-length, permutation-distinct, permutation-has}
use Rattle.layout.proofs.Lists.Starts.{length-written, written_front, written-rest}
use Rattle.utils.specs.Scattered.{scattered}

-- ---- positions

-- a member of a list that differs from the first is a member of the rest
has_rest : (w x : ℕ) (xs : List ℕ) → (w ≡ x → ⊥) → T (has w (x ∷ xs)) → T (has w xs)
has_rest w x xs n h = elim ((has-cons w x xs).0 h) [ inl e ↦ absurd (n e) | inr k ↦ k ]

-- ---- one number at a time

pub length-scattered : (k : ℕ) (xs old : List ℕ) → length (scattered k xs old) ≡ length old
length-scattered k [] old = refl
length-scattered k (x ∷ xs) old = length-scattered (suc k) xs (set old x k) ∙ length-set old x k

-- writing number i leaves the numbers from i + 1 on to write
pub scattered-step : (xs old : List ℕ) (i : ℕ) → i < length xs → scattered i (drop i xs) old ≡ scattered (i + 1) (drop (i + 1) xs) (set old (get_or xs i 0) i)
scattered-step xs old i h = rw (add-one, drop-cons xs i 0 h)

pub scattered-done : (xs old : List ℕ) (i : ℕ) → length xs ≤ i → scattered i (drop i xs) old ≡ old
scattered-done xs old i h = rw (drop_of_length-le xs h)

-- ---- the result

-- an index that is not in the list is unchanged
pub scattered_other : (k : ℕ) (xs old : List ℕ) (w d : ℕ) → (T (has w xs) → ⊥) → get_or (scattered k xs old) w d ≡ get_or old w d
scattered_other k [] old w d out = refl
scattered_other k (x ∷ xs) old w d out =
    scattered_other (suc k) xs (set old x k) w d (λ h. out ((has-cons w x xs).1 (inr h)))
    ∙ get_or-set_other old x w k d (λ e. out ((has-cons w x xs).1 (inl e)))

-- for a duplicate-free list, the number at a member is k plus the member's position
scattered-at : (k : ℕ) (xs old : List ℕ) (w d : ℕ) → T (distinct xs) → T (has w xs) → w < length old
    → get_or (scattered k xs old) w d ≡ k + place_of w xs
scattered-at k [] old w d once h l = absurd h
scattered-at k (x ∷ xs) old w d once h l =
    go (eqb w x) refl (λ m.
    scattered-at (suc k) xs (set old x k) w d ((distinct_cons x xs).0 once).1 m (omega (arith, length-set old x k)))
  where
    new : T (has x xs) → ⊥
    new = ((distinct_cons x xs).0 once).0

    go : (b : Bool) → eqb w x ≡ b → (T (has w xs) → get_or (scattered (suc k) xs (set old x k)) w d ≡ suc k + place_of w xs)
        → get_or (scattered (suc k) xs (set old x k)) w d ≡ k + cond b 0 (suc (place_of w xs))
    go true e rest =
        let q : w ≡ x = eqb-true w x e in
        scattered_other (suc k) xs (set old x k) w d (λ m. new (subst (λ (v : ℕ). T (has v xs)) q m))
        ∙ ap (λ (v : ℕ). get_or (set old x k) v d) q ∙ get_or-set_same old x k d (omega arith) ∙ omega arith
    go false e rest = rest (has_rest w x xs (eqb-false w x e) h) ∙ omega arith

-- ---- permutations

pub length-inverse : (xs : List ℕ) → length (inverse xs) ≡ length xs
length-inverse xs = length-map (below (length xs)) (λ (w : ℕ). place_of w xs) ∙ length-below (length xs)

pub inverse-at : (xs : List ℕ) (w : ℕ) → w < length xs → get_or (inverse xs) w 0 ≡ place_of w xs
inverse-at xs w h =
    get_or_map (λ w. place_of w xs) (below (length xs)) w 0 0 (omega (arith, length-below (length xs)))
    ∙ ap (λ (v : ℕ). place_of v xs) (get_or-below (length xs) w 0 h)

-- the number at the position of w in a permutation is w
pub inverse-back : (xs : List ℕ) (w : ℕ) → T (is_permutation xs) → w < length xs → get_or xs (get_or (inverse xs) w 0) 0 ≡ w
inverse-back xs w p h = rw (inverse-at xs w h) (place_found w xs 0 ((permutation-has xs p w).1 h)).1

pub scattered-inverse : (xs old : List ℕ) → T (is_permutation xs) → length xs ≤ length old → scattered 0 xs old ≡ written (inverse xs) old
scattered-inverse xs old p room = ext_get_or 0 (scattered 0 xs old) (written (inverse xs) old) same each
  where
    same : length (scattered 0 xs old) ≡ length (written (inverse xs) old)
    same = length-scattered 0 xs old ∙ sym (length-written (inverse xs) old (omega (arith, length-inverse xs)))

    each : (w : ℕ) → w < length (scattered 0 xs old) → get_or (scattered 0 xs old) w 0 ≡ get_or (written (inverse xs) old) w 0
    each w h = elim (lt_or_le w (length xs)) [
      | inl l ↦
          scattered-at 0 xs old w 0 (permutation-distinct xs p) ((permutation-has xs p w).1 l) (omega arith)
          ∙ omega (arith, inverse-at xs w l, written_front (inverse xs) old w 0 (omega (arith, length-inverse xs)))
      | inr l ↦
          scattered_other 0 xs old w 0 (λ k. omega (arith, (permutation-has xs p w).0 k))
          ∙ sym (written-rest (inverse xs) old w 0 (omega (arith, length-inverse xs)))
    ]

pub permutation-below : (xs : List ℕ) (n : ℕ) → T (is_permutation xs) → length xs ≤ n → Below n xs
permutation-below xs n p l i h = omega (arith, (permutation-has xs p (get_or xs i 0)).0 (has_get_or xs i 0 h))

-- a duplicate-free list of numbers below n has at most n members
pub distinct-below : (n : ℕ) (xs : List ℕ) → T (distinct xs) → Below n xs → length xs ≤ n
distinct-below n xs once b = omega (arith, distinct-length xs (below n) once inside, length-below n)
  where
    inside : (x : ℕ) → T (has x xs) → T (has x (below n))
    inside x h = let (i, l, e) = (has-at 0 x xs).0 h in (has-below x n).1 (omega (arith, b i l))
