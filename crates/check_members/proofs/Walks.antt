-- Passes over the members of a list.
use Prim.Native.Nat.{ℕ, suc, ◌+◌, ◌-◌, ◌≤◌, ◌<◌}
use native.Mathlib.Numerals.{add-one}
use native.Mathlib.Omega.{arith}
use mathlib.Core.Bool.{Bool, true, false, ◌&&◌}
use mathlib.Core.Logic.{⊎_elim}
use mathlib.Core.Path.{◌≡◌, refl, sym, ap, ◌∙◌}
use mathlib.Core.List.{List, [], ◌∷◌}
use lib.ListN.{length, get_or, take, drop, length-drop, drop_of_length-le}
use lib.Seq.{drop-cons, take_all}
use Rattle.std.specs.List.{list_any}
use lib.Dec.{T, eqb, leb, ltb, leb→le}
use borrow.Author.Tests.{eq-eqb, ne_eqb, eqb-true, eqb-false, lt-ltb, le-ltb, le-leb, lt-leb}
use Rattle.layout.specs.General.Lists.{has, all, distinct}
use Rattle.layout.proofs.Lists.Tests.{and_iff, and-true, and-false, and_right, differ, passed, passes}
use Rattle.layout.proofs.Lists.Members.{has-cons}
use Rattle.layout.proofs.Lists.Distinct.{distinct_cons}
use Rattle.check_members.specs.OnceIn.{rises_below, once_below, once_below_in}

pub has-step : (x : ℕ) (b : List ℕ) (k : ℕ) → k < length b → (x ≡ get_or b k 0 → ⊥) → has x (drop k b) ≡ has x (drop (k + 1) b)
has-step x b k h n = rw (add-one, drop-cons b k 0, ne_eqb x (get_or b k 0) n)

pub has_here : (x : ℕ) (b : List ℕ) (k : ℕ) → k < length b → x ≡ get_or b k 0 → has x (drop k b) ≡ true
has_here x b k h e = rw (drop-cons b k 0, eq-eqb x (get_or b k 0) e)

pub has_nowhere : (x : ℕ) (b : List ℕ) (k : ℕ) → length b ≤ k → has x (drop k b) ≡ false
has_nowhere x b k h = rw (drop_of_length-le b h)

pub distinct-step : (a : List ℕ) (k : ℕ) → k < length a → has (get_or a k 0) (drop (k + 1) a) ≡ false → distinct (drop k a) ≡ distinct (drop (k + 1) a)
distinct-step a k h e = ap distinct (drop-cons a k 0 h ∙ ap (λ (n : ℕ). get_or a k 0 ∷ drop n a) (sym (add-one k))) ∙ rw e

pub distinct-not : (a : List ℕ) (k : ℕ) → k < length a → has (get_or a k 0) (drop (k + 1) a) ≡ true → distinct (drop k a) ≡ false
distinct-not a k h e = ap distinct (drop-cons a k 0 h ∙ ap (λ (n : ℕ). get_or a k 0 ∷ drop n a) (sym (add-one k))) ∙ rw e

pub distinct-done : (a : List ℕ) (k : ℕ) → length a ≤ k → distinct (drop k a) ≡ true
distinct-done a k h = rw (drop_of_length-le a h)

eqb_swap : (m n : ℕ) → eqb m n ≡ eqb n m
eqb_swap m n = go (eqb m n) refl
  where
    go : (b : Bool) → eqb m n ≡ b → eqb m n ≡ eqb n m
    go true q = q ∙ sym (eq-eqb n m (sym (eqb-true m n q)))
    go false q = q ∙ sym (ne_eqb n m (λ e. eqb-false m n q (sym e)))

-- `contains` on the end of a slice
pub tail_has : (a : List ℕ) (k x : ℕ) → list_any (λ y. eqb y x) (take (length a - k) (drop k a)) ≡ has x (drop k a)
tail_has a k x = rw (take_all (length a - k) (drop k a) (omega (arith, length-drop k a))) (go (drop k a))
  where
    go : (l : List ℕ) → list_any (λ y. eqb y x) l ≡ has x l
    go [] = refl
    go (y ∷ l) = rw (eqb_swap y x, go l)

-- ---- strictly increasing numbers below n

module _ (least n : ℕ) (us : List ℕ) (i : ℕ) where
  module _ (h : i < length us) where
    pub rises_falls : get_or us i 0 < least → rises_below least n (drop i us) ≡ false
    rises_falls l = rw (drop-cons us i 0 h, lt-leb least (get_or us i 0) l)

    pub rises_above : n ≤ get_or us i 0 → rises_below least n (drop i us) ≡ false
    rises_above l = rw (drop-cons us i 0 h, le-ltb (get_or us i 0) n l) (and_right (leb least (get_or us i 0)) false refl)

    pub rises-step : least ≤ get_or us i 0 → get_or us i 0 < n → rises_below least n (drop i us) ≡ rises_below (get_or us i 0 + 1) n (drop (i + 1) us)
    rises-step k l = rw (add-one (get_or us i 0), add-one i, drop-cons us i 0 h, le-leb least (get_or us i 0) k, lt-ltb (get_or us i 0) n l)

  pub rises-done : length us ≤ i → rises_below least n (drop i us) ≡ true
  rises-done h = rw (drop_of_length-le us h)

-- strictly increasing numbers are duplicate-free and below n
pub rises-once : (least n : ℕ) (us : List ℕ) → T (rises_below least n us) → T (once_below n us) × ((y : ℕ) → T (has y us) → least ≤ y)
rises-once least n [] h = (tt, λ y k. absurd k)
rises-once least n (x ∷ xs) h =
    let (low, more) = (and_iff (leb least x) (ltb x n && rises_below (suc x) n xs)).0 h in
    let (high, rest) = (and_iff (ltb x n) (rises_below (suc x) n xs)).0 more in
    let (once, above) = rises-once (suc x) n xs rest in
    let (below, distinct') = (and_iff (all (λ y. ltb y n) xs) (distinct xs)).0 once in
    let l : least ≤ x = leb→le least x low in (
      (and_iff (ltb x n && all (λ y. ltb y n) xs) (distinct (x ∷ xs))).1 (
        (and_iff (ltb x n) (all (λ y. ltb y n) xs)).1 (high, below),
        (distinct_cons x xs).1 (λ k. omega (arith, above x k), distinct'),
      ),
      λ y k. ⊎_elim (λ e. omega arith) (λ m. omega (arith, above y m)) ((has-cons y x xs).0 k),
    )

-- duplicate-free numbers below n, in another list
pub once_in_falls : (n : ℕ) (ms us : List ℕ) → once_below n us ≡ false → once_below_in n ms us ≡ false
once_in_falls n ms us = go (all (λ x. ltb x n) us) (distinct us) (all (λ u. has u ms) us)
  where
    go : (a d h : Bool) → (a && d) ≡ false → (a && (d && h)) ≡ false
    go true d h e = and-false d h e
    go false d h e = refl

pub once_in_rest : (n : ℕ) (ms us : List ℕ) → once_below n us ≡ true → once_below_in n ms us ≡ all (λ u. has u ms) us
once_in_rest n ms us = go (all (λ x. ltb x n) us) (distinct us) (all (λ u. has u ms) us)
  where
    go : (a d h : Bool) → (a && d) ≡ true → (a && (d && h)) ≡ h
    go true d h e = and-true d h e
    go false d h e = absurd (differ false e refl)

-- strictly increasing members below n need only be tested for being in ms
pub rising_in : (n : ℕ) (ms us : List ℕ) → rises_below 0 n us ≡ true → once_below_in n ms us ≡ all (λ u. has u ms) us
rising_in n ms us h = once_in_rest n ms us (passed _ (rises-once 0 n us (passes _ h)).0)
