-- Duplicate-free lists, tested one window of numbers at a time, with marks for the numbers seen.
use Prim.Native.Nat.{ℕ, zero, suc, ◌+◌, ◌-◌, ◌≤◌, ◌<◌}
use native.Mathlib.Numerals.{add-one}
use native.Mathlib.Omega.{arith}
use mathlib.Core.Bool.{Bool, true, false, cond, ◌||◌}
use mathlib.Core.Logic.{◌⊎◌, inl, inr, ⊎_elim}
use mathlib.Core.Path.{◌≡◌, refl, sym, ap, subst, ◌∙◌}
use mathlib.Core.List.{List, [], ◌∷◌, ◌++◌, append_assoc, append-nil}
use lib.ListN.{length, get_or, take, drop, set, replicate, length-set}
use lib.Seq.{take-suc, get_or-set_same, get_or-set_other, split_at}
use lib.Dec.{T, eqb, ltb, ltb→lt, lt→ltb}
use borrow.Author.Tests.{le-leb, lt-leb, lt-ltb, le-ltb, eq-eqb, ne_eqb, eqb-true, eqb-false}
use Rattle.layout.specs.General.Lists.{has, all, keep, distinct}
use Rattle.layout.proofs.Lists.Tests.{and_iff, tested, lt_or_le, passed, failed, passes, fails}
use Rattle.layout.proofs.Lists.Members.{has-keep, has-cons, all-has}
use Rattle.layout.proofs.Lists.Rising.{keep-none}
use Rattle.layout.proofs.Lists.Distinct.{distinct_cons, distinct_append, distinct-keep}
use Rattle.layout.proofs.Lists.Keeps.{keep_append}
use Rattle.utils.specs.Windows.{within, Marked}

pub keep_all : (p : ℕ → Bool) (xs : List ℕ) → T (all p xs) → keep p xs ≡ xs
keep_all p [] h = refl
keep_all p (x ∷ xs) h = let (a, b) = (and_iff (p x) (all p xs)).0 h in rw (passed (p x) a, keep_all p xs b)

-- ---- one more number, after those seen

pub skip_more : (p : ℕ → Bool) (l : List ℕ) (x : ℕ) → p x ≡ false → T (distinct (keep p l)) → T (distinct (keep p (l ++ (x ∷ []))))
skip_more p l x e d = rw (keep_append p l (x ∷ []), e, append-nil (keep p l)) d

pub new_more : (p : ℕ → Bool) (l : List ℕ) (x : ℕ) → p x ≡ true → has x l ≡ false → T (distinct (keep p l)) → T (distinct (keep p (l ++ (x ∷ []))))
new_more p l x e new d =
    rw (keep_append p l (x ∷ []), e) ((distinct_append (keep p l) (x ∷ [])).1 (
      d,
      tt,
      λ u k m. elim ((has-cons u x []).0 m) [
        | inl q ↦ fails (has x l) new ((has-keep p x l).0 (subst (λ (v : ℕ). T (has v (keep p l))) q k)).0
        | inr z ↦ z
      ],
    ))

-- a number seen before is a duplicate
pub old_more : (p : ℕ → Bool) (l : List ℕ) (x : ℕ) (rest : List ℕ) → p x ≡ true → has x l ≡ true → distinct (keep p (l ++ x ∷ rest)) ≡ false
old_more p l x rest e old = failed (distinct (keep p (l ++ x ∷ rest))) (λ d.
    let d' : T (distinct (keep p l ++ keep p (x ∷ rest))) = subst (λ (m : List ℕ). T (distinct m)) (keep_append p l (x ∷ rest)) d in
    ((distinct_append (keep p l) (keep p (x ∷ rest))).0 d').2 x
    ((has-keep p x l).1 (passes (has x l) old, passes (p x) e))
    ((has-keep p x (x ∷ rest)).1 ((has-cons x x rest).1 (inl refl), passes (p x) e)))

-- ---- marks

pub has_more : (y : ℕ) (l : List ℕ) (x : ℕ) → has y (l ++ (x ∷ [])) ≡ (has y l || eqb y x)
has_more y [] x = pick (eqb y x)
  where
    pick : (b : Bool) → (b || false) ≡ (false || b)
    pick true = refl
    pick false = refl
has_more y (z ∷ l) x = pick (eqb y z) (has_more y l x)
  where
    pick : (b : Bool) → has y (l ++ (x ∷ [])) ≡ (has y l || eqb y x) → (b || has y (l ++ (x ∷ []))) ≡ ((b || has y l) || eqb y x)
    pick true e = refl
    pick false e = e

pub or_false : (a b : Bool) → b ≡ false → (a || b) ≡ a
or_false true b e = refl
or_false false b e = e

pub or_true : (a b : Bool) → b ≡ true → (a || b) ≡ true
or_true true b e = refl
or_true false b e = e

-- cleared marks are false
pub clear_all : (k v : ℕ) → get_or (replicate k false) v false ≡ false
clear_all zero v = refl
clear_all (suc k) zero = refl
clear_all (suc k) (suc v) = clear_all k v

pub marked-none : (low n : ℕ) → Marked low (replicate n false) []
marked-none low n v h = clear_all n v

-- a number outside the window changes no mark
pub marked-out : (low : ℕ) (marks : List Bool) (l : List ℕ) (x : ℕ)
    → (x < low) ⊎ (low + length marks ≤ x) → Marked low marks l → Marked low marks (l ++ (x ∷ []))
marked-out low marks l x out m v h =
    m v h ∙ sym (has_more (low + v) l x ∙ or_false (has (low + v) l) _ (ne_eqb (low + v) x (λ e. ⊎_elim (λ o. omega arith) (λ o. omega arith) out)))

pub marked_in : (low : ℕ) (marks : List Bool) (l : List ℕ) (x v : ℕ) → x ≡ low + v → v < length marks
    → Marked low marks l → Marked low (set marks v true) (l ++ (x ∷ []))
marked_in low marks l x v e h m u k = sym (has_more (low + u) l x ∙ go (eqb u v) refl)
  where
    go : (b : Bool) → eqb u v ≡ b → (has (low + u) l || eqb (low + u) x) ≡ get_or (set marks v true) u false
    go true q =
        or_true (has (low + u) l) _ (eq-eqb (low + u) x (omega (arith, eqb-true u v q)))
        ∙ sym (ap (λ (k : ℕ). get_or (set marks v true) k false) (eqb-true u v q) ∙ get_or-set_same marks v true false h)
    go false q =
        or_false (has (low + u) l) _ (ne_eqb (low + u) x (λ d. eqb-false u v q (omega arith)))
        ∙ sym (get_or-set_other marks v u true false (eqb-false u v q) ∙ m u (rw length-set at k))

-- ---- the numbers up to an index, after other numbers

pub take_more : (met ws : List ℕ) (i : ℕ) → i < length ws → met ++ take (i + 1) ws ≡ (met ++ take i ws) ++ (get_or ws i 0 ∷ [])
take_more met ws i h = rw (add-one, take-suc ws i 0 h) (sym (append_assoc met (take i ws) (get_or ws i 0 ∷ [])))

pub split_more : (met ws : List ℕ) (i : ℕ) → i < length ws → met ++ ws ≡ (met ++ take i ws) ++ get_or ws i 0 ∷ drop (suc i) ws
split_more met ws i h = ap (λ (l : List ℕ). met ++ l) (split_at ws i 0 h) ∙ sym (append_assoc met (take i ws) (get_or ws i 0 ∷ drop (suc i) ws))

pub take_none : (met ws : List ℕ) → met ≡ met ++ take 0 ws
take_none [] ws = refl
take_none (x ∷ met) ws = ap (λ (l : List ℕ). x ∷ l) (take_none met ws)

-- ---- windows

pub within_before : (low size x : ℕ) → x < low → within low size x ≡ false
within_before low size x h = rw (lt-leb low x h)

pub within-after : (low size x : ℕ) → low ≤ x → size ≤ x - low → within low size x ≡ false
within-after low size x h l = rw (le-leb low x h, le-ltb (x - low) size l)

pub within_in : (low size x : ℕ) → low ≤ x → x - low < size → within low size x ≡ true
within_in low size x h l = rw (le-leb low x h, lt-ltb (x - low) size l)

-- if the numbers with p and those with q are duplicate-free, so are those with r, where r implies p or q
distinct_either : (p q r : ℕ → Bool) (xs : List ℕ) → ((x : ℕ) → T (r x) → T (p x) ⊎ T (q x))
    → T (distinct (keep p xs)) → T (distinct (keep q xs)) → T (distinct (keep r xs))
distinct_either p q r [] sub d e = tt
distinct_either p q r (x ∷ xs) sub d e = go (tested (r x)) (distinct_either p q r xs sub (tail p d) (tail q e))
  where
    tail : (s : ℕ → Bool) → T (distinct (keep s (x ∷ xs))) → T (distinct (keep s xs))
    tail s k = pick (s x) k
      where
        pick : (b : Bool) → T (distinct (cond b (x ∷ keep s xs) (keep s xs))) → T (distinct (keep s xs))
        pick true k = ((distinct_cons x (keep s xs)).0 k).1
        pick false k = k

    new : (s : ℕ → Bool) → T (s x) → T (distinct (keep s (x ∷ xs))) → T (has x xs) → ⊥
    new s h k m =
        let k' : T (distinct (x ∷ keep s xs)) = rw (passed (s x) h) at k in
        ((distinct_cons x (keep s xs)).0 k').0 ((has-keep s x xs).1 (m, h))

    go : T (r x) ⊎ (T (r x) → ⊥) → T (distinct (keep r xs)) → T (distinct (keep r (x ∷ xs)))
    go (inl h) rest = rw (passed (r x) h) ((distinct_cons x (keep r xs)).1 (
      λ m. let k = ((has-keep r x xs).0 m).0 in ⊎_elim (λ a. new p a d k) (λ b. new q b e k) (sub x h),
      rest,
    ))
    go (inr n) rest = rw (failed (r x) n) rest

pub window_more : (low size : ℕ) (ws : List ℕ) → T (distinct (keep (λ x. ltb x low) ws)) → T (distinct (keep (within low size) ws))
    → T (distinct (keep (λ x. ltb x (low + size)) ws))
window_more low size ws d e = distinct_either (λ x. ltb x low) (within low size) (λ x. ltb x (low + size)) ws pick d e
  where
    pick : (x : ℕ) → T (ltb x (low + size)) → T (ltb x low) ⊎ T (within low size x)
    pick x h = elim (lt_or_le x low) [
      | inl b ↦ inl (lt→ltb x low b)
      | inr l ↦ inr (passes (within low size x) (within_in low size x l (omega (arith, ltb→lt x (low + size) h))))
    ]

-- a duplicate within a window is a duplicate of the whole list
pub repeats_within : (p : ℕ → Bool) (ws : List ℕ) → distinct (keep p ws) ≡ false → distinct ws ≡ false
repeats_within p ws e = failed (distinct ws) (λ d. fails (distinct (keep p ws)) e (distinct-keep p ws d))

pub windows_all : (n high : ℕ) (ws : List ℕ) → all (λ x. ltb x n) ws ≡ true → n ≤ high → T (distinct (keep (λ x. ltb x high) ws)) → distinct ws ≡ true
windows_all n high ws a l d =
    passed (distinct ws) (rw (keep_all (λ x. ltb x high) ws ((all-has (λ x. ltb x high) ws).1 (λ x h.
    lt→ltb x high (omega (arith, ltb→lt x n ((all-has (λ x. ltb x n) ws).0 (passes _ a) x h)))))) at d)

pub window_none : (ws : List ℕ) → T (distinct (keep (λ x. ltb x 0) ws))
window_none ws = subst (λ (l : List ℕ). T (distinct l)) (sym (keep-none (λ x. ltb x 0) ws (λ x h l. omega (arith, ltb→lt x 0 l)))) tt
