-- Numbers met one by one, with a mark for each.
use Prim.Native.Nat.{ℕ, suc, ◌+◌, ◌-◌, ◌≤◌, ◌<◌}
use native.Mathlib.Nat.{le_trans}
use native.Mathlib.Omega.{arith}
use mathlib.Core.Path.{◌≡◌, refl, sym, ap, subst, ◌∙◌}
use mathlib.Core.Logic.{◌⊎◌, inl, inr, ⊎_elim}
use mathlib.Core.Bool.{Bool, true, false, not, cond, beq, ◌||◌, or-false}
use mathlib.Core.List.{List, [], ◌∷◌, ◌++◌, append-nil, append_assoc}
use lib.ListN.{length, get_or, take, drop, set, length-drop}
use lib.Seq.{get_or-set_same, get_or-set_other, get_or-drop}
use lib.Dec.{T, eqb, ltb, lt→ltb, ltb→lt}
use borrow.Author.Tests.{eqb-true, eqb-false}
use Rattle.layout.specs.General.Lists.{has, all, distinct, is_permutation}
use Rattle.layout.proofs.Lists.Tests.{and_iff, passed, passes, failed, differ, lt_or_le}
use Rattle.layout.proofs.Lists.Members.{has-cons, has-append, all-has}
use Rattle.layout.proofs.Lists.Distinct.{distinct_append, permutation-has}
use Rattle.utils.proofs.Windows.{has_more, take_more, split_more}
use Rattle.supernode_tree.proofs.Words.{drop-next, part-part}
use Rattle.check_members.specs.OnceIn.{once_below}
use Rattle.check_patterns.specs.Accepted.{AllClear, Met}

pub beq_differ : (a b : Bool) → beq a b ≡ false → a ≡ b → ⊥
beq_differ true true e q = differ true refl e
beq_differ true false e q = differ true refl q
beq_differ false true e q = differ false q refl
beq_differ false false e q = differ true refl e

pub beq_same : (a b : Bool) → beq a b ≡ true → a ≡ b
beq_same true true e = refl
beq_same true false e = absurd (differ false e refl)
beq_same false true e = absurd (differ false e refl)
beq_same false false e = refl

pub met_start : (n : ℕ) (marks : List Bool) → AllClear marks → Met true n marks []
met_start n marks a = record { marked = λ v h. a v; later = λ v h. a v; once = tt; below = tt }

-- a number that is below n and not marked can be met
pub met_more : (b : Bool) (n : ℕ) (marks : List Bool) (met : List ℕ) (x : ℕ) → n ≤ length marks → x < n → (get_or marks x false ≡ b → ⊥)
    → Met b n marks met → Met b n (set marks x b) (met ++ (x ∷ []))
met_more b n marks met x room l free m = record {
  marked = λ v h. sym (ap (λ (t : Bool). cond t b (not b)) (has_more v met x) ∙ at v h (eqb v x) refl);
  later = λ v h. get_or-set_other marks x v b false (λ q. absurd (omega arith)) ∙ m.later v h;
  once = (distinct_append met (x ∷ [])).1 (
    m.once,
    tt,
    λ u k h. elim ((has-cons u x []).0 h) [ inl q ↦ new (subst (λ (v : ℕ). T (has v met)) q k) | inr z ↦ z ],
  );
  below = (all-has (λ y. ltb y n) (met ++ (x ∷ []))).1 (λ y h. ⊎_elim
      (λ k. (all-has (λ z. ltb z n) met).0 m.below y k)
      (λ k. elim ((has-cons y x []).0 k) [ inl q ↦ lt→ltb y n (omega arith) | inr z ↦ absurd z ])
      ((has-append y met (x ∷ [])).0 h));
}
  where
    new : T (has x met) → ⊥
    new h = free (m.marked x l ∙ ap (λ (t : Bool). cond t b (not b)) (passed (has x met) h))

    either : (a : Bool) → (a || true) ≡ true
    either true = refl
    either false = refl

    at : (v : ℕ) → v < n → (t : Bool) → eqb v x ≡ t → cond (has v met || t) b (not b) ≡ get_or (set marks x b) v false
    at v h true e =
        ap (λ (t : Bool). cond t b (not b)) (either (has v met))
        ∙ sym (ap (λ (k : ℕ). get_or (set marks x b) k false) (eqb-true v x e) ∙ get_or-set_same marks x b false (le_trans l room))
    at v h false e =
        ap (λ (t : Bool). cond t b (not b)) (or-false (has v met))
        ∙ sym (get_or-set_other marks x v b false (eqb-false v x e) ∙ m.marked v h)

-- if n numbers were met, they are a permutation of the numbers below n, and each of the n marks is b
module _ (b : Bool) (n : ℕ) (marks : List Bool) (met : List ℕ) (m : Met b n marks met) (e : length met ≡ n) where
  all_in : T (is_permutation met)
  all_in =
      (and_iff (all (λ x. ltb x (length met)) met) (distinct met)).1
      (subst (λ (k : ℕ). T (all (λ x. ltb x k) met)) (sym e) m.below, m.once)

  pub met_all : is_permutation met ≡ true
  met_all = passed (is_permutation met) all_in

  met_marks : (v : ℕ) → v < n → get_or marks v false ≡ b
  met_marks v h = m.marked v h ∙ ap (λ (t : Bool). cond t b (not b)) (passed (has v met) ((permutation-has met all_in v).1 (omega arith)))

-- once all n marks are set, clearing can start: no number has been met for it
pub met_turn : (n : ℕ) (marks : List Bool) (met : List ℕ) → Met true n marks met → length met ≡ n → Met false n marks []
met_turn n marks met m e = record { marked = met_marks true n marks met m e; later = m.later; once = tt; below = tt }

-- once n numbers have been met for clearing, no mark is set
pub met_clear : (n : ℕ) (marks : List Bool) (met : List ℕ) → Met false n marks met → length met ≡ n → AllClear marks
met_clear n marks met m e v = elim (lt_or_le v n) [ inl h ↦ met_marks false n marks met m e v h | inr h ↦ m.later v h ]

-- an empty part of the words adds nothing
pub part_none : (met ws : List ℕ) (a : ℕ) → met ≡ met ++ take (a - a) (drop a ws)
part_none met ws a =
    let e : 0 ≡ a - a = omega arith in
    sym (append-nil met) ∙ ap (λ (k : ℕ). met ++ take k (drop a ws)) e

pub part_more : (met ws : List ℕ) (a i : ℕ) → a ≤ i → i < length ws
    → met ++ take (i + 1 - a) (drop a ws) ≡ (met ++ take (i - a) (drop a ws)) ++ (get_or ws i 0 ∷ [])
part_more met ws a i l h =
    let e : i + 1 - a ≡ i - a + 1 = omega arith in
    let f : a + (i - a) ≡ i = omega arith in
    ap (λ (k : ℕ). met ++ take k (drop a ws)) e ∙ take_more met (drop a ws) (i - a) (omega (arith, length-drop a ws))
    ∙ ap (λ (x : ℕ). (met ++ take (i - a) (drop a ws)) ++ (x ∷ [])) (get_or-drop a ws (i - a) 0 ∙ ap (λ (k : ℕ). get_or ws k 0) f)

-- ---- which numbers can be met

pub met_once : (b : Bool) (n : ℕ) (marks : List Bool) (met : List ℕ) → Met b n marks met → once_below n met ≡ true
met_once b n marks met m = passed _ ((and_iff (all (λ x. ltb x n) met) (distinct met)).1 (m.below, m.once))

-- a number whose mark is b was met
pub met_has : (b : Bool) (n : ℕ) (marks : List Bool) (met : List ℕ) (x : ℕ) → Met b n marks met → x < n → get_or marks x false ≡ b → T (has x met)
met_has b n marks met x m l e = go b (has x met) (sym (m.marked x l) ∙ e)
  where
    go : (b t : Bool) → cond t b (not b) ≡ b → T t
    go b true q = tt
    go true false q = absurd (differ false q refl)
    go false false q = absurd (differ true refl q)

not-once : (n : ℕ) (front : List ℕ) (x : ℕ) (back : List ℕ) → (n ≤ x) ⊎ T (has x front) → once_below n (front ++ (x ∷ back)) ≡ false
not-once n front x back bad = failed _ (λ h.
    let (below, once) = (and_iff (all (λ y. ltb y n) (front ++ (x ∷ back))) (distinct (front ++ (x ∷ back)))).0 h in
    let here : T (has x (x ∷ back)) = (has-cons x x back).1 (inl refl) in
    elim bad [
      | inl l ↦ let k : x < n = ltb→lt x n ((all-has (λ y. ltb y n) (front ++ (x ∷ back))).0 below x ((has-append x front (x ∷ back)).1 (inr here))) in absurd (omega arith)
      | inr k ↦ ((distinct_append front (x ∷ back)).0 once).2 x k here
    ])

-- a part of the words is the words before index i, the word there, and the words after it
part_around : (met ws : List ℕ) (a e i : ℕ) → a ≤ i → i < e → e ≤ length ws
    → met ++ take (e - a) (drop a ws) ≡ (met ++ take (i - a) (drop a ws)) ++ (get_or ws i 0 ∷ take (e - (i + 1)) (drop (i + 1) ws))
part_around met ws a e i l h f =
    let s : e - i ≡ suc (e - (i + 1)) = omega arith in
    let d : take (e - i) (drop i ws) ≡ get_or ws i 0 ∷ take (e - (i + 1)) (drop (i + 1) ws) =
    ap (λ (k : ℕ). take k (drop i ws)) s ∙ ap (take (suc (e - (i + 1)))) (drop-next ws i (i + 1) refl (omega arith)) in
    ap (λ (us : List ℕ). met ++ us) (sym (part-part ws a i e l (omega arith)) ∙ ap (λ (us : List ℕ). take (i - a) (drop a ws) ++ us) d)
    ∙ sym (append_assoc met (take (i - a) (drop a ws)) _)

pub part-not-once : (n : ℕ) (met ws : List ℕ) (a e i : ℕ) → a ≤ i → i < e → e ≤ length ws
    → (n ≤ get_or ws i 0) ⊎ T (has (get_or ws i 0) (met ++ take (i - a) (drop a ws))) → false ≡ once_below n (met ++ take (e - a) (drop a ws))
part-not-once n met ws a e i l h f bad =
    sym (ap (once_below n) (part_around met ws a e i l h f) ∙ not-once n (met ++ take (i - a) (drop a ws)) (get_or ws i 0) _ bad)

pub once_not : (n : ℕ) (met ws : List ℕ) (i : ℕ) → i < length ws → (n ≤ get_or ws i 0) ⊎ T (has (get_or ws i 0) (met ++ take i ws))
    → false ≡ once_below n (met ++ ws)
once_not n met ws i h bad = sym (ap (once_below n) (split_more met ws i h) ∙ not-once n (met ++ take i ws) (get_or ws i 0) (drop (suc i) ws) bad)

-- if a list has no duplicates and only numbers below n, so has each prefix of it
pub once_front : (n : ℕ) (xs ys : List ℕ) → once_below n (xs ++ ys) ≡ true → once_below n xs ≡ true
once_front n xs ys h =
    let (below, once) = (and_iff (all (λ y. ltb y n) (xs ++ ys)) (distinct (xs ++ ys))).0 (passes _ h) in
    passed _ ((and_iff (all (λ y. ltb y n) xs) (distinct xs)).1 (
      (all-has (λ y. ltb y n) xs).1 (λ y k. (all-has (λ z. ltb z n) (xs ++ ys)).0 below y ((has-append y xs ys).1 (inl k))),
      ((distinct_append xs ys).0 once).0,
    ))
