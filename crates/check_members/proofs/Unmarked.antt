-- Duplicate-free members of another list, tested by clearing marks, one window at a time.
use Prim.Native.Nat.{ℕ, ◌+◌, ◌-◌, ◌≤◌, ◌<◌}
use native.Mathlib.Omega.{arith}
use mathlib.Core.Bool.{Bool, true, false, not, ◌&&◌, or-true, or-false}
use mathlib.Core.Logic.{◌⊎◌, inl, inr, ⊎_elim}
use mathlib.Core.Path.{◌≡◌, refl, sym, ap, ◌∙◌}
use mathlib.Core.List.{List, [], ◌∷◌, ◌++◌, append-nil}
use lib.ListN.{length, get_or, set, length-set}
use lib.Seq.{get_or-set_same, get_or-set_other}
use lib.Dec.{T, eqb, ltb, lt→ltb, ltb→lt}
use borrow.Author.Tests.{eq-eqb, ne_eqb, eqb-true, eqb-false}
use Rattle.layout.specs.General.Lists.{has, all, keep, distinct}
use Rattle.layout.proofs.Lists.Tests.{and_iff, lt_or_le, passed, failed, passes, fails, differ, and-false, and_right}
use Rattle.layout.proofs.Lists.Members.{has-cons, has-append, has-keep, all-has}
use Rattle.layout.proofs.Lists.Distinct.{distinct-keep}
use Rattle.layout.proofs.Lists.Keeps.{keep_append}
use Rattle.utils.specs.Windows.{within, Marked}
use Rattle.utils.proofs.Windows.{has_more, new_more, old_more, within_before, within-after, within_in, window_none, window_more, keep_all}
use Rattle.check_members.specs.OnceIn.{once_in}
use Rattle.layout.proofs.Lists.Walks.{all_append}

-- a number in the window from its offset, and a number past the window
pub in_window : {low x : ℕ} → low ≤ x → low + (x - low) ≡ x
in_window h = omega arith

pub past_window : {low x n : ℕ} → low ≤ x → n ≤ x - low → low + n ≤ x
past_window h k = omega arith

pub outside : (low size x : ℕ) → (x < low) ⊎ (low + size ≤ x) → within low size x ≡ false
outside low size x out = ⊎_elim (λ h. within_before low size x h) (λ h. within-after low size x (omega arith) (omega arith)) out

-- ---- marks not yet cleared

-- mark v is set exactly if number low + v is in ms and was not met
abbrev pub Left : ℕ → List Bool → List ℕ → List ℕ → Type 0
Left low marks ms met = (v : ℕ) → v < length marks → get_or marks v false ≡ (has (low + v) ms && not (has (low + v) met))

has_other : (y : ℕ) (l : List ℕ) (x : ℕ) → (y ≡ x → ⊥) → has y (l ++ (x ∷ [])) ≡ has y l
has_other y l x n = has_more y l x ∙ rw (ne_eqb y x n) (or-false (has y l))

has_last : (l : List ℕ) (x : ℕ) → has x (l ++ (x ∷ [])) ≡ true
has_last l x = has_more x l x ∙ rw (eq-eqb x x refl) (or-true (has x l))

pub left-none : (low : ℕ) (marks : List Bool) (ms : List ℕ) → Marked low marks ms → Left low marks ms []
left-none low marks ms m v h = m v h ∙ pick (has (low + v) ms)
  where
    pick : (b : Bool) → b ≡ (b && true)
    pick true = refl
    pick false = refl

-- a number outside the window changes no mark
pub left_out : (low : ℕ) (marks : List Bool) (ms l : List ℕ) (x : ℕ)
    → (x < low) ⊎ (low + length marks ≤ x) → Left low marks ms l → Left low marks ms (l ++ (x ∷ []))
left_out low marks ms l x out m v h =
    m v h ∙ ap (λ (b : Bool). has (low + v) ms && not b) (sym (has_other (low + v) l x (λ e. ⊎_elim (λ o. omega arith) (λ o. omega arith) out)))

pub left_in : (low : ℕ) (marks : List Bool) (ms l : List ℕ) (x v : ℕ) → x ≡ low + v → v < length marks
    → Left low marks ms l → Left low (set marks v false) ms (l ++ (x ∷ []))
left_in low marks ms l x v e h m u k = go (eqb u v) refl
  where
    go : (b : Bool) → eqb u v ≡ b → get_or (set marks v false) u false ≡ (has (low + u) ms && not (has (low + u) (l ++ (x ∷ []))))
    go true q =
        let same : low + u ≡ x = omega (arith, eqb-true u v q) in
        ap (λ (n : ℕ). get_or (set marks v false) n false) (eqb-true u v q) ∙ get_or-set_same marks v false false h
        ∙ sym (and_right (has (low + u) ms) _ (ap not (ap (λ (y : ℕ). has y (l ++ (x ∷ []))) same ∙ has_last l x)))
    go false q =
        get_or-set_other marks v u false false (eqb-false u v q) ∙ m u (rw length-set at k)
        ∙ ap (λ (b : Bool). has (low + u) ms && not b) (sym (has_other (low + u) l x (λ d. eqb-false u v q (omega arith))))

-- what a mark that is still set says
pub left_old : (a b : Bool) → (a && not b) ≡ true → a ≡ true
left_old true b h = refl
left_old false b h = h

pub left_new : (a b : Bool) → (a && not b) ≡ true → b ≡ false
left_new true true h = sym h
left_new true false h = refl
left_new false b h = absurd (differ false h refl)

-- ---- one more number

module _ (p : ℕ → Bool) (ms l : List ℕ) (x : ℕ) where
  pub once-skip : p x ≡ false → T (once_in ms (keep p l)) → T (once_in ms (keep p (l ++ (x ∷ []))))
  once-skip e h = rw (keep_append p l (x ∷ []), e, append-nil (keep p l)) h

  pub once_new : p x ≡ true → has x l ≡ false → has x ms ≡ true → T (once_in ms (keep p l)) → T (once_in ms (keep p (l ++ (x ∷ []))))
  once_new e new old h =
      let (d, a) = (and_iff (distinct (keep p l)) (all (λ u. has u ms) (keep p l))).0 h in
      let last : (has x ms && true) ≡ true = rw old in
      (and_iff (distinct (keep p (l ++ (x ∷ [])))) (all (λ u. has u ms) (keep p (l ++ (x ∷ []))))).1 (
        new_more p l x e new d,
        rw (keep_append p l (x ∷ []), e, all_append (λ (u : ℕ). has u ms) (keep p l) (x ∷ []))
            ((and_iff (all (λ u. has u ms) (keep p l)) (has x ms && true)).1 (a, passes _ last)),
      )

  -- a number without a mark was met before or is not in ms, so the test fails
  pub once_lost : (rest : List ℕ) → p x ≡ true → (has x ms && not (has x l)) ≡ false → once_in ms (keep p (l ++ x ∷ rest)) ≡ false
  once_lost rest e lost = go (has x l) refl
    where
      us : List ℕ
      us = keep p (l ++ x ∷ rest)

      here : T (has x (l ++ x ∷ rest))
      here = (has-append x l (x ∷ rest)).1 (inr ((has-cons x x rest).1 (inl refl)))

      not_in : has x l ≡ false → has x ms ≡ false
      not_in f = pick (has x ms) (ap (λ (b : Bool). has x ms && not b) (sym f) ∙ lost)
        where
          pick : (b : Bool) → (b && true) ≡ false → b ≡ false
          pick true h = h
          pick false h = refl

      go : (b : Bool) → has x l ≡ b → once_in ms us ≡ false
      go true q = and-false (distinct us) (all (λ u. has u ms) us) (old_more p l x rest e q)
      go false q = and_right (distinct us) (all (λ u. has u ms) us)
          (failed _ (λ a. fails (has x ms) (not_in q) ((all-has (λ u. has u ms) us).0 a x ((has-keep p x (l ++ x ∷ rest)).1 (here, passes (p x) e)))))

-- ---- windows

once-kept : (p : ℕ → Bool) (ms us : List ℕ) → T (once_in ms us) → T (once_in ms (keep p us))
once-kept p ms us h =
    let (d, a) = (and_iff (distinct us) (all (λ u. has u ms) us)).0 h in
    (and_iff (distinct (keep p us)) (all (λ u. has u ms) (keep p us))).1 (
      distinct-keep p us d,
      (all-has (λ u. has u ms) (keep p us)).1 (λ u k. (all-has (λ v. has v ms) us).0 a u ((has-keep p u us).0 k).0),
    )

pub once_fails : (p : ℕ → Bool) (ms us : List ℕ) → once_in ms (keep p us) ≡ false → once_in ms us ≡ false
once_fails p ms us e = failed (once_in ms us) (λ h. fails _ e (once-kept p ms us h))

pub once-none : (ms us : List ℕ) → T (once_in ms (keep (λ x. ltb x 0) us))
once-none ms us =
    (and_iff (distinct (keep (λ x. ltb x 0) us)) (all (λ u. has u ms) (keep (λ x. ltb x 0) us))).1 (
      window_none us,
      (all-has (λ u. has u ms) (keep (λ x. ltb x 0) us)).1 (λ u k. absurd (omega (arith, ltb→lt u 0 ((has-keep (λ x. ltb x 0) u us).0 k).1))),
    )

pub once_more : (low size : ℕ) (ms us : List ℕ) → T (once_in ms (keep (λ x. ltb x low) us)) → T (once_in ms (keep (within low size) us))
    → T (once_in ms (keep (λ x. ltb x (low + size)) us))
once_more low size ms us h k =
    let held : ℕ → Bool = λ u. has u ms in
    let (d, a) = (and_iff (distinct (keep (λ x. ltb x low) us)) (all held (keep (λ x. ltb x low) us))).0 h in
    let (e, b) = (and_iff (distinct (keep (within low size) us)) (all held (keep (within low size) us))).0 k in
    (and_iff (distinct (keep (λ x. ltb x (low + size)) us)) (all held (keep (λ x. ltb x (low + size)) us))).1 (
      window_more low size us d e,
      (all-has held (keep (λ x. ltb x (low + size)) us)).1 (λ u m.
          let (in-us, less) = (has-keep (λ x. ltb x (low + size)) u us).0 m in
          elim (lt_or_le u low) [
            | inl l ↦ (all-has held (keep (λ x. ltb x low) us)).0 a u ((has-keep (λ x. ltb x low) u us).1 (in-us, lt→ltb u low l))
            | inr l ↦ (all-has held (keep (within low size) us)).0 b u
                ((has-keep (within low size) u us).1 (in-us, passes _ (within_in low size u l (omega (arith, ltb→lt u (low + size) less)))))
          ]),
    )

pub once-all : (n high : ℕ) (ms us : List ℕ) → all (λ x. ltb x n) us ≡ true → n ≤ high → T (once_in ms (keep (λ x. ltb x high) us)) → once_in ms us ≡ true
once-all n high ms us a l h =
    passed (once_in ms us) (rw (keep_all (λ x. ltb x high) us ((all-has (λ x. ltb x high) us).1 (λ x k.
    lt→ltb x high (omega (arith, ltb→lt x n ((all-has (λ x. ltb x n) us).0 (passes _ a) x k)))))) at h)
