-- Lists filtered by a test (`keep`), as a loop computes them step by step.
use Prim.Native.Nat.{ℕ, zero, suc, ◌+◌, ◌-◌, ◌≤◌, ◌<◌}
use native.Mathlib.Numerals.{add-one}
use native.Mathlib.Omega.{arith}
use mathlib.Core.Path.{◌≡◌, refl, ap, ◌∙◌}
use mathlib.Core.Logic.{inl, inr}
use mathlib.Core.Bool.{Bool, true, false, cond}
use mathlib.Core.List.{List, [], ◌∷◌, ◌++◌, append-nil}
use lib.ListN.{length, drop, length-append}
use lib.Seq.{drop-cons}
use lib.Dec.{T}
use Rattle.layout.specs.General.Lists.{has, keep, below}
use Rattle.layout.proofs.Lists.Members.{has-cons, length-up_from, get_or-below}
use Rattle.layout.proofs.Lists.Joins.{up_from_last}

module _ {A : Type 0} (p : A → Bool) where
  pub keep_append : (xs ys : List A) → keep p (xs ++ ys) ≡ keep p xs ++ keep p ys
  keep_append [] ys = refl
  keep_append (x ∷ xs) ys = rw (keep_append xs ys) (pick (p x))
    where
      pick : (b : Bool) → cond b (x ∷ (keep p xs ++ keep p ys)) (keep p xs ++ keep p ys) ≡ cond b (x ∷ keep p xs) (keep p xs) ++ keep p ys
      pick true = refl
      pick false = refl

-- tests that agree on the members keep the same elements
pub keep_same : (p q : ℕ → Bool) (xs : List ℕ) → ((x : ℕ) → T (has x xs) → p x ≡ q x) → keep p xs ≡ keep q xs
keep_same p q [] h = refl
keep_same p q (x ∷ xs) h =
    rw (h x ((has-cons x x xs).1 (inl refl)), keep_same p q xs (λ y k. h y ((has-cons y x xs).1 (inr k))))

pub below_more : (k : ℕ) → below (k + 1) ≡ below k ++ (k ∷ [])
below_more k = rw add-one (up_from_last 0 k ∙ ap (λ (x : ℕ). below k ++ (x ∷ [])) (omega arith))

-- filtering one number more: k is appended if it passes, otherwise nothing is
pub keep_hit : (p : ℕ → Bool) (k : ℕ) → p k ≡ true → keep p (below (k + 1)) ≡ keep p (below k) ++ (k ∷ [])
keep_hit p k h = ap (keep p) (below_more k) ∙ keep_append p (below k) (k ∷ []) ∙ rw h

pub keep_miss : (p : ℕ → Bool) (k : ℕ) → p k ≡ false → keep p (below (k + 1)) ≡ keep p (below k)
keep_miss p k h = ap (keep p) (below_more k) ∙ keep_append p (below k) (k ∷ []) ∙ rw h (append-nil (keep p (below k)))

-- filtering a longer range keeps at least as many numbers
keep_mono : (p : ℕ → Bool) (k d : ℕ) → length (keep p (below k)) ≤ length (keep p (below (k + d)))
keep_mono p k zero = let e : k + 0 ≡ k = omega arith in rw e (omega arith)
keep_mono p k (suc d) = go (p (k + d)) refl (keep_mono p k d)
  where
    go : (b : Bool) → p (k + d) ≡ b → length (keep p (below k)) ≤ length (keep p (below (k + d)))
        → length (keep p (below k)) ≤ length (keep p (below (k + suc d)))
    go true e h =
        let q : k + suc d ≡ k + d + 1 = omega arith in
        rw (q, keep_hit p (k + d) e) (omega (arith, length-append (keep p (below (k + d))) ((k + d) ∷ [])))
    go false e h =
        let q : k + suc d ≡ k + d + 1 = omega arith in
        rw (q, keep_miss p (k + d) e) h

pub keep-le : (p : ℕ → Bool) (k n : ℕ) → k ≤ n → length (keep p (below k)) ≤ length (keep p (below n))
keep-le p k n h = let e : n ≡ k + (n - k) = omega arith in rw e (keep_mono p k (n - k))

-- the numbers below n from k on are k and then those from k + 1 on
pub drop-below : (n k : ℕ) → k < n → drop k (below n) ≡ k ∷ drop (k + 1) (below n)
drop-below n k h =
    rw (add-one) (drop-cons (below n) k 0 (rw (length-up_from 0 n) h) ∙ ap (λ (x : ℕ). x ∷ drop (suc k) (below n)) (get_or-below n k 0 h))
