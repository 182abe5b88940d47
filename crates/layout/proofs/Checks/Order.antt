-- The checking order: refusal number 0 means that every check passes; checks made in groups.
use Prim.Native.Nat.{ℕ, zero, suc, ◌+◌, ◌≤◌, ◌<◌, zero-le, suc-le-suc}
use native.Mathlib.Nat.{le_of_suc-le-suc, not-suc-le-zero}
use native.Mathlib.Omega.{arith}
use mathlib.Core.Path.{◌≡◌, refl, subst, sym, ap, ◌∙◌}
use mathlib.Core.Logic.{◌↔◌, inl, inr}
use mathlib.Core.Bool.{Bool, true, false, not, cond, ◌&&◌}
use mathlib.Core.List.{List, [], ◌∷◌, ◌++◌}
use lib.Dec.{T, leb, eqb, leb→le}
use Rattle.layout.specs.General.Lists.{has, all, up_from, join}
use Rattle.layout.specs.Checks.{Check, check, first_failing}
use Rattle.layout.specs.Calls.Answers.{or_else}
use Rattle.layout.proofs.Lists.Tests.{and_iff, eqb_iff}
use Rattle.layout.proofs.Lists.Members.{has-cons}

-- ---- `or_else`: the first number that is not 0

pub or_else-zero : (a b : ℕ) → (or_else a b ≡ 0) ↔ ((a ≡ 0) × (b ≡ 0))
or_else-zero zero b = (λ e. (refl, e), λ h. h.1)
or_else-zero (suc a) b = (λ e. absurd (omega arith), λ h. absurd (omega arith))

pub or_else_assoc : (a b c : ℕ) → or_else (or_else a b) c ≡ or_else a (or_else b c)
or_else_assoc zero b c = refl
or_else_assoc (suc a) b c = refl

-- the second number matters only where the first is 0
pub or_else_same : (a b c : ℕ) → (a ≡ 0 → b ≡ c) → or_else a b ≡ or_else a c
or_else_same zero b c h = h refl
or_else_same (suc a) b c h = refl

-- ---- checks in order

-- whether no check has the number 0, which means that nothing is refused
abbrev numbered : List Check → Bool
numbered [] = true
numbered (check zero b ∷ cs) = false
numbered (check (suc k) b ∷ cs) = numbered cs

-- whether the first check with number k passes, if there is one
abbrev pub passing : ℕ → List Check → Bool
passing k [] = true
passing k (check j b ∷ cs) = let r = passing k cs in cond (eqb k j) b r

pub passed : (k : ℕ) (cs : List Check) → T (numbered cs) → first_failing cs ≡ 0 → T (passing k cs)
passed k [] h e = tt
passed k (check zero b ∷ cs) h e = absurd h
passed k (check (suc j) false ∷ cs) h e = absurd (omega arith)
passed k (check (suc j) true ∷ cs) h e = go (eqb k (suc j)) (passed k cs h e)
  where
    go : (t : Bool) → T (passing k cs) → T (cond t true (passing k cs))
    go true r = tt
    go false r = r

-- every check passes
abbrev Passing : List Check → Type 0
Passing [] = Unit {0}
Passing (check k b ∷ cs) = T b × Passing cs

-- if every check passes, the refusal number is 0
pub none_fails : (cs : List Check) → Passing cs → first_failing cs ≡ 0
none_fails [] h = refl
none_fails (check k true ∷ cs) h = none_fails cs h.1
none_fails (check k false ∷ cs) h = absurd h.0

-- if only check k can fail, it alone decides the refusal number
pub one_fails : (cs : List Check) (k : ℕ) (b : Bool) (ds : List Check) → Passing cs → Passing ds
    → first_failing (cs ++ (check k b ∷ ds)) ≡ cond b 0 k
one_fails [] k b ds h g = ap (λ (r : ℕ). cond b r k) (none_fails ds g)
one_fails (check j true ∷ cs) k b ds h g = one_fails cs k b ds h.1 g
one_fails (check j false ∷ cs) k b ds h g = absurd h.0

-- whether no check has the number k
abbrev lacks : ℕ → List Check → Bool
lacks k [] = true
lacks k (check j b ∷ cs) = not (eqb j k) && lacks k cs

-- a number that no check has is not the refusal number
pub never_given : (k : ℕ) (cs : List Check) → T (lacks (suc k) cs) → first_failing cs ≡ suc k → ⊥
never_given k [] h e = absurd (omega arith)
never_given k (check j true ∷ cs) h e = never_given k cs ((and_iff (not (eqb j (suc k))) (lacks (suc k) cs)).0 h).1 e
never_given k (check j false ∷ cs) h e = go (eqb j (suc k)) refl ((and_iff (not (eqb j (suc k))) (lacks (suc k) cs)).0 h).0
  where
    go : (t : Bool) → eqb j (suc k) ≡ t → T (not t) → ⊥
    go true q n = n
    go false q n = absurd (subst T q ((eqb_iff j (suc k)).1 e))

-- whether no check has a number above `most`
abbrev numbers_most : ℕ → List Check → Bool
numbers_most most [] = true
numbers_most most (check k b ∷ cs) = leb k most && numbers_most most cs

pub failing_most : (most : ℕ) (cs : List Check) → T (numbers_most most cs) → first_failing cs ≤ most
failing_most most [] h = zero-le
failing_most most (check k true ∷ cs) h = failing_most most cs ((and_iff (leb k most) (numbers_most most cs)).0 h).1
failing_most most (check k false ∷ cs) h = leb→le k most ((and_iff (leb k most) (numbers_most most cs)).0 h).0

-- the refusal number of two groups in order is that of the first or else that of the second
pub failing_append : (cs ds : List Check) → T (numbered cs)
    → first_failing (cs ++ ds) ≡ or_else (first_failing cs) (first_failing ds)
failing_append [] ds h = refl
failing_append (check zero b ∷ cs) ds h = absurd h
failing_append (check (suc k) true ∷ cs) ds h = failing_append cs ds h
failing_append (check (suc k) false ∷ cs) ds h = refl

-- ---- a group of checks for each number

module _ (f : ℕ → List Check) (right : (k : ℕ) → T (numbered (f k))) where
  group : (k : ℕ) (ks : List ℕ) → first_failing (join f (k ∷ ks)) ≡ or_else (first_failing (f k)) (first_failing (join f ks))
  group k ks = failing_append (f k) (join f ks) (right k)

  -- nothing is refused exactly when no group refuses
  pub failing_each : (ks : List ℕ) → (first_failing (join f ks) ≡ 0) ↔ ((k : ℕ) → T (has k ks) → first_failing (f k) ≡ 0)
  failing_each [] = (λ e k h. absurd h, λ h. refl)
  failing_each (k ∷ ks) = (
    λ e j h.
        let both = (or_else-zero (first_failing (f k)) (first_failing (join f ks))).0 (sym (group k ks) ∙ e) in
        elim ((has-cons j k ks).0 h) [
          | inl q ↦ ap (λ (i : ℕ). first_failing (f i)) q ∙ both.0
          | inr l ↦ (failing_each ks).0 both.1 j l
        ],
    λ h.
        group k ks ∙ (or_else-zero (first_failing (f k)) (first_failing (join f ks))).1
        (h k ((has-cons k k ks).1 (inl refl)), (failing_each ks).1 (λ j l. h j ((has-cons j k ks).1 (inr l)))),
  )

  -- otherwise the refusal number is that of the first group that refuses
  pub failing_first : (a c : ℕ) → ¬ (first_failing (join f (up_from a c)) ≡ 0)
      → (k : ℕ) × (k < c) × (first_failing (f (a + k)) ≡ first_failing (join f (up_from a c)))
      × ((j : ℕ) → j < k → first_failing (f (a + j)) ≡ 0)
  failing_first a zero n = absurd (n refl)
  failing_first a (suc c) n = go (first_failing (f a)) refl (λ m. failing_first (suc a) c m)
    where
      front : (i : ℕ) → i ≡ 0 → a + i ≡ a
      front i e = omega arith

      back : (i : ℕ) → a + suc i ≡ suc a + i
      back i = omega arith

      at : (i j : ℕ) → i ≡ j → first_failing (f i) ≡ first_failing (f j)
      at i j e = ap (λ (k : ℕ). first_failing (f k)) e

      whole : (r : ℕ) → first_failing (f a) ≡ r → first_failing (join f (up_from a (suc c))) ≡ or_else r (first_failing (join f (up_from (suc a) c)))
      whole r e = group a (up_from (suc a) c) ∙ ap (λ (k : ℕ). or_else k (first_failing (join f (up_from (suc a) c)))) e

      earlier : (k : ℕ) → first_failing (f a) ≡ 0 → ((j : ℕ) → j < k → first_failing (f (suc a + j)) ≡ 0)
          → (j : ℕ) → j < suc k → first_failing (f (a + j)) ≡ 0
      earlier k e h zero l = at (a + 0) a (front 0 refl) ∙ e
      earlier k e h (suc j) l = at (a + suc j) (suc a + j) (back j) ∙ h j (le_of_suc-le-suc l)

      go : (r : ℕ) → first_failing (f a) ≡ r
          → (¬ (first_failing (join f (up_from (suc a) c)) ≡ 0)
          → (k : ℕ) × (k < c) × (first_failing (f (suc a + k)) ≡ first_failing (join f (up_from (suc a) c)))
          × ((j : ℕ) → j < k → first_failing (f (suc a + j)) ≡ 0))
          → (k : ℕ) × (k < suc c) × (first_failing (f (a + k)) ≡ first_failing (join f (up_from a (suc c))))
          × ((j : ℕ) → j < k → first_failing (f (a + j)) ≡ 0)
      go zero e later =
          let (k, l, g, h) = later (λ z. n (whole 0 e ∙ z)) in
          (suc k, suc-le-suc l, at (a + suc k) (suc a + k) (back k) ∙ g ∙ sym (whole 0 e), earlier k e h)
      go (suc r) e later =
          (0, suc-le-suc zero-le, at (a + 0) a (front 0 refl) ∙ e ∙ sym (whole (suc r) e), λ j l. absurd (not-suc-le-zero l))

  -- if each group gives 0 or suc n by a test, all groups together give 0 where all tests pass and suc n otherwise
  pub failing_tests : (n : ℕ) (test : ℕ → Bool) (ks : List ℕ) → ((k : ℕ) → T (has k ks) → first_failing (f k) ≡ cond (test k) 0 (suc n))
      → first_failing (join f ks) ≡ cond (all test ks) 0 (suc n)
  failing_tests n test [] h = refl
  failing_tests n test (k ∷ ks) h =
      group k ks ∙ ap (λ (r : ℕ). or_else r (first_failing (join f ks))) (h k ((has-cons k k ks).1 (inl refl)))
      ∙ go (test k) (failing_tests n test ks (λ j l. h j ((has-cons j k ks).1 (inr l))))
    where
      go : (b : Bool) → first_failing (join f ks) ≡ cond (all test ks) 0 (suc n)
          → or_else (cond b 0 (suc n)) (first_failing (join f ks)) ≡ cond (b && all test ks) 0 (suc n)
      go true e = e
      go false e = refl
