-- The test for a permutation, number by number: the next number passes, or is out of range, or has been met.
use Prim.Native.Nat.{ℕ, suc, ◌+◌, ◌≤◌, ◌<◌}
use native.Mathlib.Omega.{arith}
use mathlib.Core.Path.{◌≡◌, refl, ap, ◌∙◌}
use mathlib.Core.Bool.{Bool, true, false}
use mathlib.Core.List.{List, []}
use lib.ListN.{length, take, drop, get_or}
use lib.Seq.{take_all}
use lib.Dec.{T, ltb}
use borrow.Author.Tests.{lt-ltb, le-ltb}
use Rattle.layout.specs.General.Lists.{has, all, keep, distinct, is_permutation}
use Rattle.layout.proofs.Lists.Tests.{and-true, and-false, and_right}
use Rattle.layout.proofs.Lists.Walks.{all-step, all_fails, all_done}
use Rattle.utils.specs.Passed.{PassedTo}
use Rattle.utils.proofs.Windows.{take_more, split_more, new_more, old_more, repeats_within, windows_all}

module _ (ws : List ℕ) where
  pub passed_none : PassedTo ws 0
  passed_none = (tt, refl)

  pub passed_more : (k : ℕ) → k < length ws → get_or ws k 0 < length ws → has (get_or ws k 0) (take k ws) ≡ false → PassedTo ws k → PassedTo ws (k + 1)
  passed_more k h l new p =
      let e : ltb (get_or ws k 0) (length ws) ≡ true = lt-ltb (get_or ws k 0) (length ws) l in (
        rw (take_more [] ws k h) (new_more (λ x. ltb x (length ws)) (take k ws) (get_or ws k 0) e new p.0),
        p.1 ∙ all-step (λ x. ltb x (length ws)) ws k 0 h e,
      )

  pub passed_all : (k : ℕ) → length ws ≤ k → PassedTo ws k → is_permutation ws ≡ true
  passed_all k l p =
      let every : all (λ x. ltb x (length ws)) ws ≡ true = p.1 ∙ all_done (λ x. ltb x (length ws)) ws k l in
      let once : T (distinct (keep (λ x. ltb x (length ws)) ws)) = rw (take_all k ws l) at p.0 in
      and-true _ _ every ∙ windows_all (length ws) (length ws) ws every (omega arith) once

  -- number k is not below the length
  pub out-refused : (k : ℕ) → k < length ws → length ws ≤ get_or ws k 0 → PassedTo ws k → is_permutation ws ≡ false
  out-refused k h l p = and-false _ (distinct ws) (p.1 ∙ all_fails (λ x. ltb x (length ws)) ws k 0 h (le-ltb (get_or ws k 0) (length ws) l))

  -- number k has been met
  pub met_refused : (k : ℕ) → k < length ws → get_or ws k 0 < length ws → has (get_or ws k 0) (take k ws) ≡ true → is_permutation ws ≡ false
  met_refused k h l met =
      let p : ℕ → Bool = λ x. ltb x (length ws) in
      and_right (all p ws) (distinct ws) (repeats_within p ws (ap (λ (m : List ℕ). distinct (keep p m)) (split_more [] ws k h)
      ∙ old_more p (take k ws) (get_or ws k 0) (drop (suc k) ws) (lt-ltb (get_or ws k 0) (length ws) l) met))
