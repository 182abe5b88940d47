-- The order of the refusals of `same_layout`.
use Prim.Native.Nat.{ℕ, zero, suc, ◌≤◌, ◌<◌}
use native.Mathlib.Omega.{arith}
use mathlib.Core.Path.{◌≡◌, refl, sym, ap, subst, ◌∙◌}
use mathlib.Core.Bool.{cond}
use mathlib.Core.List.{List, []}
use lib.ListN.{length, set}
use borrow.Author.Tests.{le-leb, lt-leb}
use Rattle.layout.specs.Problems.Problem.{Problem}
use Rattle.layout.specs.Calls.Answers.{output, or_else, room_refusal, problem_refusal}
use Rattle.layout.specs.Calls.SameLayout.{same_layout, same_layout_words, SameLayout}
use Rattle.layout.proofs.Lists.Buffers.{set-written}
use Rattle.layout.proofs.Promises.{output-kept}
use Rattle.check_problem.proofs.Order.{first-given}

-- ---- the order of refusals

in_turn : (a b c : ℕ) → or_else a (or_else b c) ≡ or_else (or_else a b) c
in_turn zero b c = refl
in_turn (suc a) b c = refl

-- ---- the three ways in which the call ends; k is the number of both problems' checks

module _ (p q : Problem) (old : List ℕ) (k : ℕ) (e : k ≡ or_else (problem_refusal p) (problem_refusal q)) where
  ends : (r : ℕ) (out : List ℕ) → or_else k (room_refusal 1 (length old)) ≡ r → out ≡ output r (same_layout_words p q) old → SameLayout p q old out r
  ends r out h o = record {
    number =
        sym (in_turn (problem_refusal p) (problem_refusal q) (room_refusal 1 (length old))
        ∙ ap (λ (j : ℕ). or_else j (room_refusal 1 (length old))) (sym e) ∙ h);
    out = o;
  }

  pub refused : (r : ℕ) → r ≡ k → 0 < k → SameLayout p q old old r
  refused r s h =
      let some : k ≡ 0 → ⊥ = λ z. omega (arith, h, z) in
      subst (λ (j : ℕ). SameLayout p q old old j) (sym s)
      (ends k old (first-given k (room_refusal 1 (length old)) some) (output-kept k (same_layout_words p q) old some))

module _ (p q : Problem) (old : List ℕ) (e : 0 ≡ or_else (problem_refusal p) (problem_refusal q)) where
  pub no_room : length old < 1 → SameLayout p q old old 11
  no_room l = ends p q old 0 e 11 old (rw (lt-leb 1 (length old) l)) refl

  pub answered : 1 ≤ length old → (v : ℕ) → v ≡ cond (same_layout p q) 1 0 → SameLayout p q old (set old 0 v) 0
  answered l v g =
      let o : set old 0 v ≡ output 0 (same_layout_words p q) old =
      ap (λ (u : ℕ). set old 0 u) g ∙ set-written [] old (cond (same_layout p q) 1 0) 0 refl l in
      ends p q old 0 e 0 (set old 0 v) (rw (le-leb 1 (length old) l)) o
