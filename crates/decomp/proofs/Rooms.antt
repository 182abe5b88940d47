-- Check 11 of the cut: the number that it gives after checks 1 to 10.
use Prim.Native.Nat.{ℕ, zero, suc}
use native.Mathlib.Omega.{arith}
use mathlib.Core.Path.{◌≡◌, refl, sym, ap, ◌∙◌}
use mathlib.Core.Bool.{Bool, cond}
use mathlib.Core.List.{List}
use lib.ListN.{replicate}
use Rattle.layout.specs.Problems.Problem.{Problem, standard, compact}
use Rattle.layout.specs.Checks.{refusal}
use Rattle.layout.specs.Calls.Answers.{or_else, output, on_route, route_of, roomy}
use Rattle.layout.specs.Calls.Cut.{sizes, cut_refusal}
use Rattle.layout.specs.Calls.Sizes.{sizes_refusal}

-- a problem that `sizes` refuses is refused by the cut under the same number
after-sizes : (a : ℕ) (t : Bool) → (or_else a 0 ≡ 0 → ⊥) → or_else a (cond t 0 11) ≡ or_else a 0
after-sizes zero t h = absurd (h refl)
after-sizes (suc a) t h = refl

module _ (p : Problem) (rooms : List ℕ) where
  first : (k : ℕ) → (on_route k (λ rt. sizes_refusal rt p 11) ≡ 0 → ⊥) → on_route k (λ rt. cut_refusal rt p rooms) ≡ on_route k (λ rt. sizes_refusal rt p 11)
  first zero h = after-sizes (refusal standard p) (roomy (sizes standard p) rooms) h
  first (suc zero) h = after-sizes (refusal compact p) (roomy (sizes compact p) rooms) h
  first (suc (suc k)) h = refl

  pub sizes-first : (k x : ℕ) → x ≡ on_route k (λ rt. sizes_refusal rt p 11) → (x ≡ 0 → ⊥) → x ≡ on_route k (λ rt. cut_refusal rt p rooms)
  sizes-first k x e h = e ∙ sym (first k (λ z. h (e ∙ z)))

passed_first : (a : ℕ) (t : Bool) → or_else a 0 ≡ 0 → or_else a (cond t 0 11) ≡ cond t 0 11
passed_first zero t h = refl
passed_first (suc a) t h = absurd (omega arith)

module _ (p : Problem) (rooms : List ℕ) where
  next : (k : ℕ) → on_route k (λ rt. sizes_refusal rt p 11) ≡ 0 → on_route k (λ rt. cut_refusal rt p rooms) ≡ cond (roomy (sizes (route_of k) p) rooms) 0 11
  next zero h = passed_first (refusal standard p) (roomy (sizes standard p) rooms) h
  next (suc zero) h = passed_first (refusal compact p) (roomy (sizes compact p) rooms) h
  next (suc (suc k)) h = absurd (omega arith)

  -- `needs` has the sizes
  pub rooms-next : (k x : ℕ) (needs : List ℕ) → x ≡ on_route k (λ rt. sizes_refusal rt p 11) → x ≡ 0 → needs ≡ output x (sizes (route_of k) p) (replicate 11 0)
      → cond (roomy needs rooms) 0 11 ≡ on_route k (λ rt. cut_refusal rt p rooms)
  rooms-next k x needs e z w =
      ap (λ (l : List ℕ). cond (roomy l rooms) 0 11) (w ∙ ap (λ (r : ℕ). output r (sizes (route_of k) p) (replicate 11 0)) z) ∙ sym (next k (sym e ∙ z))
