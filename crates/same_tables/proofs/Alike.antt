-- When the second of two problems need not be checked: it passes checks 1 to 7 where the first does and they read the same of both.
use Prim.Native.Nat.{ℕ}
use mathlib.Core.Path.{◌≡◌, sym, subst, ◌∙◌}
use mathlib.Core.Bool.{Bool, true, ◌&&◌}
use lib.ListN.{length}
use lib.Dec.{T, eqb, eqb→eq}
use Rattle.layout.specs.Problems.Problem.{Problem}
use Rattle.layout.specs.Calls.Answers.{problem_refusal}
use Rattle.layout.specs.Calls.SameLayout.{same_layout}
use Rattle.layout.proofs.Lists.Tests.{and_iff, passes}
use Rattle.layout.proofs.Theorems.SameLayout.{checked_alike}

-- r is the result of the comparison, and k that of the first problem's checks
pub unchecked : (p q : Problem) (same r : Bool) (k : ℕ) → same ≡ same_layout p q
    → r ≡ (same && eqb p.pattern_count q.pattern_count && eqb (length p.P.values) (length q.P.values) && eqb (length p.q) (length q.q)
    && eqb (length p.A.values) (length q.A.values) && eqb (length p.b) (length q.b))
    → r ≡ true → k ≡ problem_refusal p → k ≡ 0 → 0 ≡ problem_refusal q
unchecked p q same r first agreed alike held number ok =
    let count : Bool = eqb p.pattern_count q.pattern_count in
    let values_p : Bool = eqb (length p.P.values) (length q.P.values) in
    let costs : Bool = eqb (length p.q) (length q.q) in
    let values_a : Bool = eqb (length p.A.values) (length q.A.values) in
    let sides : Bool = eqb (length p.b) (length q.b) in
    let (to-A, b) = (and_iff (same && count && values_p && costs && values_a) sides).0 (subst T alike (passes r held)) in
    let (to-q, A) = (and_iff (same && count && values_p && costs) values_a).0 to-A in
    let (to-P, c) = (and_iff (same && count && values_p) costs).0 to-q in
    let (to-k, P) = (and_iff (same && count) values_p).0 to-P in
    let (s, k) = (and_iff same count).0 to-k in
    sym ok ∙ number ∙ checked_alike p q (subst T agreed s) (eqb→eq _ _ k) (eqb→eq _ _ P) (eqb→eq _ _ c) (eqb→eq _ _ A) (eqb→eq _ _ b)
