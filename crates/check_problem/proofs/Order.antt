-- The first failing check, group by group.
use Prim.Native.Nat.{ℕ, zero, suc, ◌≤◌}
use native.Mathlib.Omega.{arith}
use mathlib.Core.Path.{◌≡◌, refl, sym, ap, ◌∙◌}
use mathlib.Core.Bool.{Bool, true, false, cond, ◌&&◌}
use mathlib.Core.List.{List, [], ◌∷◌, ◌++◌}
use lib.ListN.{length}
use lib.Dec.{T, leb, eqb}
use lib.Ieee.{Float}
use Rattle.layout.specs.Problems.Problem.{Csc, Problem, Route}
use Rattle.layout.specs.Checks.{cones_bounded, cones_read, alphas_as_many, check1, check2, check3, check4, check10, Check, check, first_failing, pattern_checks, problem_checks, route_checks, refusal}
use Rattle.layout.proofs.Lists.Tests.{and_iff, leb_iff, passed, passes, differ}
use Rattle.layout.proofs.Checks.Order.{failing_append, or_else_assoc}
use Rattle.layout.specs.Calls.Join.{join_bounded, join_checks, joined_parts}
use Rattle.layout.specs.Calls.Answers.{or_else, problem_refusal}
use Rattle.check_problem.specs.Order.{bounds, matrices_refusal, records_refusal, tables_refusal, patterns_refusal, joined_checks, joined_refusal}

-- checks 1 to 10 of a problem are 1 to 7, then those of the route
pub problem_then_route : (route : Route) (p : Problem) → refusal route p ≡ or_else (problem_refusal p) (first_failing (route_checks route p))
problem_then_route route p = failing_append (problem_checks p) (route_checks route p) tt

-- the same for a joining
pub joined_then_route : (route : Route) (n m : ℕ) (cones : List ℕ) (count : ℕ) (words : List ℕ)
    → join_checks route n m cones count words
    ≡ or_else (joined_refusal n m cones count words) (cond (check10 route m (joined_parts cones count words)) 0 10)
joined_then_route route n m cones count words =
    failing_append (joined_checks n m cones count words) (check 10 (check10 route m (joined_parts cones count words)) ∷ []) tt

-- check 4 splits into the test of α and the rest, each giving 4
alphas_apart : (p : Problem) (x : ℕ)
    → or_else (cond (check4 p) 0 4) x
    ≡ or_else (records_refusal p.n p.m p.q p.b p.cones) (or_else (cond (alphas_as_many p.cones p.alphas) 0 4) x)
alphas_apart p x = go (cones_read p.m p.cones) (alphas_as_many p.cones p.alphas) (eqb (length p.q) p.n) (eqb (length p.b) p.m)
  where
    go : (a b c d : Bool) → or_else (cond (a && b && c && d) 0 4) x ≡ or_else (cond (a && c && d) 0 4) (or_else (cond b 0 4) x)
    go false b c d = refl
    go true true c d = refl
    go true false false d = refl
    go true false true false = refl
    go true false true true = refl

-- checks 1 to 7 in their groups
in_groups : (p : Problem)
    → problem_refusal p
    ≡ or_else (tables_refusal p.n p.m p.P p.q p.A p.b p.cones)
    (or_else (cond (alphas_as_many p.cones p.alphas) 0 4) (patterns_refusal p.cones p.pattern_count p.pattern_words))
in_groups p =
    let matrices : List Check = check 2 (check2 p) ∷ check 3 (check3 p) ∷ [] in
    let records : List Check = check 4 (check4 p) ∷ [] in
    let x : ℕ = cond (check1 p) 0 1 in
    let y = matrices_refusal p.n p.m p.P p.A in
    let z = records_refusal p.n p.m p.q p.b p.cones in
    let rest = patterns_refusal p.cones p.pattern_count p.pattern_words in
    let last : ℕ = or_else (cond (alphas_as_many p.cones p.alphas) 0 4) rest in
    failing_append (check 1 (check1 p) ∷ []) (matrices ++ records ++ pattern_checks p) tt
    ∙ ap (or_else x)
    (failing_append matrices (records ++ pattern_checks p) tt
    ∙ ap (or_else y) (failing_append records (pattern_checks p) tt ∙ alphas_apart p rest)
    ∙ sym (or_else_assoc y z last))
    ∙ sym (or_else_assoc x (or_else y z) last)

-- ---- two refusal numbers: the second counts where the first is 0

pub first-given : (a b : ℕ) → (a ≡ 0 → ⊥) → or_else a b ≡ a
first-given zero b h = absurd (h refl)
first-given (suc a) b h = refl

-- the first number where it is not 0, otherwise the next
pub first-refused : (a b r : ℕ) → r ≡ a → (r ≡ 0 → ⊥) → r ≡ or_else a b
first-refused a b r e n = e ∙ sym (first-given a b (λ z. n (e ∙ z)))

pub next-given : (a b k r : ℕ) → k ≡ a → k ≡ 0 → r ≡ b → r ≡ or_else a b
next-given a b k r e z f = f ∙ ap (λ (i : ℕ). or_else i b) (sym z ∙ e)

pub both_zero : (a b : ℕ) → or_else a b ≡ 0 → (a ≡ 0) × (b ≡ 0)
both_zero zero b e = (refl, e)
both_zero (suc a) b e = absurd (omega arith)

-- the refusal number of a problem, at each group of checks
pub problem_order : (p : Problem) →
    let tables = tables_refusal p.n p.m p.P p.q p.A p.b p.cones in
    let alphas = alphas_as_many p.cones p.alphas in
    ((tables ≡ 0 → ⊥) → problem_refusal p ≡ tables) × (tables ≡ 0 → alphas ≡ false → problem_refusal p ≡ 4)
    × (tables ≡ 0 → alphas ≡ true → problem_refusal p ≡ patterns_refusal p.cones p.pattern_count p.pattern_words)
problem_order p = order _ (alphas_as_many p.cones p.alphas) _ _ (in_groups p)
  where
    order : (a : ℕ) (t : Bool) (c x : ℕ) → x ≡ or_else a (or_else (cond t 0 4) c)
        → ((a ≡ 0 → ⊥) → x ≡ a) × (a ≡ 0 → t ≡ false → x ≡ 4) × (a ≡ 0 → t ≡ true → x ≡ c)
    order a t c x e = (λ h. e ∙ first-given a _ h, λ z f. e ∙ rw (z, f), λ z f. e ∙ rw (z, f))

-- ---- what a test that passed gives

-- a test whose number is not 0 failed
pub refused : (b : Bool) (k : ℕ) → (cond b 0 k ≡ 0 → ⊥) → b ≡ false
refused true k h = absurd (h refl)
refused false k h = refl

-- a test whose number is 0 passed
not-refused : (b : Bool) (k : ℕ) → cond b 0 (suc k) ≡ 0 → b ≡ true
not-refused true k e = refl
not-refused false k e = absurd (omega arith)

and_last : (a b : Bool) → (a && b) ≡ true → b ≡ true
and_last true b e = e
and_last false b e = absurd (differ false e refl)

pub bounded-cones : (n m : ℕ) (cones : List ℕ) → join_bounded n m cones ≡ true → cones_bounded cones ≡ true
bounded-cones n m cones e = and_last (leb n 65536 && leb m 65536) (cones_bounded cones) e

pub bounds-cones : (n m a_entries p_entries : ℕ) (cones : List ℕ) → bounds n m a_entries p_entries cones ≡ true → cones_bounded cones ≡ true
bounds-cones n m a_entries p_entries cones e =
    and_last (leb n 65536 && leb m 65536 && leb a_entries 262144 && leb p_entries 262144) (cones_bounded cones) e

-- the facts that checks 1 and 4 give of rows and cones
pub tables_passed : (n m : ℕ) (P : Csc) (q : List Float) (A : Csc) (b : List Float) (cones : List ℕ) → tables_refusal n m P q A b cones ≡ 0
    → (m ≤ 65536) × T (cones_bounded cones) × T (cones_read m cones)
tables_passed n m P q A b cones e =
    let first = bounds n m (length A.values) (length P.values) cones in
    let fourth = cones_read m cones && eqb (length q) n && eqb (length b) m in
    let (none1, others) = both_zero (cond first 0 1) (or_else (matrices_refusal n m P A) (cond fourth 0 4)) e in
    let (_, none4) = both_zero (matrices_refusal n m P A) (cond fourth 0 4) others in
    let (counts, bounded) =
    (and_iff (leb n 65536 && leb m 65536 && leb (length A.values) 262144 && leb (length P.values) 262144) (cones_bounded cones)).0
    (passes first (not-refused first 0 none1)) in
    let few = simp (and_iff, leb_iff) at counts in
    let (both, _) = (and_iff (cones_read m cones && eqb (length q) n) (eqb (length b) m)).0 (passes fourth (not-refused fourth 3 none4)) in
    (few.0.0.1, bounded, ((and_iff (cones_read m cones) (eqb (length q) n)).0 both).0)
