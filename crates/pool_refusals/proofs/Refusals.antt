-- The refusal number of a pool in the order in which the code finds it: both problems' checks, then the pool's bounds, then the output lengths.
use Prim.Native.Nat.{ℕ, ◌+◌, ◌≤◌, ◌<◌}
use native.Mathlib.Omega.{arith}
use mathlib.Core.Path.{◌≡◌, sym, ap, ◌∙◌}
use mathlib.Core.Bool.{Bool, true, false, cond, ◌&&◌}
use mathlib.Core.List.{List, [], ◌∷◌}
use borrow.Author.Tests.{le-leb, lt-leb}
use lib.ListN.{length}
use lib.Dec.{T, eqb, eqb→eq, leb}
use Rattle.layout.specs.Problems.Problem.{Problem, table_lengths}
use Rattle.layout.specs.Checks.{Checked}
use Rattle.layout.specs.Calls.Answers.{or_else, problem_refusal, roomy}
use Rattle.layout.specs.Calls.Pool.{pool, pool_refusal}
use Rattle.layout.proofs.Checks.Order.{or_else-zero, or_else_assoc}
use Rattle.layout.proofs.Checks.Accepted.{problem_checked}
use Rattle.layout.proofs.Pools.PoolChecks.{pool_bounded, right-first}
use Rattle.layout.proofs.Pools.PoolTables.{pool_refusals_lem, pool-lengths}
use Rattle.check_problem.proofs.Order.{first-refused}
use Rattle.pool_refusals.specs.Refusals.{second_refusal, both_refusal}

-- ---- two numbers in order

-- ---- the refusal number of the pool

module _ (p q : Problem) (rooms : List ℕ) where
  abbrev sizes : ℕ
  sizes = or_else (cond (pool_bounded p q) 0 1) (cond (roomy (table_lengths (pool p q)) rooms) 0 11)

  in_order : pool_refusal p q rooms ≡ or_else (both_refusal p q) sizes
  in_order =
      pool_refusals_lem p q rooms
      ∙ ap (or_else (problem_refusal p)) (sym (or_else_assoc (problem_refusal q) (cond (eqb p.n q.n) 0 17) sizes))
      ∙ sym (or_else_assoc (problem_refusal p) (second_refusal p.n q) sizes)

  pub both_refused : (r : ℕ) → r ≡ both_refusal p q → (r ≡ 0 → ⊥) → r ≡ pool_refusal p q rooms
  both_refused r e n = first-refused (both_refusal p q) sizes r e n ∙ sym in_order

  -- both problems pass their checks and have the same n
  pub both_checked : both_refusal p q ≡ 0 → Checked p × Checked q × (p.n ≡ q.n)
  both_checked e =
      let (first, later) = (or_else-zero (problem_refusal p) (second_refusal p.n q)).0 e in
      let (second, same) = (or_else-zero (problem_refusal q) (cond (eqb p.n q.n) 0 17)).0 later in
      (problem_checked p first, problem_checked q second, eqb→eq p.n q.n (told (eqb p.n q.n) same))
    where
      told : (b : Bool) → cond {A = ℕ} b 0 17 ≡ 0 → T b
      told true e = tt
      told false e = absurd (omega arith)

  pub too_large : both_refusal p q ≡ 0 → pool_bounded p q ≡ false → 1 ≡ pool_refusal p q rooms
  too_large e f =
      sym (in_order ∙ ap (λ (k : ℕ). or_else k sizes) e
      ∙ ap (λ (b : Bool). or_else (cond b 0 1) (cond (roomy (table_lengths (pool p q)) rooms) 0 11)) f)

  pub by-room : (needs : List ℕ) (r : ℕ) → both_refusal p q ≡ 0 → pool_bounded p q ≡ true → needs ≡ table_lengths (pool p q)
      → r ≡ cond (roomy needs rooms) 0 11 → r ≡ pool_refusal p q rooms
  by-room needs r e f n g =
      g ∙ ap (λ (ks : List ℕ). cond (roomy ks rooms) 0 11) n
      ∙ sym (in_order ∙ ap (λ (k : ℕ). or_else k sizes) e
      ∙ ap (λ (b : Bool). or_else (cond b 0 1) (cond (roomy (table_lengths (pool p q)) rooms) 0 11)) f)

-- ---- bounds and lengths

-- the three bounds in order
module _ (rows entries cones : ℕ) where
  pub many-rows : 65536 < rows → false ≡ (leb rows 65536 && leb entries 262144 && leb cones 1024)
  many-rows h = sym (rw (lt-leb rows 65536 h))

  pub many-entries : rows ≤ 65536 → 262144 < entries → false ≡ (leb rows 65536 && leb entries 262144 && leb cones 1024)
  many-entries l h = sym (rw (le-leb rows 65536 l, lt-leb entries 262144 h))

  pub by-cones : (r : Bool) → rows ≤ 65536 → entries ≤ 262144 → r ≡ leb cones 1024 → r ≡ (leb rows 65536 && leb entries 262144 && leb cones 1024)
  by-cones r l h e = e ∙ sym (rw (le-leb rows 65536 l, le-leb entries 262144 h))

-- the lengths of the pool's tables, from those of the two problems' tables
pub lengths-given : (p q : Problem) → Checked p → Checked q → p.n ≡ q.n
    → length p.P.starts ∷ length p.P.rows ∷ length p.P.values ∷ length p.q
    ∷ length p.A.starts ∷ (length p.A.rows + length q.A.rows) ∷ (length p.A.values + length q.A.values)
    ∷ (length p.b + length q.b) ∷ (length p.cones + length q.cones) ∷ (length p.alphas + length q.alphas)
    ∷ (length p.pattern_words + length q.pattern_words) ∷ []
    ≡ table_lengths (pool p q)
lengths-given p q hp hq same =
    rw ((right-first p q hp hq same).count, hp.length_b, hq.length_b) (sym (pool-lengths p q hp hq same))

pub needs-given : (p q : Problem) → Checked p × Checked q × (p.n ≡ q.n) → {rows values b cones alphas words : ℕ}
    → rows ≡ length p.A.rows + length q.A.rows → values ≡ length p.A.values + length q.A.values
    → b ≡ length p.b + length q.b → cones ≡ length p.cones + length q.cones
    → alphas ≡ length p.alphas + length q.alphas → words ≡ length p.pattern_words + length q.pattern_words
    → length p.P.starts ∷ length p.P.rows ∷ length p.P.values ∷ length p.q
    ∷ length p.A.starts ∷ rows ∷ values ∷ b ∷ cones ∷ alphas ∷ words ∷ []
    ≡ table_lengths (pool p q)
needs-given p q h er ev eb ec ea ew = rw (er, ev, eb, ec, ea, ew) (lengths-given p q h.0 h.1 h.2)
