use Prim.Native.Nat.{ℕ}
use native.Mathlib.Omega.{arith}
use mathlib.Core.Path.{◌≡◌, sym, ap, ap₂, ◌∙◌}
use mathlib.Core.Bool.{Bool, true, cond}
use lib.ListN.{length, length-replicate}
use lib.Ieee.{nan}
use Rattle.layout.specs.Problems.Problem.{Csc}
use Rattle.layout.specs.Calls.Answers.{or_else}
use Rattle.layout.specs.Files.FileWords.{unvalued}
use Rattle.csc.specs.Matrix.{matrix}
use Rattle.constants.proofs.Answers.{passed_on, number_positive}
use Rattle.check_problem.specs.Order.{bounds, matrices_refusal, records_refusal}
use Rattle.check_problem.proofs.Order.{first-given, bounds-cones}
use Rattle.check_problem.proofs.check_tables.Goals as goal
use Rattle.check_problem.proofs.check_tables.Goals.{Start}

abbrev P : Start → Csc
P s = matrix s.args.p_starts.now s.args.p_rows.now (unvalued s.args.p_entries)

abbrev A : Start → Csc
A s = matrix s.args.a_starts.now s.args.a_rows.now (unvalued s.args.a_entries)

abbrev first : Start → Bool
first s = bounds s.args.n s.args.m (length (A s).values) (length (P s).values) s.args.cones.now

abbrev second : Start → ℕ
second s = matrices_refusal s.args.n s.args.m (P s) (A s)

abbrev third : Start → ℕ
third s = records_refusal s.args.n s.args.m (unvalued s.args.q_count) (unvalued s.args.b_count) s.args.cones.now

-- check 1 depends on float tables only by their lengths
by_lengths : (s : Start) → let a = s.args in first s ≡ bounds a.n a.m a.a_entries a.p_entries a.cones.now
by_lengths s =
    let a = s.args in
    ap₂ (λ (x y : ℕ). bounds a.n a.m x y a.cones.now) (length-replicate a.a_entries nan) (length-replicate a.p_entries nan)

pub returns-then-not-bounded : goal.returns-then-not-bounded
returns-then-not-bounded c =
    let s = (goal.at.returns-then-not-bounded c).Start in
    sym (ap (λ (t : Bool). or_else (cond t 0 1) (or_else (second s) (third s))) (by_lengths s ∙ sym c.bounded.ensures ∙ c.if-not-bounded.true))

pub returns-in_err-check_matrices : goal.returns-in_err-check_matrices
returns-in_err-check_matrices c =
    let s = (goal.at.returns-in_err-check_matrices c).Start in
    let e = c.in_err-check_matrices.field-0.0 in
    let some = number_positive e in
    passed_on c.from_residual.result e c.from_residual.ensures
    ∙ (c.in_err-check_matrices.ensures
    ∙ sym (ap (λ (t : Bool). or_else (cond t 0 1) (or_else (second s) (third s))) (by_lengths s ∙ sym c.bounded.ensures ∙ c.if-not-bounded.false)
    ∙ first-given (second s) (third s) (λ z. omega (arith, some, c.in_err-check_matrices.ensures, z))))

pub check_records-requires : goal.check_records-requires
check_records-requires c =
    let s = (goal.at.check_records-requires c).Start in
    let a = c.args in
    bounds-cones a.n a.m a.a_entries a.p_entries a.cones.now (sym c.bounded.ensures ∙ c.if-not-bounded.false)

pub returns : goal.returns
returns c =
    let s = (goal.at.returns c).Start in
    c.check_records.ensures
    ∙ sym (ap₂ (λ (t : Bool) (x : ℕ). or_else (cond t 0 1) (or_else x (third s))) (by_lengths s ∙ sym c.bounded.ensures ∙ c.if-not-bounded.false) (sym c.in_ok-check_matrices.ensures))
