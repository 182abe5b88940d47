use Prim.Native.Nat.{ℕ}
use native.Mathlib.Omega.{arith}
use mathlib.Core.Path.{◌≡◌, sym, ap, subst, ◌∙◌}
use mathlib.Core.List.{List}
use lib.Ieee.{Float}
use Rattle.layout.specs.General.Lists.{written}
use Rattle.layout.specs.Problems.Problem.{Problem}
use Rattle.layout.specs.Calls.Pool.{pool, Pool}
use Rattle.layout.specs.Calls.Tables.{Tables, tables, tables_of, table_rooms}
use Rattle.layout.proofs.Promises.{tables-kept}
use Rattle.layout.proofs.Checks.Accepted.{sound-cone-count}
use Rattle.layout.proofs.Pools.PoolTables.{Pooled, pooled}
use Rattle.constants.specs.Refusals.{number}
use Rattle.constants.proofs.Answers.{passed_on, number_positive}
use Rattle.problemdata.specs.Tables.{problem_of}
use Rattle.pool.proofs.Tables.{PoolFits, pool-fits, pool-count, pool-starts_of, pool-sums_fit, pool-raisable, pool-words_end, pool_origins, starts-written, rows_written, values-written}
use Rattle.pool.proofs.pool.Goals as goal
use Rattle.pool.proofs.pool.Goals.{Start, In_ok-refuse}

abbrev one : Start → Problem
one s = problem_of s.args.first.now

abbrev two : Start → Problem
two s = problem_of s.args.second.now

-- the outputs as passed
abbrev lent : Start → Tables
lent s =
    let a = s.args in
    tables a.p_starts_out.now a.p_rows_out.now a.p_values_out.now a.q_out.now a.a_starts_out.now a.a_rows_out.now
    a.a_values_out.now a.b_out.now a.cones_out.now a.alphas_out.now a.pattern_words_out.now

pub returns-in_err-refuse : goal.returns-in_err-refuse
returns-in_err-refuse c =
    let s = (goal.at.returns-in_err-refuse c).Start in
    let e = c.in_err-refuse.field-0.0 in
    let some = number_positive e in
    let none : number e ≡ 0 → ⊥ = λ z. omega (arith, some, z) in
    subst (Pool (one s) (two s) (lent s) (lent s)) (sym (passed_on c.from_residual.result e c.from_residual.ensures)) (record {
      number = c.in_err-refuse.ensures;
      tables = tables-kept (number e) none (tables_of (pool (one s) (two s))) (lent s);
    })

-- nothing is refused
accepted : (c : In_ok-refuse) → let s = (goal.at.In_ok-refuse c).Start in Pooled (one s) (two s) (table_rooms (lent s))
accepted c = let s = (goal.at.In_ok-refuse c).Start in pooled (one s) (two s) (table_rooms (lent s)) (sym c.in_ok-refuse.ensures)

fits : (c : In_ok-refuse) → let s = (goal.at.In_ok-refuse c).Start in PoolFits (one s) (two s) (lent s)
fits c = let s = (goal.at.In_ok-refuse c).Start in pool-fits (one s) (two s) (lent s) (accepted c)

pub copy_matrix-requires : goal.copy_matrix-requires
copy_matrix-requires c = let f = fits (goal.at.copy_matrix-requires c).In_ok-refuse in (f.p_starts, f.p_rows, f.p_values)

pub copy_front-requires : goal.copy_front-requires
copy_front-requires c = (fits (goal.at.copy_front-requires c).In_ok-refuse).q

pub write_constraints-requires : goal.write_constraints-requires
write_constraints-requires c =
    let k = (goal.at.write_constraints-requires c).In_ok-refuse in
    let s = (goal.at.write_constraints-requires c).Start in
    let h = accepted k in
    let f = fits k in
    let (starts, starts2) = pool-starts_of (one s) (two s) (lent s) h in
    record {
      starts = starts;
      starts2 = starts2;
      sums = pool-sums_fit (one s) (two s) (lent s) h;
      raisable = pool-raisable (one s) (two s) (lent s) h;
      a_starts = pool-count (one s) (two s) (lent s) h;
      a_rows = f.a_rows;
      a_values = f.a_values;
      b = f.b;
    }

pub write_layout-requires : goal.write_layout-requires
write_layout-requires c =
    let k = (goal.at.write_layout-requires c).In_ok-refuse in
    let s = (goal.at.write_layout-requires c).Start in
    let h = accepted k in
    let f = fits k in
    record {
      words2_value = (pool-words_end (one s) (two s) (lent s) h, pool_origins (one s) (two s) (lent s) h);
      cones_len_bound = sound-cone-count h.first.sound;
      cones2_in_bounds = (f.cones, f.alphas, f.words);
    }

pub returns : goal.returns
returns c =
    let s = (goal.at.returns c).Start in
    let k = (goal.at.returns c).In_ok-refuse in
    let p = one s in
    let other = two s in
    let t = lent s in
    let h = accepted k in record {
      number = c.in_ok-refuse.ensures;
      tables = record {
        objective = record {
          p_starts = c.copy_matrix.ensures.starts_out_after;
          p_rows = c.copy_matrix.ensures.rows_out_after;
          p_values = c.copy_matrix.ensures.values_out_after;
          q = c.copy_front.ensures;
          alphas = c.write_layout.ensures.alphas_out_after;
        };
        constrained = record {
          a_starts = c.write_constraints.ensures.a_starts ∙ ap (λ (xs : List ℕ). written xs t.A.starts) (starts-written p other t h);
          a_rows = c.write_constraints.ensures.a_rows ∙ ap (λ (xs : List ℕ). written xs t.A.rows) (rows_written p other t h);
          a_values = c.write_constraints.ensures.a_values ∙ ap (λ (xs : List Float). written xs t.A.values) (values-written p other t h);
          b = c.write_constraints.ensures.b;
          cones = c.write_layout.ensures.cones_out_after;
        };
        pattern_words = c.write_layout.ensures.words_out_after;
      };
    }
